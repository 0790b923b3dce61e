use Rattle.std.proofs.Common.{arith}
use Rattle.zq_key.proofs.Strips.{at_slash}
use Rattle.zq_key.proofs.space.split_first_chunk.Goals as goal

pub split_at-requires : goal.split_at-requires
split_at-requires c =
    let h = rw c.as_bytes.ensures.value at c.in-Some.ensures in
    let k = at_slash c.args.text.now c.in-Some.at h in
    (omega (arith, k.0), λ l h. absurd (omega (arith, k.1, h)))
