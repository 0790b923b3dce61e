use Rattle.std.proofs.Common.{◌∙◌, ap, ◌<◌, ◌^◌, arith}
use Rattle.std.specs.Prelude.{codes}
use Rattle.zq_key.specs.Space.{behind}
use Rattle.zq_io.specs.Words.{lacks}
use Rattle.zq_admin.proofs.Tame.{ok_lacks, zid_lacks}
use Rattle.zq_admin.proofs.fronts.zid_front.Goals as goal

pub returns-clause-tame : goal.returns-clause-tame
returns-clause-tame c =
    let small : c.args.zid.0 < 10 ^ 64 = omega arith in
    ok_lacks 42 (behind (codes "@") c.format.result.now) c.behind.result c.behind.ensures (ap (λ d. lacks 42 (behind (codes "@") d)) c.format.ensures.text ∙ zid_lacks c.args.zid.0 small)
