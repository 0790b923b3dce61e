use Rattle.std.proofs.Common.{◌≡◌, ◌∙◌, sym, ap, subst, arith, ◌++◌, ◌∷◌, [], take, get_or, ◌<◌, ◌≤◌, ◌-◌}
use Rattle.std.specs.String.{string_bytes}
use Rattle.zq_index.specs.Skipping.{SkipsListed}
use Rattle.zq_index.proofs.Skipping.{skips_nearer}
use Rattle.zq_index.proofs.search.to_byte.Goals as goal

pub returns : goal.returns
returns c lists q skips =
    let key = c.args.key.now in
    let at = c.args.at in
    let least = c.min-least.result in
    let after : get_or key at 0 < least = subst (λ t. get_or t at 0 < least) c.as_bytes.ensures.value c.if-as_bytes-at.false in
    let below : least ≤ c.args.byte = omega (arith, c.min-least.ensures) in
    let front : at - 0 ≡ at = omega arith in
    let wrote : string_bytes c.write_bound.new.bound ≡ take at key ++ least ∷ [] = c.in_ok-write_bound.ensures ∙ ap (λ t. t ++ least ∷ []) c.range.ensures.value ∙ ap (λ n. take n key ++ least ∷ []) front in
    let nearer = skips_nearer q key at c.args.byte least c.requires.in_range after below skips in
    subst (SkipsListed lists q key) (sym wrote) record { after = nearer.after; none = λ t above under listed. nearer.none t above under }
