use Rattle.std.proofs.Common.{◌∙◌, sym, ap, refl, subst, Some, cond}
use Rattle.std.specs.Prelude.{unwrap_or, IsSome}
use Rattle.std.specs.Ordering.{nat_cmp}
use Rattle.std.specs.Cmp.{nat_cmp_total}
use Rattle.std.specs.Map.{set_value}
use Rattle.std.specs.BTreeMap.{is_at}
use Rattle.std.proofs.lemmas.Map.Lookups.{exact_unsigned}
use Rattle.std.proofs.lemmas.Map.Steps.{set_value_same}
use Rattle.zq_message.specs.Region.{region_index}
use Rattle.zq_message.specs.RegionMap.{value_at}
use Rattle.zq_key.proofs.Lookups.{found_after_write}
use Rattle.zq_route.specs.Routes.{with_route}
use Rattle.zq_kept.specs.Parts.{no_routes}
use Rattle.zq_kept.proofs.text.set_beside.Goals as goal

pub returns-in-Ok-clause-ok : goal.returns-in-Ok-clause-ok
returns-in-Ok-clause-ok g c r =
    let old = c.args.regions.now in
    let i = region_index c.args.spot.dst in
    let there = c.in-Some.ensures.value in
    ap (λ m. value_at m r) (c.get_mut.follows.holds c.set_route.new.self)
    ∙ found_after_write nat_cmp_total exact_unsigned i (region_index r) c.set_route.new.self old (subst IsSome there refl)
    ∙ ap (λ u. cond (is_at (nat_cmp i) (region_index r)) (Some u) (value_at old r)) (c.in-Ok.ensures.ok ∙ ap (λ o. with_route c.args.spot.version c.args.spot.src c.args.spot.node c.args.route (unwrap_or o no_routes)) there)

pub returns-in-Err-clause-err : goal.returns-in-Err-clause-err
returns-in-Err-clause-err g c =
    let old = c.args.regions.now in
    let i = region_index c.args.spot.dst in
    c.get_mut.follows.holds c.set_route.new.self
    ∙ ap (set_value (is_at (nat_cmp i)) old) c.in-Err.ensures.err
    ∙ set_value_same (is_at (nat_cmp i)) old c.in-Some.routes.now (sym c.in-Some.ensures.value)
