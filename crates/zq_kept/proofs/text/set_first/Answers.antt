use Rattle.std.proofs.Common.{◌∙◌, sym, ap, Some, cond}
use Rattle.std.specs.Prelude.{unwrap_or}
use Rattle.std.specs.Ordering.{nat_cmp}
use Rattle.std.specs.Cmp.{nat_cmp_total}
use Rattle.std.specs.BTreeMap.{is_at}
use Rattle.std.proofs.lemmas.Map.Lookups.{exact_unsigned}
use Rattle.zq_message.specs.Region.{region_index}
use Rattle.zq_message.specs.RegionMap.{value_at}
use Rattle.zq_key.proofs.Lookups.{found_after_insertion}
use Rattle.zq_route.specs.Routes.{with_route}
use Rattle.zq_kept.specs.Parts.{no_routes}
use Rattle.zq_kept.proofs.text.set_first.Goals as goal

pub returns-clause-ok : goal.returns-clause-ok
returns-clause-ok g c r =
    let old = c.args.regions.now in
    let i = region_index c.args.spot.dst in
    ap (λ m. value_at m r) c.in_ok-insert.ensures.new
    ∙ found_after_insertion nat_cmp_total exact_unsigned i (region_index r) c.set_route.new.self old
    ∙ ap (λ u. cond (is_at (nat_cmp i) (region_index r)) (Some u) (value_at old r))
    (c.in_ok-set_route.ensures.ok
    ∙ ap (with_route c.args.spot.version c.args.spot.src c.args.spot.node c.args.route) c.new-routes.ensures
    ∙ ap (λ o. with_route c.args.spot.version c.args.spot.src c.args.spot.node c.args.route (unwrap_or o no_routes)) (sym c.requires.absent))
