use Rattle.std.proofs.Common.{◌≡◌, ◌∙◌, sym, ap, refl, Some, None, Ok}
use Rattle.std.specs.Option.{option_copied}
use Rattle.zq_route.proofs.Stored.{settled, there}
use Rattle.zq_route.proofs.routes.get_or_set_route.Goals as goal

pub unreachable-requires : goal.unreachable-requires
unreachable-requires g c =
    there _ c.args.version c.args.region.now c.args.node c.args.routes.now c.fill.new.routes c.in_ok-fill.ensures.stored c.in_ok-fill.ensures.computed (sym c.in-None.ensures)

pub returns : goal.returns
returns g c =
    let s = settled _ c.args.version c.args.region.now c.args.node c.args.routes.now c.fill.new.routes c.in-Some.route.now c.in-Some.ensures c.in_ok-fill.ensures.stored c.in_ok-fill.ensures.computed in
    ((refl, (λ _. tt), s.0), record { after = tt; stored = s.1; computed = s.2 })
