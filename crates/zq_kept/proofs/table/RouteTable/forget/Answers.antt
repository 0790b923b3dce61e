use Rattle.std.proofs.Common.{◌∙◌, sym, ap}
use Rattle.zq_kept.specs.Table.{route_of}
use Rattle.zq_kept.proofs.Places.{fewer_out, forgotten, others_out}
use Rattle.zq_kept.proofs.table.RouteTable.forget.Goals as goal

pub invariant_of-self : goal.invariant_of-self
invariant_of-self g c = forgotten _ _ _ c.self.invariant c.args.key.now c.take_out.ensures.after c.take_out.ensures.gone

pub returns-clause-fewer : goal.returns-clause-fewer
returns-clause-fewer g c r k s n route is =
    ap (route_of r k s n) (sym c.self.view_is)
    ∙ fewer_out _ _ _ c.args.key.now c.take_out.ensures.after c.take_out.ensures.gone r k s n route is

pub returns-clause-others : goal.returns-clause-others
returns-clause-others g c r k s n apart =
    others_out _ _ _ c.args.key.now c.take_out.ensures.after r k s n apart
    ∙ ap (route_of r k s n) c.self.view_is
