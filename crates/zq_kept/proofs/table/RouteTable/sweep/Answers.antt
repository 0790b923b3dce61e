use Rattle.std.proofs.Common.{◌∙◌, ap, None, cond}
use Rattle.zq_tables.specs.Naming.{has_context}
use Rattle.zq_kept.specs.Table.{route_of}
use Rattle.zq_kept.proofs.Sweeping.{swept_routes, swept_table}
use Rattle.zq_kept.proofs.table.RouteTable.sweep.Goals as goal

pub invariant_of-self : goal.invariant_of-self
invariant_of-self g c = swept_table _ _ _ (λ k. has_context k c.args.names.now) c.retain_named.ensures c.self.invariant

pub returns-clause-routes : goal.returns-clause-routes
returns-clause-routes g c r k s n =
    swept_routes _ _ _ (λ t. has_context t c.args.names.now) c.retain_named.ensures r k s n
    ∙ ap (λ t. cond (has_context k c.args.names.now) (route_of r k s n t) None) c.self.view_is
