use Rattle.std.proofs.Common.{◌∙◌, ap, [], ◌∷◌, ◌++◌}
use Rattle.zq_route.proofs.Pairs.{pairs_pushed}
use Rattle.zq_route.proofs.builder.RouteBuilder.put.Goals as goal

pub returns-clause-ok : goal.returns-clause-ok
returns-clause-ok g c =
    let i = c.self.inside in
    rw (c.push_reserved.ensures.items, c.in_ok-reserve.ensures.items, c.in-Ok.ensures.ok)
    (pairs_pushed i.faces i.route.items c.args.face.0 c.args.element c.self.invariant ∙ ap (λ l. l ++ (c.args.face.0, c.args.element) ∷ []) c.self.view_is)
