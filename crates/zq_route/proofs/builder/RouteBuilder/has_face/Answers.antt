use Rattle.std.proofs.Common.{◌∙◌, sym, ap}
use Rattle.zq_route.specs.Built.{has_face}
use Rattle.zq_route.proofs.Pairs.{any_paired}
use Rattle.zq_route.proofs.builder.RouteBuilder.has_face.Goals as goal

pub returns : goal.returns
returns g c =
    let i = c.self.inside in
    c.has.ensures ∙ sym (any_paired c.args.face.0 i.faces i.route.items c.self.invariant) ∙ ap (has_face c.args.face.0) c.self.view_is
