use Rattle.std.proofs.Common.{◌∙◌, sym, ap}
use Rattle.std.specs.Map.{values_of}
use Rattle.zq_route.proofs.Pairs.{elements}
use Rattle.zq_route.proofs.builder.RouteBuilder.build.Goals as goal

pub returns : goal.returns
returns g c =
    let i = c.self.inside in
    sym (elements i.faces i.route.items c.self.invariant) ∙ ap values_of c.self.view_is
