use Rattle.std.proofs.Common.{◌∙◌, ap}
use Rattle.zq_strategy.specs.declared.network.Network.{Network}
use Rattle.zq_strategy.specs.Nets.{is_listed}
use Rattle.zq_strategy.proofs.Places.{placed_listed}
use Rattle.zq_strategy.proofs.nets.IndexedNetwork.is_listed.Goals as goal

pub returns : goal.returns
returns c =
    let i = c.self.inside in
    c.contains_key.ensures ∙ placed_listed i.network.nodes i.places.entries c.self.invariant c.args.zid ∙ ap (λ (n : Network). is_listed n c.args.zid) c.self.view_is
