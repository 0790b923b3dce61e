use Rattle.std.proofs.Common.{◌∙◌, ap, refl}
use Rattle.zq_strategy.specs.Kept.{has_face}
use Rattle.zq_strategy.specs.Regions.{strategy_of}
use Rattle.zq_strategy.specs.State.{FaceState, HatState}
use Rattle.zq_hat.proofs.Marking.{noded_tied}
use Rattle.zq_hat.proofs.Seated.{set_seated}
use Rattle.zq_hat.proofs.hat.Hat.set_node_ids.Goals as goal

pub invariant_of-self : goal.invariant_of-self
invariant_of-self c =
    let i = c.self.inside in
    let n = c.args.face.0 in
    let there = ap (λ (s : HatState). has_face n s) c.self.view_is ∙ c.requires in
    record {
      tied = noded_tied i.faces.entries i.index c.self.invariant.tied n c.args.ids c.set_nodes.new.faces.entries there c.set_nodes.ensures;
      seated = set_seated (strategy_of i.region i.north_mode) i.faces.entries i.seats c.self.invariant.seated n c.set_nodes.new.faces.entries (λ (f : FaceState). record f { nodes = c.args.ids }) (λ f. refl) there c.set_nodes.ensures;
    }
