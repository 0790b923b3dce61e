use Rattle.std.proofs.Common.{◌∙◌, ap, map, None}
use Rattle.std.specs.List.{filter_map}
use Rattle.zq_strategy.specs.declared.network.Network.{Network}
use Rattle.zq_strategy.specs.Nets.{child_ids, fresh_ids}
use Rattle.zq_strategy.specs.Seating.{number, other_seated}
use Rattle.zq_strategy.proofs.Sitting.{faces_are}
use Rattle.zq_routers.proofs.networks.fresh_faces.Goals as goal

pub returns : goal.returns
returns c =
    let root = c.args.root in
    let tree = c.args.tree.now in
    let ids = c.deref.ensures.value ∙ c.in_ok-ids.ensures ∙ ap (λ (n : Network). child_ids n tree) c.network.ensures in
    let fresh = c.deref-2.ensures.value ∙ c.in_ok-fresh.ensures ∙ ap (fresh_ids c.args.before.now root) ids in
    ap (map number) (c.in_ok-faces.ensures ∙ ap (filter_map (other_seated None c.args.seats.now)) fresh)
    ∙ faces_are None c.args.seats.now (fresh_ids c.args.before.now root (child_ids c.args.net.now tree))
