use Rattle.std.proofs.Common.{◌∙◌, ap, List}
use Rattle.std.specs.Prelude.{not, ◌&&◌}
use Rattle.std.specs.BTreeMap.{is_at}
use Rattle.zq_index.specs.Holders.{Place, place_cmp}
use Rattle.zq_interests.specs.Kept.{has_place}
use Rattle.zq_interests.proofs.Under.{leaves}
use Rattle.zq_interests.proofs.places.PlaceSet.take.Goals as goal

pub returns-clause-after : goal.returns-clause-after
returns-clause-after c = λ q. c.remove.ensures.updates.0 q ∙ leaves (is_at (place_cmp c.args.place) q) (has_place q c.self.inside.places.keys) ∙ ap (λ (ps : List Place). not (is_at (place_cmp c.args.place) q) && has_place q ps) c.self.view_is
