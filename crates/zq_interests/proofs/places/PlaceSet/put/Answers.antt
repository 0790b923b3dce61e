use Rattle.std.proofs.Common.{◌∙◌, ap, List}
use Rattle.std.specs.Prelude.{◌||◌}
use Rattle.std.specs.BTreeMap.{is_at}
use Rattle.zq_index.specs.Holders.{Place, place_cmp}
use Rattle.zq_interests.specs.Kept.{has_place}
use Rattle.zq_interests.proofs.Under.{joins}
use Rattle.zq_interests.proofs.places.PlaceSet.put.Goals as goal

pub returns-clause-ok : goal.returns-clause-ok
returns-clause-ok c = λ q. c.in_ok-insert.ensures.updates.0 q ∙ joins (is_at (place_cmp c.args.place) q) (has_place q c.self.inside.places.keys) ∙ ap (λ (ps : List Place). is_at (place_cmp c.args.place) q || has_place q ps) c.self.view_is
