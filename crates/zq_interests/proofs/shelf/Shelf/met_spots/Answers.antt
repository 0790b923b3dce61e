use Rattle.std.proofs.Common.{◌≡◌, ◌∙◌, List, ap, fold, subst, sym, [], true}
use Rattle.std.specs.List.{AllByRecursion, flat_map}
use Rattle.zq_key.specs.Key.{is_key}
use Rattle.zq_index.specs.Texts.{texts_of}
use Rattle.zq_interests.specs.Kept.{Spot, spots_at, with_spot}
use Rattle.zq_interests.proofs.Folders.{spots_joined, spots_keys}
use Rattle.zq_interests.proofs.shelf.Shelf.met_spots.Goals as goal

pub returns-clause-valid : goal.returns-clause-valid
returns-clause-valid c =
    let key = c.args.key.now in
    let keyed = texts_of c.self.inside.keyed.entries in
    subst (AllByRecursion (λ (s : Spot). is_key s.1 ≡ true))
    (sym (c.in_ok-add_met_spots.ensures.spots ∙ ap (λ (l : List Spot). fold with_spot l (flat_map (spots_at key) keyed)) c.new-found.ensures ∙ spots_joined [] (flat_map (spots_at key) keyed)))
    (spots_keys key keyed c.self.invariant.keys)
