use Rattle.std.proofs.Common.{◌≡◌, ◌∙◌, ap, map, subst, sym, [], true}
use Rattle.std.specs.Prelude.{filter}
use Rattle.std.specs.List.{AllByRecursion, flat_map}
use Rattle.zq_key.specs.Key.{is_key}
use Rattle.zq_interests.specs.declared.types.FaceKey.{FaceKey}
use Rattle.zq_interests.specs.Interests.{AreFolders}
use Rattle.zq_interests.specs.Kept.{folder_at, is_folding, spots_at}
use Rattle.zq_interests.proofs.Folders.{are_folders, folders_keys, spots_joined}
use Rattle.zq_interests.proofs.kept.kept_folders.Goals as goal

pub returns-clause-found : goal.returns-clause-found
returns-clause-found c =
    let ints = c.args.faces.now.entries in
    let key = c.args.key.now in
    subst (AreFolders key ints)
    (sym (c.in_ok-list_folders.ensures
    ∙ ap (λ spots. map folder_at (filter (is_folding ints) spots)) (c.as_slice.ensures ∙ c.in_ok-spots.ensures.spots ∙ spots_joined [] (flat_map (spots_at key) c.args.shelf.now.keyed))))
    (are_folders ints c.args.shelf.now c.requires.kept key c.in_ok-spots.ensures.ordered)

pub returns-clause-valid : goal.returns-clause-valid
returns-clause-valid c =
    let ints = c.args.faces.now.entries in
    subst (AllByRecursion (λ (f : FaceKey). is_key f.key ≡ true))
    (sym (c.in_ok-list_folders.ensures ∙ ap (λ spots. map folder_at (filter (is_folding ints) spots)) c.as_slice.ensures))
    (folders_keys ints c.in_ok-spots.spots c.in_ok-spots.ensures.valid)
