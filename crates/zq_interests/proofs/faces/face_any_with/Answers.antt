use Rattle.std.proofs.Common.{◌∙◌, sym, ap, []}
use Rattle.std.specs.BTreeMap.{insert_entry}
use Rattle.std.specs.List.{list_any}
use Rattle.std.specs.Option.{option_map_or}
use Rattle.std.specs.Ordering.{nat_cmp}
use Rattle.zq_interests.specs.Interests.{Asked, Interests, is_passing}
use Rattle.zq_interests.proofs.Asking.{or_none}
use Rattle.zq_interests.proofs.Besides.{put_of}
use Rattle.zq_interests.proofs.faces.face_any_with.Goals as goal

pub returns-in-Some : goal.returns-in-Some
returns-in-Some c =
    let id = c.args.id in
    let test = is_passing c.args.test c.args.key.now in
    let ints : Interests = c.args.faces.now.entries in
    c.any_with.ensures
    ∙ ap (λ o. list_any test (insert_entry nat_cmp (option_map_or (λ (es : Asked). es) o []) id c.args.entry.now)) c.in-Some.ensures.value
    ∙ ap (list_any test) (sym (put_of ints c.args.face id c.args.entry.now))

pub returns-in-None : goal.returns-in-None
returns-in-None c =
    let id = c.args.id in
    let test = is_passing c.args.test c.args.key.now in
    let ints : Interests = c.args.faces.now.entries in
    c.passes.ensures
    ∙ or_none (test (id, c.args.entry.now))
    ∙ ap (λ o. list_any test (insert_entry nat_cmp (option_map_or (λ (es : Asked). es) o []) id c.args.entry.now)) c.in-None.ensures.value
    ∙ ap (list_any test) (sym (put_of ints c.args.face id c.args.entry.now))
