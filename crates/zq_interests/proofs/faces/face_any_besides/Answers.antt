use Rattle.std.proofs.Common.{◌∙◌, sym, ap, []}
use Rattle.std.specs.BTreeMap.{is_at}
use Rattle.std.specs.List.{list_any}
use Rattle.std.specs.Map.{remove_entry}
use Rattle.std.specs.Option.{option_map_or}
use Rattle.std.specs.Ordering.{nat_cmp}
use Rattle.zq_interests.specs.Interests.{Asked, Interests, is_passing}
use Rattle.zq_interests.proofs.Besides.{left_of}
use Rattle.zq_interests.proofs.faces.face_any_besides.Goals as goal

pub returns-in-Some : goal.returns-in-Some
returns-in-Some c =
    let id = c.args.id in
    let test = is_passing c.args.test c.args.key.now in
    let ints : Interests = c.args.faces.now.entries in
    c.any_besides.ensures
    ∙ ap (λ o. list_any test (remove_entry (is_at (nat_cmp id)) (option_map_or (λ (es : Asked). es) o []))) c.in-Some.ensures.value
    ∙ ap (list_any test) (sym (left_of ints c.args.face id))

pub returns-in-None : goal.returns-in-None
returns-in-None c =
    let id = c.args.id in
    let test = is_passing c.args.test c.args.key.now in
    let ints : Interests = c.args.faces.now.entries in
    ap (λ o. list_any test (remove_entry (is_at (nat_cmp id)) (option_map_or (λ (es : Asked). es) o []))) c.in-None.ensures.value
    ∙ ap (list_any test) (sym (left_of ints c.args.face id))
