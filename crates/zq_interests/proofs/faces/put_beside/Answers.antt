use Rattle.std.proofs.Common.{◌≡◌, ◌∙◌, ap, sym, Some, []}
use Rattle.std.specs.Option.{option_map_or}
use Rattle.std.specs.BTreeMap.{insert_entry, is_at}
use Rattle.std.specs.Map.{set_value}
use Rattle.std.specs.Ordering.{nat_cmp}
use Rattle.std.proofs.lemmas.Map.Steps.{set_value_same}
use Rattle.zq_interests.specs.Interests.{Asked, Interests, at}
use Rattle.zq_interests.proofs.Writing.{written_over}
use Rattle.zq_interests.proofs.faces.put_beside.Goals as goal

pub returns-in-Ok-clause-ok : goal.returns-in-Ok-clause-ok
returns-in-Ok-clause-ok c =
    let n = c.args.face in
    let es : Interests = c.args.faces.now.entries in
    let was : Asked = c.in-Some.asked.now in
    let there : at n es ≡ Some was = sym c.in-Some.ensures.value in
    (c.get_mut.follows.holds c.put.new.self).0
    ∙ written_over n c.put.new.self es c.get_mut.ensures.ordered c.requires
    ∙ ap (insert_entry nat_cmp es n) (c.in-Ok.ensures.ok ∙ ap (λ o. insert_entry nat_cmp (option_map_or (λ (a : Asked). a) o []) c.args.id c.args.entry) (sym there))

pub returns-in-Err-clause-err : goal.returns-in-Err-clause-err
returns-in-Err-clause-err c =
    let n = c.args.face in
    let es : Interests = c.args.faces.now.entries in
    let was : Asked = c.in-Some.asked.now in
    let there : at n es ≡ Some was = sym c.in-Some.ensures.value in
    (c.get_mut.follows.holds c.put.new.self).0
    ∙ ap (set_value (is_at (nat_cmp n)) es) c.in-Err.ensures.err
    ∙ set_value_same (is_at (nat_cmp n)) es was there
