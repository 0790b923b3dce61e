use Rattle.std.proofs.Common.{◌∙◌, [], ap, ℕ, List, Option}
use Rattle.std.specs.BTreeMap.{insert_entry}
use Rattle.std.specs.BTreeSet.{insert_key}
use Rattle.std.specs.Option.{option_map_or}
use Rattle.std.specs.Ordering.{nat_cmp}
use Rattle.zq_index.specs.Texts.{text_cmp}
use Rattle.zq_interests.proofs.Writing.{written_over}
use Rattle.zq_dispatcher.specs.Owns.{Owns}
use Rattle.std.proofs.lemmas.Result.{on_ok_weaker}
use Rattle.zq_dispatcher.proofs.owns.put_beside.Goals as goal

pub returns : goal.returns
returns c =
    let n = c.args.face in
    let es : Owns = c.args.owns.now.entries in
    let key : List ℕ = c.args.key.now in
    on_ok_weaker c.put.result
    (λ put.
    (c.get_mut.follows.holds c.put.new.self).0
    ∙ written_over n c.put.new.self es c.get_mut.ensures.ordered c.requires
    ∙ ap (insert_entry nat_cmp es n) (put ∙ ap (λ (o : Option (List (List ℕ))). insert_key text_cmp (option_map_or (λ ks. ks) o []) key) c.in-Some.ensures.value))
    c.put.ensures
