use Rattle.std.proofs.Common.{◌∙◌, [], ap, ℕ, List, Option}
use Rattle.std.specs.BTreeMap.{insert_entry}
use Rattle.std.specs.Option.{option_map_or}
use Rattle.std.specs.Ordering.{nat_cmp}
use Rattle.zq_index.specs.Texts.{text_cmp}
use Rattle.zq_interests.proofs.Writing.{written_over}
use Rattle.zq_dispatcher.specs.declared.folded.Part.{Part}
use Rattle.zq_dispatcher.specs.Parts.{Folds}
use Rattle.std.proofs.lemmas.Result.{on_ok_weaker}
use Rattle.zq_dispatcher.proofs.folds.put_beside.Goals as goal

pub returns : goal.returns
returns c =
    let n = c.args.place in
    let es : Folds = c.args.folds.now.entries in
    let key : List ℕ = c.args.key.now in
    let parts : List Part = c.args.parts in
    on_ok_weaker c.put.result
    (λ put.
    (c.get_mut.follows.holds c.put.new.self).0
    ∙ written_over n c.put.new.self es c.get_mut.ensures.ordered c.requires
    ∙ ap (insert_entry nat_cmp es n) (put ∙ ap (λ (o : Option (List (List ℕ × List Part))). insert_entry text_cmp (option_map_or (λ ks. ks) o []) key parts) c.in-Some.ensures.value))
    c.put.ensures
