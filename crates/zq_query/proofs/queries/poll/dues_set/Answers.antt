use Rattle.std.proofs.Common.{◌∙◌, [], ◌∷◌, sym, ap, get_or, take}
use Rattle.std.specs.Prelude.{◌||◌}
use Rattle.std.specs.List.{filter_map, cons_option}
use Rattle.std.specs.BTreeMap.{is_at}
use Rattle.std.proofs.lemmas.List.{take_more}
use Rattle.std.proofs.lemmas.List.Folds.{list_any-append}
use Rattle.std.proofs.lemmas.List.Elements.{filter_map-append}
use Rattle.zq_query.specs.FaceEntries.{has_key}
use Rattle.zq_query.specs.Tables.{Place, due_cmp}
use Rattle.zq_query.specs.DueEntries.{due_at}
use Rattle.zq_query.proofs.queries.poll.dues_set.Goals as goal

pub loop-place-preserved : goal.loop-place-preserved
loop-place-preserved c = λ q.
    let f = due_at c.args.pending.now.entries in
    let ps = c.args.places.now in
    let i = c.loop-place.place-index in
    let p : Place = get_or ps i (0, 0) in
    c.in-Ok.ensures q
    ∙ ap (λ b. b || has_key due_cmp q (cons_option (f p) [])) (c.loop-place.invariant q)
    ∙ sym (ap (λ l. has_key due_cmp q (filter_map f l)) (take_more ps i (0, 0) c.loop-place-test.true)
    ∙ ap (has_key due_cmp q) (filter_map-append f (take i ps) (p ∷ []))
    ∙ list_any-append (is_at (due_cmp q)) (filter_map f (take i ps)) (cons_option (f p) []))
