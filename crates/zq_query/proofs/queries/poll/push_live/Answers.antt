use Rattle.std.proofs.Common.{◌∙◌, ◌++◌, ◌∷◌, [], List, sym, ap, get_or, take, append_assoc}
use Rattle.std.specs.Prelude.{if◌then◌else◌}
use Rattle.std.specs.List.{filter}
use Rattle.std.proofs.lemmas.List.{take_more}
use Rattle.std.proofs.lemmas.List.Elements.{filter-append}
use Rattle.zq_query.specs.Tables.{Place}
use Rattle.zq_query.specs.DueEntries.{is_owed_at}
use Rattle.zq_query.proofs.queries.poll.push_live.Goals as goal

pub loop-place-preserved : goal.loop-place-preserved
loop-place-preserved c =
    let f = is_owed_at c.args.pending.now.entries c.args.number in
    let ps = c.args.places.now in
    let i = c.loop-place.place-index in
    let p : Place = get_or ps i (0, 0) in
    let old : List Place = c.args.live.now.items in
    let none : List Place = [] in
    c.in-Ok.ensures
    ∙ (λ j. c.loop-place.invariant j ++ (if c.is_owed_at.ensures j then p ∷ none else none))
    ∙ append_assoc old (filter f (take i ps)) (filter f (p ∷ none))
    ∙ ap (λ l. old ++ l) (sym (ap (filter f) (take_more ps i (0, 0) c.loop-place-test.true) ∙ filter-append f (take i ps) (p ∷ none)))
