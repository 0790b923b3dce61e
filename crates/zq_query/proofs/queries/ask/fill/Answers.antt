use Rattle.std.proofs.Common.{◌∙◌, ℕ, List, sym, ap, get_or}
use Rattle.std.specs.BTreeMap.{insert_entry}
use Rattle.std.proofs.lemmas.List.Sums.{fold_more}
use Rattle.zq_query.specs.declared.queries.Owed.{Owed}
use Rattle.zq_query.specs.Tables.{Place, place_cmp}
use Rattle.zq_query.proofs.queries.ask.fill.Goals as goal

pub loop-i-preserved : goal.loop-i-preserved
loop-i-preserved c =
    let p : ℕ × ℕ = get_or c.args.places.now c.loop-i.i (0, 0) in
    c.in-Ok.ensures.entries
    ∙ ap (λ (l : List (Place × Owed)). insert_entry place_cmp l p c.args.owed) c.loop-i.invariant
    ∙ sym (fold_more (λ (z : List (Place × Owed)) (q : ℕ × ℕ). insert_entry place_cmp z q c.args.owed) c.args.pending.now.entries c.args.places.now c.loop-i.i (0, 0) c.loop-i-test.true)

pub returns-in-Err-clause-err : goal.returns-in-Err-clause-err
returns-in-Err-clause-err c = c.empty.ensures c.args.pending.now.entries c.args.owed c.requires (c.in-Err.ensures.err ∙ c.loop-i.invariant)
