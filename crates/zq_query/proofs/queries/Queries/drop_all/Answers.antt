use Rattle.std.proofs.Common.{◌∙◌, sym, ap, get_or, List, ℕ}
use Rattle.std.proofs.lemmas.List.Sums.{fold_more}
use Rattle.zq_query.specs.Records.{QueryState, Record, is_entry, letting_go}
use Rattle.zq_query.proofs.queries.Queries.drop_all.Goals as goal

pub loop-place-preserved : goal.loop-place-preserved
loop-place-preserved c =
    let s = c.args.self.now in
    let p : ℕ × ℕ = get_or c.args.places.now c.loop-place.place-index (0, 0) in
    c.let_go.ensures.records
    ∙ ap (λ (z : QueryState). record z { records = letting_go (is_entry p.0 p.1) z.records }) c.loop-place.invariant
    ∙ ap (λ (l : List Record). record s { records = l }) (sym (fold_more (λ (l : List Record) (q : ℕ × ℕ). letting_go (is_entry q.0 q.1) l) s.records c.args.places.now c.loop-place.place-index (0, 0) c.loop-place-test.true))
