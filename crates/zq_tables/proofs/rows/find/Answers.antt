use Rattle.std.proofs.Common.{ℕ, List, Some, None, sym, subst}
use Rattle.std.specs.List.{All}
use Rattle.zq_tables.specs.Holding.{GoesTo, IsNode, node_texts}
use Rattle.zq_tables.proofs.EntryRows.{row_is}
use Rattle.zq_tables.proofs.RowPlaces.{goes_first}
use Rattle.zq_tables.proofs.rows.find.Goals as goal

pub find_in-requires-clause-live : goal.find_in-requires-clause-live
find_in-requires-clause-live c =
    let L : List ℕ → Type 0 = All (IsNode c.args.names.now) in
    subst L (row_is c.args.rows.now.entries c.args.region (Some c.in-Some.row.now) (sym c.in-Some.ensures.value)) c.requires.live

pub returns-in-None-clause-absent : goal.returns-in-None-clause-absent
returns-in-None-clause-absent c =
    let G : List ℕ → Type 0 = λ (row : List ℕ). GoesTo (node_texts c.args.names.now row) c.args.key.now 0 in
    subst G (sym (row_is c.args.rows.now.entries c.args.region None (sym c.in-None.ensures.value))) (goes_first c.args.key.now)
