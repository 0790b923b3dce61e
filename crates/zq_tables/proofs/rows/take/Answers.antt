use Rattle.std.proofs.Common.{◌≡◌, ◌∙◌, ◌<◌, ℕ, List, length, sym, ap, arith}
use Rattle.std.proofs.lemmas.Bool.Decides.{nat_tests}
use Rattle.std.specs.List.{remove}
use Rattle.std.specs.Map.{remove_entry}
use Rattle.std.specs.Ordering.{nat_cmp}
use Rattle.std.specs.BTreeMap.{is_at}
use Rattle.zq_tables.specs.Naming.{row_at}
use Rattle.zq_tables.proofs.EntryRows.{row_gone, row_kept, row_now, row_there}
use Rattle.zq_tables.proofs.rows.take.Goals as goal

pub returns-then-is_bare-clause-rows : goal.returns-then-is_bare-clause-rows
returns-then-is_bare-clause-rows c =
    let rows = c.args.rows.now.entries in
    let region = c.args.region in
    let xs = remove (row_at region rows) c.args.at in
    let there = row_there rows region c.args.at c.requires in
    let now : row_at region c.take_from-node.new.rows.entries ≡ xs = ap (row_at region) c.take_from-node.ensures.rows ∙ row_now rows region there.0 xs there.1 in
    let bare : length (row_at region c.take_from-node.new.rows.entries) ≡ 0 = (let is = sym c.is_bare.ensures ∙ c.if-is_bare.true in grind (arith, nat_tests)) in
    c.remove.ensures.entries ∙ ap (remove_entry (is_at (nat_cmp region))) c.take_from-node.ensures.rows ∙ row_gone rows region xs (sym (ap length now) ∙ bare)

pub returns-else-is_bare-clause-rows : goal.returns-else-is_bare-clause-rows
returns-else-is_bare-clause-rows c =
    let rows = c.args.rows.now.entries in
    let region = c.args.region in
    let xs = remove (row_at region rows) c.args.at in
    let there = row_there rows region c.args.at c.requires in
    let now : row_at region c.take_from-node.new.rows.entries ≡ xs = ap (row_at region) c.take_from-node.ensures.rows ∙ row_now rows region there.0 xs there.1 in
    let some : 0 < length (row_at region c.take_from-node.new.rows.entries) = (let is = sym c.is_bare.ensures ∙ c.if-is_bare.false in grind (arith, nat_tests)) in
    c.take_from-node.ensures.rows ∙ row_kept rows region there.0 xs c.len-regions.ensures.ordered there.1 (omega (arith, ap length now, some))
