use Rattle.std.proofs.Common.{◌≡◌, ◌∙◌, ◌<◌, ℕ, List, length, sym, ap, arith}
use Rattle.std.specs.List.{insert}
use Rattle.std.specs.Ordering.{nat_cmp}
use Rattle.std.specs.Map.{set_value}
use Rattle.std.specs.BTreeMap.{is_at}
use Rattle.std.proofs.lemmas.List.Edits.{length-insert}
use Rattle.std.proofs.lemmas.Map.Steps.{set_value_same}
use Rattle.std.proofs.lemmas.Result.{on_err_weaker, on_ok_weaker}
use Rattle.zq_tables.proofs.EntryRows.{row_put}
use Rattle.zq_tables.proofs.rows.put.Goals as goal

pub returns-clause-ok : goal.returns-clause-ok
returns-clause-ok c =
    let rows = c.args.rows.now.entries in
    let row = c.in-Some.row.now in
    let written = (c.get_mut.follows.holds c.put_in.new.row).0 in
    on_ok_weaker c.put_in.result (λ e. written ∙ ap (set_value (is_at (nat_cmp c.args.region)) rows) e ∙ row_put rows c.args.region row c.args.at c.args.node.0 c.len-regions.ensures.ordered (sym c.in-Some.ensures.value)) c.put_in.ensures.ok

pub returns-clause-err : goal.returns-clause-err
returns-clause-err c =
    let rows = c.args.rows.now.entries in
    let row = c.in-Some.row.now in
    let written : (c.get_mut.follows.lender row).entries ≡ set_value (is_at (nat_cmp c.args.region)) rows row = (c.get_mut.follows.holds row).0 in
    let back = written ∙ set_value_same (is_at (nat_cmp c.args.region)) rows row (sym c.in-Some.ensures.value) in
    on_err_weaker c.put_in.result (λ e. ap (λ r. (c.get_mut.follows.lender r).entries) e ∙ back) c.put_in.ensures.err
