use Rattle.std.proofs.Common.{◌≡◌, ◌∙◌, sym, ap}
use Rattle.std.specs.Ordering.{nat_cmp}
use Rattle.std.specs.Map.{set_value}
use Rattle.std.specs.BTreeMap.{is_at}
use Rattle.std.proofs.lemmas.Map.Steps.{set_value_same}
use Rattle.std.proofs.lemmas.Result.{on_err_weaker}
use Rattle.zq_tables.proofs.held.put_at.Goals as goal

pub returns-in-Some-clause-err : goal.returns-in-Some-clause-err
returns-in-Some-clause-err c =
    let nodes = c.in-Some.nodes.now in
    let written : (c.get_mut.follows.lender nodes).entries ≡ set_value (is_at (nat_cmp c.args.face)) c.args.faces.now.entries nodes = (c.get_mut.follows.holds nodes).0 in
    let back = written ∙ set_value_same (is_at (nat_cmp c.args.face)) c.args.faces.now.entries nodes (sym c.in-Some.ensures.value) in
    on_err_weaker c.put.result (λ e. ap (λ n. (c.get_mut.follows.lender n).entries) e ∙ back) c.put.ensures.err
