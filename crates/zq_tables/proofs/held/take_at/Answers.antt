use Rattle.std.proofs.Common.{◌≡◌, ◌∙◌, Option, Some, None, IfNone, sym, ap}
use Rattle.std.specs.Ordering.{nat_cmp}
use Rattle.std.specs.Map.{set_value}
use Rattle.std.specs.BTreeMap.{is_at}
use Rattle.std.proofs.lemmas.Map.Steps.{set_value_same}
use Rattle.zq_tables.proofs.held.take_at.Goals as goal

if_none_weaker : {X P Q : Type 0} (o : Option X) → (P → Q) → IfNone o P → IfNone o Q
if_none_weaker None then p = then p
if_none_weaker (Some x) then p = tt

pub returns-in-Some-clause-absent : goal.returns-in-Some-clause-absent
returns-in-Some-clause-absent c =
    let nodes = c.in-Some.nodes.now in
    let written : (c.get_mut.follows.lender nodes).entries ≡ set_value (is_at (nat_cmp c.args.face)) c.args.faces.now.entries nodes = (c.get_mut.follows.holds nodes).0 in
    let back = written ∙ set_value_same (is_at (nat_cmp c.args.face)) c.args.faces.now.entries nodes (sym c.in-Some.ensures.value) in
    if_none_weaker c.take.result (λ e. ap (λ n. (c.get_mut.follows.lender n).entries) e ∙ back) c.take.ensures.absent
