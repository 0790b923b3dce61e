use Rattle.std.proofs.Common.{ℕ, List, sym, ap, subst, ◌∙◌}
use Rattle.zq_names.specs.Names.{IsSound, rows}
use Rattle.zq_names.proofs.Copies.{rows-copy, IsSound-copy}
use Rattle.zq_names.proofs.names.Names.copy.Goals as goal

pub invariant_of-result : goal.invariant_of-result
invariant_of-result c =
    let old = c.self.inside.nodes.slots in
    let new = c.in_ok-clone.field-0.slots in
    let S : List ℕ → Type 0 = λ (o : List ℕ). IsSound new o in
    subst S (sym (c.in_ok-copy.ensures)) (IsSound-copy old new c.self.inside.order c.in_ok-clone.ensures.cases.slots c.self.invariant)

pub returns : goal.returns
returns c =
    let old = c.self.inside.nodes.slots in
    let new = c.in_ok-clone.field-0.slots in
    ap (λ (o : List ℕ). rows new o) (c.in_ok-copy.ensures) ∙ rows-copy old new c.self.inside.order c.in_ok-clone.ensures.cases.slots ∙ c.self.view_is
