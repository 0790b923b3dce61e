use Rattle.std.proofs.Common.{◌∙◌, ap, sym, subst, take, List, ℕ, BTreeMap, ◌+◌}
use Rattle.zq_strategy.specs.Nets.{IsPlaced}
use Rattle.zq_strategy.proofs.Places.{next_again, next_new}
use Rattle.zq_strategy.proofs.nets.places_in.Goals as goal
use Rattle.zq_strategy.proofs.nets.places_in.Goals.{then-not-contains_key+in_ok-insert, else-not-contains_key}

pub loop-i-preserved : goal.loop-i-preserved
loop-i-preserved c =
    let nodes = c.args.nodes.now in
    let i = c.loop-i.i in
    let es = c.loop-i.places.entries in
    elim c.if-not-contains_key.branch [
      | then-not-contains_key+in_ok-insert w ↦
          subst (λ (l : List (ℕ × ℕ)). IsPlaced (take (i + 1) nodes) l) (sym (ap (λ (m : BTreeMap ℕ ℕ). m.entries) w.places-is ∙ w.in_ok-insert.ensures.entries))
          (next_new nodes i _ c.loop-i-test.true es c.loop-i.invariant (sym c.contains_key.ensures ∙ w.if-not-contains_key.true))
      | else-not-contains_key w ↦
          subst (λ (l : List (ℕ × ℕ)). IsPlaced (take (i + 1) nodes) l) (sym (ap (λ (m : BTreeMap ℕ ℕ). m.entries) w.places-is))
          (next_again nodes i _ c.loop-i-test.true es c.loop-i.invariant (sym c.contains_key.ensures ∙ w.if-not-contains_key.false))
    ]
