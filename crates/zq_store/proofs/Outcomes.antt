-- What lines come to, and that no state of the bus refuses a line for want of memory.
use Rattle.std.proofs.Common.{◌≡◌, ℕ, List, Bool, true, false, Option, Some, None, Result, Ok, Err, ap, refl, sym, ◌∙◌, subst}
use Rattle.std.specs.Prelude.{◌+◌, ◌==◌, ◌^◌, ◌||◌, not, IfErr, IfSome, if◌then◌else◌}
use Rattle.zq_store.specs.Bus.{BusState, IsSpent, add_refusal}
use Rattle.zq_store.specs.Getting.{get_refusal, has_replies, has_request}
use Rattle.zq_store.specs.declared.bus.BusRefusal.{BusRefusal}
use Rattle.zq_store.specs.declared.bus.BusRefusal.TheVariants as refusal
use Rattle.zq_store.specs.declared.got.StoreId.{StoreId}
use Rattle.zq_store.specs.declared.outcome.LineOutcome.{LineOutcome}
use Rattle.zq_store.specs.declared.outcome.LineOutcome.TheVariants as outcome

-- a storage that joined, by its number
pub joined_at : (s : StoreId) (n : ℕ) → s.0 ≡ n → ◌≡◌ {A = LineOutcome} (outcome.Joined s) (outcome.Joined (record { 0 = n }))
joined_at s n e = ap (λ m. outcome.Joined (record { 0 = m })) e

never : (x y : Bool) → (if x then Some refusal.Spent else (if y then Some refusal.NoFreeId else None)) ≡ Some refusal.OutOfMemory → ⊥
never true y e = cc
never false true e = cc
never false false e = cc

-- no memory was found, and that is what the answer says
spent_of : {X : Type 0} (b new : BusState) (o : Option BusRefusal) (r : Result X BusRefusal) → (o ≡ Some refusal.OutOfMemory → ⊥) → r ≡ Err refusal.OutOfMemory → IfSome o (λ e. (r ≡ Err e) × (new ≡ b)) → (o ≡ None → IfErr r (λ e. (e ≡ refusal.OutOfMemory) × IsSpent b new)) → IsSpent b new
spent_of {X} b new None r unless is refused memory =
    let P : Result X BusRefusal → Type 0 = λ s. IfErr s (λ e. (e ≡ refusal.OutOfMemory) × IsSpent b new) in
    (subst P is (memory refl)).1
spent_of b new (Some e) r unless is refused memory = absurd (unless (ap Some (same _ _ (sym refused.0 ∙ is))))
  where
    same : {X : Type 0} (e f : BusRefusal) → ◌≡◌ {A = Result X BusRefusal} (Err e) (Err f) → e ≡ f
    same e f h = cc

pub add_spent : {X : Type 0} (b new : BusState) (r : Result X BusRefusal) → r ≡ Err refusal.OutOfMemory → IfSome (add_refusal b) (λ e. (r ≡ Err e) × (new ≡ b)) → (add_refusal b ≡ None → IfErr r (λ e. (e ≡ refusal.OutOfMemory) × IsSpent b new)) → IsSpent b new
add_spent b new r is refused memory = spent_of b new (add_refusal b) r (never b.spent (b.next_face + 1 == 2 ^ 32)) is refused memory

pub get_spent : {X : Type 0} (key : List ℕ) (b new : BusState) (r : Result X BusRefusal) → r ≡ Err refusal.OutOfMemory → IfSome (get_refusal key b) (λ e. (r ≡ Err e) × (new ≡ b)) → (get_refusal key b ≡ None → IfErr r (λ e. (e ≡ refusal.OutOfMemory) × IsSpent b new)) → IsSpent b new
get_spent key b new r is refused memory = spent_of b new (get_refusal key b) r (never b.spent (not (has_request b) || not (has_replies key b))) is refused memory
