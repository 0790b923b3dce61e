-- The names after a text was made: what is new is not held.
use Rattle.std.proofs.Common.{◌≡◌, ℕ, Bool, true, false, cond, eqb, List, [], ◌∷◌, refl, ap, subst, ◌∙◌, arith, zero, suc, inl, inr, ◌⊎◌}
use Rattle.std.specs.List.{Contains}
use Rattle.zq_names.specs.declared.node.ResourceId.{ResourceId}
use Rattle.zq_names.specs.Names.{NameEntry, Makes, ids, entry_at, with_context, change_at}
use Rattle.zq_names.proofs.KeepingLemmas.{ChangesAt-change_at}
use Rattle.zq_names.proofs.Idling.{entry_there}

more : {X : Type 0} (x : X) (xs : List X) (y : X) → Contains xs y → Contains (x ∷ xs) y
more x xs y (k, lt, is) = (suc k, omega arith, is)

id_among : (ns : List NameEntry) (e : NameEntry) → Contains ns e → Contains (ids ns) e.id
id_among [] e (k, lt, is) = absurd (omega arith)
id_among (x ∷ xs) e (zero, lt, is) = (zero, omega arith, ap (λ (n : NameEntry). n.id) is)
id_among (x ∷ xs) e (suc k, lt, is) = more x.id (ids xs) e.id (id_among xs e (k, omega arith, is))

-- a live number was live, or isn't held
pub fresh_made : (old new : List NameEntry) (r : ResourceId) (t : List ℕ) → Makes old new r t → (i : ℕ) → Contains (ids new) i → Contains (ids old) i ⊎ ((entry_at new i).holds ≡ 0)
fresh_made old new r t makes i has =
    let middle = makes.middle in
    let changes = ChangesAt-change_at middle r.0 with_context (λ e. refl) makes.named.live in
    let C : List ℕ → Type 0 = λ (is : List ℕ). Contains is i in
    let in_middle : Contains (ids middle) i = subst C (ap ids makes.marked ∙ changes.live) has in
    let there = entry_there middle i in_middle in
    let O : ℕ → Type 0 = λ (k : ℕ). Contains (ids old) k in
    let holds : (entry_at new i).holds ≡ (entry_at middle i).holds = ap (λ (ns : List NameEntry). (entry_at ns i).holds) makes.marked ∙ same_holds middle i in
    elim (makes.adds.brought (entry_at middle i) there.0) [
      | inl was ↦ inl (subst O there.1 (id_among old (entry_at middle i) was))
      | inr came ↦ inr (holds ∙ came.1.holds)
    ]
  where
    same_holds : (middle : List NameEntry) (i : ℕ) → (entry_at (change_at middle r.0 with_context) i).holds ≡ (entry_at middle i).holds
    same_holds [] i = refl
    same_holds (e ∷ es) i = by (eqb e.id r.0) (same_holds es i)
      where
        inner : (b : Bool) → (entry_at (change_at es r.0 with_context) i).holds ≡ (entry_at es i).holds → (cond b e (entry_at (change_at es r.0 with_context) i)).holds ≡ (cond b e (entry_at es i)).holds
        inner true rest = refl
        inner false rest = rest

        marked : (b : Bool) → (entry_at (change_at es r.0 with_context) i).holds ≡ (entry_at es i).holds → (cond b (with_context e) (entry_at (change_at es r.0 with_context) i)).holds ≡ (cond b e (entry_at es i)).holds
        marked true rest = refl
        marked false rest = rest

        by : (b : Bool) → (entry_at (change_at es r.0 with_context) i).holds ≡ (entry_at es i).holds → (entry_at (cond b (with_context e) e ∷ change_at es r.0 with_context) i).holds ≡ (entry_at (e ∷ es) i).holds
        by true rest = marked (eqb e.id i) rest
        by false rest = inner (eqb e.id i) rest
