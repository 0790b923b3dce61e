-- The entries other than a region's.
use Rattle.std.proofs.Common.{◌≡◌, ◌≢◌, ℕ, ◌<◌, Bool, true, false, not, eqb, List, [], ◌∷◌, ◌++◌, map, subst, sym, ap, refl, arith, filter, cond}
use Rattle.std.specs.Ordering.{nat_cmp}
use Rattle.std.specs.BTreeMap.{insert_entry}
use Rattle.std.specs.List.{All}
use Rattle.std.specs.List.Sorted.{IsStrictlySortedBy}
use Rattle.std.specs.Map.{keys_of}
use Rattle.std.proofs.lemmas.Bool.Decides.{nat_tests}
use Rattle.std.proofs.lemmas.List.{map_push}
use Rattle.std.proofs.lemmas.List.Elements.{All-head, All-tail, All-cons}
use Rattle.zq_message.specs.declared.message.Region.{Region}
use Rattle.zq_message.specs.Region.{region_index}
use Rattle.zq_message.specs.RegionMap.{shown, without, AreIndices}
use Rattle.zq_message.proofs.Ends.{front_below, insert_last}
use denote.Ref.{Bor}

keys_of-shown : {D : Type 0} (es : List (ℕ × Bor D)) → keys_of (map shown es) ≡ keys_of es
keys_of-shown [] = refl
keys_of-shown (e ∷ es) = rw (keys_of-shown es)

All-keys-filter : {D : Type 0} (P : ℕ → Type 0) (test : ℕ × D → Bool) (es : List (ℕ × D)) → All P (keys_of es) → All P (keys_of (filter test es))
All-keys-filter P test [] all = all
All-keys-filter {D} P test (e ∷ es) all =
    let later = All-keys-filter P test es (All-tail P _ _ all) in
    elim (test e) as (λ b. All P (keys_of (cond b (e ∷ filter test es) (filter test es)))) [ true ↦ All-cons P _ _ (All-head P _ _ all) later | false ↦ later ]

filter-push : {X : Type 0} (test : X → Bool) (xs : List X) (x : X) → test x ≡ true → filter test (xs ++ x ∷ []) ≡ filter test xs ++ x ∷ []
filter-push test [] x t = rw t
filter-push test (y ∷ ys) x t = elim (test y) as (λ b. cond b (y ∷ filter test (ys ++ x ∷ [])) (filter test (ys ++ x ∷ [])) ≡ cond b (y ∷ filter test ys) (filter test ys) ++ x ∷ []) [ true ↦ rw (filter-push test ys x t) | false ↦ filter-push test ys x t ]

-- one more entry of another region
pub without-push : {D : Type 0} (all done rest : List (ℕ × D)) (k : ℕ) (b : Bor D) (new : List (ℕ × Bor D)) (r : Region)
    → IsStrictlySortedBy nat_cmp (keys_of all) → all ≡ done ++ (k, b.now) ∷ rest → map shown new ≡ without done r → k ≢ region_index r
    → map shown (insert_entry nat_cmp new k b) ≡ without (done ++ (k, b.now) ∷ []) r
without-push {D} all done rest k b new r sorted parts same other =
    let Below : List ℕ → Type 0 = All (λ j. j < k) in
    let kept = All-keys-filter (λ j. j < k) (λ (e : ℕ × D). not (eqb e.0 (region_index r))) done (front_below all done rest (k, b.now) sorted parts) in
    let below = subst Below (keys_of-shown new) (subst Below (sym (ap keys_of same)) kept) in
    let passes : not (eqb k (region_index r)) ≡ true = grind (arith, nat_tests) in
    rw (insert_last new k b below, map_push shown new (k, b), same, filter-push (λ (e : ℕ × D). not (eqb e.0 (region_index r))) done (k, b.now) passes)

pub AreIndices-without : {D : Type 0} (all : List (ℕ × D)) (new : List (ℕ × Bor D)) (r : Region) → map shown new ≡ without all r → AreIndices all → AreIndices new
AreIndices-without {D} all new r same small =
    let Small : List ℕ → Type 0 = All (λ k. k < 770) in
    subst Small (keys_of-shown new) (subst Small (sym (ap keys_of same)) (All-keys-filter (λ k. k < 770) (λ (e : ℕ × D). not (eqb e.0 (region_index r))) all small))
