-- The owners of slots, once one of them changes.
use Rattle.std.proofs.Common.{◌≡◌, ◌≢◌, ℕ, ◌+◌, ◌<◌, ◌≤◌, zero, suc, Bool, true, false, List, [], ◌∷◌, length, set, replicate, Option, Some, None, eqb, refl, sym, ap, ◌∙◌, subst, arith, eqb-true, length-set, get_or-set_same, get_or-set_other}
use mathlib.Core.Logic.{dite}
use native.Mathlib.Decide.{ℕ_discrete}
use Rattle.std.proofs.Math.ListN.{length-replicate, get_or-replicate}
use Rattle.zq_hold.specs.declared.slot.Mark.{Mark}
use Rattle.zq_hold.specs.declared.slot.Mark.TheVariants.{Spare, Vacant}
use Rattle.zq_hold.specs.Marks.{mark_at}
use Rattle.zq_hold.specs.Slots.{stood, weight}
use Rattle.zq_hold.specs.Owners.{IsSlotted, MayOwn, owned, owner_at}

pub stood_one : (n : ℕ) (o : Option ℕ) → stood n o ≤ 1
stood_one n None = omega arith
stood_one n (Some x) = by (eqb x n)
  where
    by : (b : Bool) → weight b ≤ 1
    by true = omega arith
    by false = omega arith

-- one owner in the place of another
pub owned_set : (n : ℕ) (owners : List (Option ℕ)) (k : ℕ) (o : Option ℕ) → k < length owners → owned n (set owners k o) + stood n (owner_at owners k) ≡ owned n owners + stood n o
owned_set n [] k o h = absurd (omega arith)
owned_set n (x ∷ xs) zero o h = omega arith
owned_set n (x ∷ xs) (suc k) o h = let ih = owned_set n xs k o (omega arith) in omega (arith, ih)

pub owned_here : (n : ℕ) (owners : List (Option ℕ)) (k : ℕ) → k < length owners → stood n (owner_at owners k) ≤ owned n owners
owned_here n [] k h = absurd (omega arith)
owned_here n (x ∷ xs) zero h = omega arith
owned_here n (x ∷ xs) (suc k) h = let ih = owned_here n xs k (omega arith) in omega (arith, ih)

pub none_owned : (n m : ℕ) → owned n (replicate m None) ≡ 0
none_owned n zero = refl
none_owned n (suc m) = let ih = none_owned n m in omega (arith, ih)

-- a request that no slot has owns none
pub unowned : (n : ℕ) (owners : List (Option ℕ)) → ((k : ℕ) → k < length owners → owner_at owners k ≢ Some n) → owned n owners ≡ 0
unowned n [] none = refl
unowned n (x ∷ xs) none =
    let ih = unowned n xs (λ k h. none (suc k) (omega arith)) in
    let zeroth = stands x (none 0 (omega arith)) in
    omega (arith, ih, zeroth)
  where
    stands : (o : Option ℕ) → o ≢ Some n → stood n o ≡ 0
    stands None ne = refl
    stands (Some m) ne = by (eqb m n) refl
      where
        by : (b : Bool) → eqb m n ≡ b → weight b ≡ 0
        by false e = refl
        by true e = absurd (ne (ap Some (eqb-true m n e)))

module _ (marks : List Mark) (owners : List (Option ℕ)) (all : IsSlotted marks owners) where
  -- one slot has another mark and another owner
  pub slot_set : (k : ℕ) (m : Mark) (o : Option ℕ) → k < length marks → MayOwn m o → ((n : ℕ) → owned n owners + stood n o ≤ stood n (owner_at owners k) + 1) → IsSlotted (set marks k m) (set owners k o)
  slot_set k m o inside may few = record {
    wide = length-set owners k o ∙ (all.wide ∙ sym (length-set marks k m));
    few = (let l = length-set marks k m in let f = all.few in omega arith);
    each = λ j h. dite (ℕ_discrete k j)
        (λ (e : k ≡ j). subst (λ (i : ℕ). MayOwn (mark_at (set marks k m) i) (owner_at (set owners k o) i)) e
        (subst (λ (x : Mark). MayOwn x (owner_at (set owners k o) k)) (sym (get_or-set_same marks k m Vacant inside))
        (subst (MayOwn m) (sym (get_or-set_same owners k o None (let w = all.wide in omega arith))) may)))
        (λ (ne : k ≢ j).
        subst (λ (x : Mark). MayOwn x (owner_at (set owners k o) j)) (sym (get_or-set_other marks k j m Vacant (λ (e : j ≡ k). ne (sym e))))
        (subst (MayOwn (mark_at marks j)) (sym (get_or-set_other owners k j o None (λ (e : j ≡ k). ne (sym e)))) (all.each j (let l = length-set marks k m in omega arith))));
    once = λ n. (let moved = owned_set n owners k o (let w = all.wide in omega arith) in let f = few n in omega (arith, moved, f));
  }

  -- one slot has another mark
  pub mark_set : (k : ℕ) (m : Mark) → k < length marks → MayOwn m (owner_at owners k) → IsSlotted (set marks k m) owners
  mark_set k m inside may = record {
    wide = all.wide ∙ sym (length-set marks k m);
    few = (let l = length-set marks k m in let f = all.few in omega arith);
    each = λ j h. dite (ℕ_discrete k j)
        (λ (e : k ≡ j). subst (λ (i : ℕ). MayOwn (mark_at (set marks k m) i) (owner_at owners i)) e
        (subst (λ (x : Mark). MayOwn x (owner_at owners k)) (sym (get_or-set_same marks k m Vacant inside)) may))
        (λ (ne : k ≢ j).
        subst (λ (x : Mark). MayOwn x (owner_at owners j)) (sym (get_or-set_other marks k j m Vacant (λ (e : j ≡ k). ne (sym e))))
        (all.each j (let l = length-set marks k m in omega arith)));
    once = all.once;
  }

  -- one slot has another owner
  pub owner_set : (k : ℕ) (o : Option ℕ) → k < length marks → MayOwn (mark_at marks k) o → ((n : ℕ) → owned n owners + stood n o ≤ stood n (owner_at owners k) + 1) → IsSlotted marks (set owners k o)
  owner_set k o inside may few = record {
    wide = length-set owners k o ∙ all.wide;
    few = all.few;
    each = λ j h. dite (ℕ_discrete k j)
        (λ (e : k ≡ j). subst (λ (i : ℕ). MayOwn (mark_at marks i) (owner_at (set owners k o) i)) e
        (subst (MayOwn (mark_at marks k)) (sym (get_or-set_same owners k o None (let w = all.wide in omega arith))) may))
        (λ (ne : k ≢ j). subst (MayOwn (mark_at marks j)) (sym (get_or-set_other owners k j o None (λ (e : j ≡ k). ne (sym e)))) (all.each j h));
    once = λ n. (let moved = owned_set n owners k o (let w = all.wide in omega arith) in let f = few n in omega (arith, moved, f));
  }

-- at first no slot has an owner
pub first_slotted : (n : ℕ) → n ≤ 1024 → IsSlotted (replicate n Spare) (replicate n None)
first_slotted n few = record {
  wide = length-replicate n None ∙ sym (length-replicate n Spare);
  few = (let l = length-replicate n Spare in omega arith);
  each = λ k h. subst (λ (x : Mark). MayOwn x (owner_at (replicate n None) k)) (sym (get_or-replicate n k Spare Vacant (let l = length-replicate n Spare in omega arith)))
      (get_or-replicate n k None None (let l = length-replicate n Spare in omega arith));
  once = λ m. (let none = none_owned m n in omega arith);
}

-- a request that owns no slot may be given one
pub give_fits : (x : ℕ) (owners : List (Option ℕ)) (o : Option ℕ) → owned x owners ≡ 0 → ((n : ℕ) → owned n owners ≤ 1) → (n : ℕ) → owned n owners + stood n (Some x) ≤ stood n o + 1
give_fits x owners o none once n = by (eqb x n) refl
  where
    by : (b : Bool) → eqb x n ≡ b → owned n owners + weight b ≤ stood n o + 1
    by true e = let z = subst (λ m. owned m owners ≡ 0) (eqb-true x n e) none in omega arith
    by false e = let one = once n in omega arith

-- an owner may go
pub goes_fits : (owners : List (Option ℕ)) (o : Option ℕ) → ((n : ℕ) → owned n owners ≤ 1) → (n : ℕ) → owned n owners + stood n None ≤ stood n o + 1
goes_fits owners o once n = let one = once n in omega arith
