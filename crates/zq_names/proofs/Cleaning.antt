-- Steps of a clean.
use Rattle.std.proofs.Common.{◌≡◌, ◌≢◌, ℕ, ◌<◌, ◌≤◌, Bool, true, false, cond, eqb, List, [], length, take, get_or, subst, sym, ap, ◌∙◌, refl, arith, suc, zero, Option, Some, None, inl, inr, ◌⊎◌}
use Rattle.std.specs.List.{Contains, remove}
use Rattle.std.specs.Option.{IfNone}
use Rattle.std.proofs.lemmas.Bool.Decides.{nat_tests}
use Rattle.std.proofs.lemmas.Option.{get_or_from_slice_get, slice_get_within}
use Rattle.std.proofs.lemmas.List.{length-take-le, get_or_default}
use Rattle.zq_names.specs.Texts.{IsBelow, parent_of, parent_to}
use Rattle.zq_names.specs.Names.{NameEntry, IsNames, texts, text_at, entry_of, removed_at}
use Rattle.zq_names.proofs.Below.{below_at}
use Rattle.zq_names.proofs.Removal.{Contains-remove, map-remove}
use Rattle.zq_names.proofs.Rows.{length-texts}
use Rattle.zq_names.proofs.Forgetting.{texts-without}

pub none_then : {X : Type 0} (r : Option X) (P : Type 0) → IfNone r P → ((x : X) → r ≡ Some x → ⊥) → P
none_then None P h never = h
none_then (Some x) P h never = absurd (never x refl)

-- a text's parent is the root's, or is a part of it that it lies below
pub parent_cases : (t : List ℕ) (n : ℕ) → n ≤ length t → (parent_to t n ≡ []) ⊎ (IsBelow (parent_to t n) t × (length (parent_to t n) < length t))
parent_cases t zero le = inl refl
parent_cases t (suc n) le = by (eqb (get_or t n 0) 47) refl (parent_cases t n (omega arith))
  where
    by : (b : Bool) → eqb (get_or t n 0) 47 ≡ b → (parent_to t n ≡ []) ⊎ (IsBelow (parent_to t n) t × (length (parent_to t n) < length t))
        → (cond b (take n t) (parent_to t n) ≡ []) ⊎ (IsBelow (cond b (take n t) (parent_to t n)) t × (length (cond b (take n t) (parent_to t n)) < length t))
    by true e earlier =
        let count = length-take-le n t (omega arith) in
        let slash : get_or t n 0 ≡ 47 = grind (arith, nat_tests) in
        inr (below_at (take n t) t (omega (arith, count)) (rw count slash) (rw count), omega (arith, count))
    by false e earlier = earlier

-- a removal keeps the texts of the other entries
pub texts-removed_at : (ns : List NameEntry) (at : ℕ) → texts (removed_at ns at) ≡ texts (remove ns at)
texts-removed_at ns at = texts-without (get_or ns at (entry_of 0 None)).id (remove ns at)

-- where an entry past the root goes, its parent stays
pub parent_stays : (numbers : List ℕ) (ns : List NameEntry) (at : ℕ) → IsNames numbers (texts ns) → at < length ns → 0 < at → Contains (texts (removed_at ns at)) (parent_of (text_at ns at))
parent_stays numbers ns at names in_at past =
    let ts = texts ns in
    let t = text_at ns at in
    let n = length-texts ns in
    let C : List (List ℕ) → Type 0 = λ (l : List (List ℕ)). Contains l (parent_of t) in
    subst C (sym (texts-removed_at ns at ∙ map-remove (λ (e : NameEntry). e.text) ns at)) (elim (parent_cases t (length t) (omega arith)) [
      | inl root ↦
          let within = slice_get_within ts 0 [] names.root_text in
          rw root (Contains-remove ts at 0 [] (omega (arith, n)) within (omega arith) (get_or_from_slice_get ts 0 [] [] names.root_text))
      | inr cut ↦
          let has = names.closed (parent_of t) t (at, omega (arith, n), get_or_default ts at t [] (omega (arith, n))) cut.0 in
          let elsewhere : has.0 ≢ at = λ same.
          let here : t ≡ parent_of t = sym (get_or_default ts at (parent_of t) [] (omega (arith, n))) ∙ ap (λ q. get_or ts q (parent_of t)) (sym same) ∙ has.2 in
          let longer : length t ≡ length (parent_of t) = ap length here in
          omega (arith, longer, cut.1) in
          Contains-remove ts at has.0 (parent_of t) (omega (arith, n)) has.1 elsewhere has.2
    ])
