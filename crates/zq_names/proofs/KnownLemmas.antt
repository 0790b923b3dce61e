-- The parts of a text that are there already.
use Rattle.std.proofs.Common.{◌≡◌, ℕ, ◌+◌, ◌<◌, true, eqb, List, [], ◌∷◌, ◌++◌, length, take, get_or, subst, sym, ◌∙◌, arith, suc, inl, inr}
use Rattle.std.specs.List.{Contains}
use Rattle.std.proofs.lemmas.Bool.Decides.{nat_tests}
use Rattle.std.proofs.lemmas.List.{length-append, length-take-le, get_or-take, get_or_default, get_or-append-add, take-take}
use Rattle.std.proofs.Math.Seq.{take-append-add}
use Rattle.std.proofs.lemmas.List.Elements.{Contains-append_right, Contains-append_cases}
use Rattle.zq_names.specs.Texts.{IsBelow, IsChain, IsChainAfter, IsKnownTo, heads_to}
use Rattle.zq_names.specs.Names.{NameEntry, texts, Adds}
use Rattle.zq_names.proofs.Heads.{head_at, below_from_cut}
use Rattle.zq_names.proofs.Adding.{Contains-single, kept_text}

-- what stands before a `/` of a part of t that is there is there
pub known_to : (ts : List (List ℕ)) (t : List ℕ) (k : ℕ) → ((s u : List ℕ) → Contains ts u → IsBelow s u → Contains ts s) → k < length t → get_or t k 0 ≡ 47 → Contains ts (take k t) → IsKnownTo ts t (k + 1)
known_to ts t k closed lt slash there =
    let shape : heads_to t (suc k) ≡ heads_to t k ++ take k t ∷ [] = let is : eqb (get_or t k 0) 47 ≡ true = grind (arith, nat_tests) in rw is in
    let C : List ℕ → Type 0 = Contains ts in
    let H : List (List ℕ) → List ℕ → Type 0 = λ (l : List (List ℕ)) (s : List ℕ). Contains l s in
    record {
      in_range = omega arith;
      known = λ s has. elim (Contains-append_cases (heads_to t k) (take k t ∷ []) s (subst (λ l. H l s) shape (subst (λ (n : ℕ). H (heads_to t n) s) {x = k + 1} {y = suc k} (omega arith) has))) [
        | inl front ↦ before s front
        | inr last ↦ subst C (Contains-single (take k t) s last) there
      ];
    }
  where
    before : (s : List ℕ) → Contains (heads_to t k) s → Contains ts s
    before s (j, within, is) =
        let h = head_at t k j within in
        let n = length-take-le k t (omega arith) in
        let same : s ≡ take h.at t = sym is ∙ get_or_default (heads_to t k) j s [] within ∙ h.is in
        let cut : take h.at (take k t) ≡ take h.at t = take-take h.at k t (omega (arith, h.below)) in
        let below = below_from_cut (take k t) h.at (omega (arith, n, h.below)) (get_or-take k t h.at 0 h.below ∙ h.slash) in
        closed s (take k t) there (let B : List ℕ → Type 0 = λ (x : List ℕ). IsBelow x (take k t) in subst B (cut ∙ sym same) below)

pub known_to_none : (ts : List (List ℕ)) (t : List ℕ) → IsKnownTo ts t 0
known_to_none ts t = record { in_range = omega arith; known = λ s (j, lt, is). absurd (omega arith) }

-- a chain whose front is there goes on after it
pub chain_after : (ts front hs all : List (List ℕ)) → front ++ hs ≡ all → IsChain all → ((s : List ℕ) → Contains front s → Contains ts s) → IsChainAfter ts hs
chain_after ts front hs all same chain known k lt s below =
    let I : List (List ℕ) → Type 0 = IsChain in
    let B : List ℕ → Type 0 = IsBelow s in
    let C : List (List ℕ) → Type 0 = λ (l : List (List ℕ)). Contains l s in
    let earlier = (subst I (sym same) chain) (length front + k) (omega (arith, length-append front hs)) s (subst B (sym (get_or-append-add front hs k [])) below) in
    elim (Contains-append_cases front (take k hs) s (subst C (take-append-add front hs k) earlier)) [
      | inl here ↦ inl (known s here)
      | inr later ↦ inr later
    ]

-- what is added after what is there
pub Adds-rest : (old new : List NameEntry) (front hs all : List (List ℕ)) → front ++ hs ≡ all → ((s : List ℕ) → Contains front s → Contains (texts old) s) → Adds old new hs → Adds old new all
Adds-rest old new front hs all same known adds =
    let A : List (List ℕ) → Type 0 = λ (l : List (List ℕ)). Adds old new l in
    subst A same (record {
      kept = adds.kept;
      brought = λ e has. elim (adds.brought e has) [
        | inl before ↦ inl before
        | inr came ↦ inr (Contains-append_right front hs e.text came.0, came.1)
      ];
      has = λ t added. elim (Contains-append_cases front hs t added) [
        | inl here ↦ kept_text old new hs t adds (known t here)
        | inr later ↦ adds.has t later
      ];
    })
