-- The table of the root alone.
use Rattle.std.proofs.Common.{◌≡◌, ◌≢◌, ℕ, ◌<◌, List, [], ◌∷◌, length, Option, Some, IsSome, refl, sym, ap, ◌∙◌, arith, suc, zero}
use Rattle.std.specs.List.{Contains}
use Rattle.std.proofs.lemmas.Bool.{false≢true}
use Rattle.std.proofs.lemmas.Bool.{cases_eq}
use Rattle.std.proofs.Common.{inl, inr}
use Rattle.std.proofs.lemmas.Cmp.{nat_list_cmp_total}
use Rattle.std.proofs.lemmas.List.Elements.{All-cons, All-nil}
use Rattle.std.proofs.lemmas.Map.Keys.{sorted_from_all_adjacent}
use Rattle.zq_names.specs.declared.node.Node.{Node}
use Rattle.zq_names.specs.Texts.{IsBelow}
use Rattle.zq_names.specs.declared.node.ResourceId.{ResourceId}
use Rattle.zq_names.specs.Names.{IsTable, IsNames, IsLinked, slot, slot_matches, rows, texts}

only_root : (s t : List ℕ) → Contains ([] ∷ []) t → IsBelow s t → Contains ([] ∷ []) s
only_root s t (suc k, lt, is) below = absurd (omega arith)
only_root [] t (zero, lt, is) below = (zero, omega arith, refl)
only_root (b ∷ bs) t (zero, lt, is) (rest, e) = absurd (clash (is ∙ e))
  where
    clash : {x : ℕ} {xs : List ℕ} → [] ≡ x ∷ xs → ⊥
    clash h = cc

no_text : (t : List ℕ) → Contains ([] ∷ []) t → 0 < length t → ⊥
no_text t (suc k, lt, is) some = omega arith
no_text t (zero, lt, is) some = omega (arith, ap length is)

names-root : IsNames (0 ∷ []) ([] ∷ [])
names-root = record {
  rising = sorted_from_all_adjacent nat_list_cmp_total ([] ∷ []) [] (λ k lt. absurd (omega arith));
  root = refl;
  root_text = refl;
  closed = only_root;
  keys = λ t has some. absurd (no_text t has some);
}

pub IsTable-root : (old new : List (Option Node)) (i : ℕ) (node : Node) → old ≡ [] → i ≡ 0 → node.text ≡ [] → slot new i ≡ Some node → ((j : ℕ) → j ≢ i → slot new j ≡ slot old j) → (texts (rows new (i ∷ [])) ≡ [] ∷ []) × IsTable new (i ∷ [])
IsTable-root old new i node empty first text is others =
    let shown : texts (rows new (i ∷ [])) ≡ [] ∷ [] = rw (is, text) in (
      shown,
      record {
        live = All-cons (λ j. IsSome (slot new j)) i [] (rw is refl) (All-nil (λ j. IsSome (slot new j)));
        covered = λ j some. elim (cases_eq j i) [
          | inl same ↦ (zero, omega arith, sym same)
          | inr differ ↦ absurd (false≢true (rw (others j differ, empty) at some))
        ];
        names = rw (shown, first) names-root;
      },
    )

pub IsLinked-root : (old new : List (Option Node)) (i : ℕ) (node : Node) → old ≡ [] → node.matches.items ≡ [] → slot new i ≡ Some node → ((j : ℕ) → j ≢ i → slot new j ≡ slot old j) → IsLinked new
IsLinked-root old new i node empty bare is others = record { both_ways = λ a b has. absurd (none a b has); contexts = λ a b has. absurd (none a b has) }
  where
    nothing_in : (x : ResourceId) → Contains [] x → ⊥
    nothing_in x (k, lt, e) = omega arith

    none : (a b : ResourceId) → Contains (slot_matches (slot new b.0)) a → ⊥
    none a b has = elim (cases_eq b.0 i) [
      | inl same ↦ nothing_in a (rw (same, is, bare) at has)
      | inr differ ↦ nothing_in a (rw (others b.0 differ, empty) at has)
    ]
