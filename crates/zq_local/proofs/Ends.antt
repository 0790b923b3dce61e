-- Entries at the end of a list in order.
use Rattle.std.proofs.Common.{◌≡◌, ◌∙◌, refl, sym, ap, ℕ, ◌<◌, true, false, cond, List, [], ◌∷◌, ◌++◌, Some, None}
use Rattle.std.specs.BTreeMap.{insert_entry, is_at}
use Rattle.std.specs.Cmp.{nat_cmp_is}
use Rattle.std.specs.List.{AllByRecursion}
use Rattle.std.specs.Map.{lookup, set_value}
use Rattle.std.specs.Ordering.{is_eq, match_ordering, nat_cmp}
use Rattle.std.specs.declared.cmp.Ordering.TheVariants.{Less, Greater}
use Rattle.std.proofs.lemmas.Cmp.{nat_cmp_total}
use Rattle.std.proofs.lemmas.Map.Lookups.{exact_unsigned}
use Rattle.zq_key.proofs.Lookups.{at_itself}

pub greater : (n k : ℕ) → k < n → nat_cmp n k ≡ Greater
greater n k less = sym (nat_cmp_is n k Greater less)

pub lesser : (n k : ℕ) → n < k → nat_cmp n k ≡ Less
lesser n k less = sym (nat_cmp_is n k Less less)

pub itself : (n : ℕ) → is_at (nat_cmp n) n ≡ true
itself n = at_itself nat_cmp_total exact_unsigned n

apart : (n k : ℕ) → k < n → is_at (nat_cmp n) k ≡ false
apart n k less = ap is_eq (greater n k less)

module _ {X : Type 0} (n : ℕ) where
  -- all stand before the number
  abbrev pub AreBefore : List (ℕ × X) → Type 0
  AreBefore es = AllByRecursion (λ (e : ℕ × X). e.0 < n) es

  pub inserted_last : (v : X) (es : List (ℕ × X)) → AreBefore es → insert_entry nat_cmp es n v ≡ es ++ (n, v) ∷ []
  inserted_last v [] all = refl
  inserted_last v (e ∷ es) all =
      ap (λ r. match_ordering r ((n, v) ∷ e ∷ es) ((e.0, v) ∷ es) (e ∷ insert_entry nat_cmp es n v)) (greater n e.0 all.0)
      ∙ ap (λ l. e ∷ l) (inserted_last v es all.1)

  pub none_last : (es : List (ℕ × X)) → AreBefore es → lookup (is_at (nat_cmp n)) es ≡ None
  none_last [] all = refl
  none_last (e ∷ es) all = ap (λ b. cond b (Some e.1) (lookup (is_at (nat_cmp n)) es)) (apart n e.0 all.0) ∙ none_last es all.1

  pub found_last : (v : X) (es more : List (ℕ × X)) → AreBefore es → lookup (is_at (nat_cmp n)) (es ++ (n, v) ∷ more) ≡ Some v
  found_last v [] more all = ap (λ b. cond b (Some v) (lookup (is_at (nat_cmp n)) more)) (itself n)
  found_last v (e ∷ es) more all = ap (λ b. cond b (Some e.1) (lookup (is_at (nat_cmp n)) (es ++ (n, v) ∷ more))) (apart n e.0 all.0) ∙ found_last v es more all.1

  pub set_last : (v w : X) (es more : List (ℕ × X)) → AreBefore es → set_value (is_at (nat_cmp n)) (es ++ (n, v) ∷ more) w ≡ es ++ (n, w) ∷ more
  set_last v w [] more all = ap (λ b. cond b ((n, w) ∷ more) ((n, v) ∷ set_value (is_at (nat_cmp n)) more w)) (itself n)
  set_last v w (e ∷ es) more all =
      ap (λ b. cond b ((e.0, w) ∷ (es ++ (n, v) ∷ more)) (e ∷ set_value (is_at (nat_cmp n)) (es ++ (n, v) ∷ more) w)) (apart n e.0 all.0)
      ∙ ap (λ l. e ∷ l) (set_last v w es more all.1)
