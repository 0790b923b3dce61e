-- Entries by number, as a list of numbers has them.
use Rattle.std.proofs.Common.{◌≡◌, ◌∙◌, refl, sym, ap, ℕ, Bool, true, false, cond, List, [], ◌∷◌, map, Option, Some, None}
use Rattle.std.specs.Prelude.{◌||◌}
use Rattle.std.specs.List.{AllByRecursion, cons_option, filter_map, list_any}
use Rattle.std.specs.List.Sorted.{IsStrictlySortedBy}
use Rattle.std.specs.Map.{keys_of, lookup}
use Rattle.std.specs.BTreeMap.{is_at}
use Rattle.std.specs.Option.{option_map}
use Rattle.std.specs.Ordering.{nat_cmp}
use Rattle.std.specs.declared.cmp.Ordering.TheVariants.{Less}
use Rattle.std.proofs.lemmas.Cmp.{nat_cmp_total}
use Rattle.std.proofs.lemmas.Map.Lookups.{exact_unsigned}
use Rattle.zq_key.proofs.Lookups.{same_entries}
use Rattle.zq_machine.proofs.Changing.{one_number}
use Rattle.zq_admin.specs.Traced.{numbered}

module _ {V : Type 0} (v : ℕ → Option V) where
  abbrev pub listed : List ℕ → List (ℕ × V)
  listed ns = filter_map (numbered v) ns

  listed_all : (P : ℕ → Type 0) (ns : List ℕ) → AllByRecursion P ns → AllByRecursion P (keys_of (listed ns))
  listed_all P [] all = tt
  listed_all P (n ∷ ns) all = by (v n) (listed_all P ns all.1)
    where
      by : (o : Option V) → AllByRecursion P (keys_of (listed ns)) → AllByRecursion P (keys_of (cons_option (option_map (λ x. (n, x)) o) (listed ns)))
      by None rest = rest
      by (Some x) rest = (all.0, rest)

  listed_sorted : (ns : List ℕ) → IsStrictlySortedBy nat_cmp ns → IsStrictlySortedBy nat_cmp (keys_of (listed ns))
  unfolding IsStrictlySortedBy
  listed_sorted [] sorted = tt
  listed_sorted (n ∷ ns) sorted = by (v n) (listed_sorted ns sorted.1) (listed_all (λ m. nat_cmp n m ≡ Less) ns sorted.0)
    where
      by : (o : Option V) → IsStrictlySortedBy nat_cmp (keys_of (listed ns)) → AllByRecursion (λ m. nat_cmp n m ≡ Less) (keys_of (listed ns)) → IsStrictlySortedBy nat_cmp (keys_of (cons_option (option_map (λ x. (n, x)) o) (listed ns)))
      by None rest all = rest
      by (Some x) rest all = (all, rest)

  listed_at : (q : ℕ) (ns : List ℕ) → lookup (is_at (nat_cmp q)) (listed ns) ≡ cond (list_any (is_at (nat_cmp q)) ns) (v q) None
  listed_at q [] = refl
  listed_at q (n ∷ ns) = by (is_at (nat_cmp q) n) (v n) refl refl (listed_at q ns)
    where
      rest_none : (b : Bool) → v q ≡ None → cond b (v q) None ≡ None
      rest_none true e = e
      rest_none false e = refl

      by : (b : Bool) (o : Option V) → is_at (nat_cmp q) n ≡ b → v n ≡ o → lookup (is_at (nat_cmp q)) (listed ns) ≡ cond (list_any (is_at (nat_cmp q)) ns) (v q) None
          → lookup (is_at (nat_cmp q)) (cons_option (option_map (λ x. (n, x)) o) (listed ns)) ≡ cond (b || list_any (is_at (nat_cmp q)) ns) (v q) None
      by true None e g ih = ih ∙ rest_none (list_any (is_at (nat_cmp q)) ns) (ap v (one_number q n e) ∙ g) ∙ sym (ap v (one_number q n e) ∙ g)
      by false None e g ih = ih
      by true (Some x) e g ih = ap (λ b. cond b (Some x) (lookup (is_at (nat_cmp q)) (listed ns))) e ∙ sym (ap v (one_number q n e) ∙ g)
      by false (Some x) e g ih = ap (λ b. cond b (Some x) (lookup (is_at (nat_cmp q)) (listed ns))) e ∙ ih

  -- entries that stand by number and are found as v has them are those of the numbers, where v has none but for these
  pub are_listed : (es : List (ℕ × V)) (ns : List ℕ) → IsStrictlySortedBy nat_cmp (keys_of es) → IsStrictlySortedBy nat_cmp ns
      → ((q : ℕ) → lookup (is_at (nat_cmp q)) es ≡ v q) → ((q : ℕ) → list_any (is_at (nat_cmp q)) ns ≡ false → v q ≡ None) → es ≡ listed ns
  are_listed es ns sorted rising found none =
      same_entries nat_cmp_total exact_unsigned es (listed ns) sorted (listed_sorted ns rising) (λ q. found q ∙ by q (list_any (is_at (nat_cmp q)) ns) refl ∙ sym (listed_at q ns))
    where
      by : (q : ℕ) (b : Bool) → list_any (is_at (nat_cmp q)) ns ≡ b → v q ≡ cond (list_any (is_at (nat_cmp q)) ns) (v q) None
      by q true e = sym (ap (λ b. cond b (v q) None) e)
      by q false e = none q e ∙ sym (ap (λ b. cond b (v q) None) e)

-- each number with its value
pub valued_at : {V : Type 0} (v : ℕ → V) (q : ℕ) (ns : List ℕ) → lookup (is_at (nat_cmp q)) (map (λ n. (n, v n)) ns) ≡ cond (list_any (is_at (nat_cmp q)) ns) (Some (v q)) None
valued_at v q [] = refl
valued_at v q (n ∷ ns) = by (is_at (nat_cmp q) n) refl (valued_at v q ns)
  where
    by : (b : Bool) → is_at (nat_cmp q) n ≡ b → lookup (is_at (nat_cmp q)) (map (λ m. (m, v m)) ns) ≡ cond (list_any (is_at (nat_cmp q)) ns) (Some (v q)) None
        → cond b (Some (v n)) (lookup (is_at (nat_cmp q)) (map (λ m. (m, v m)) ns)) ≡ cond (b || list_any (is_at (nat_cmp q)) ns) (Some (v q)) None
    by true e ih = ap (λ m. Some (v m)) (sym (one_number q n e))
    by false e ih = ih

-- values that are changed by number
pub changed_at : {X V : Type 0} (g : ℕ → X → V) (q : ℕ) (es : List (ℕ × X)) → lookup (is_at (nat_cmp q)) (map (λ e. (e.0, g e.0 e.1)) es) ≡ option_map (g q) (lookup (is_at (nat_cmp q)) es)
changed_at g q [] = refl
changed_at g q (e ∷ es) = by (is_at (nat_cmp q) e.0) refl (changed_at g q es)
  where
    by : (b : Bool) → is_at (nat_cmp q) e.0 ≡ b → lookup (is_at (nat_cmp q)) (map (λ x. (x.0, g x.0 x.1)) es) ≡ option_map (g q) (lookup (is_at (nat_cmp q)) es)
        → cond b (Some (g e.0 e.1)) (lookup (is_at (nat_cmp q)) (map (λ x. (x.0, g x.0 x.1)) es)) ≡ option_map (g q) (cond b (Some e.1) (lookup (is_at (nat_cmp q)) es))
    by true h ih = ap (λ m. Some (g m e.1)) (sym (one_number q e.0 h))
    by false h ih = ih

pub changed_keys : {X V : Type 0} (g : ℕ → X → V) (es : List (ℕ × X)) → keys_of (map (λ e. (e.0, g e.0 e.1)) es) ≡ keys_of es
changed_keys g [] = refl
changed_keys g (e ∷ es) = ap (λ l. e.0 ∷ l) (changed_keys g es)
