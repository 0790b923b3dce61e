-- The keys of routers, as one comes or goes.
use Rattle.std.proofs.Common.{◌≡◌, ◌∙◌, sym, ap, refl, ℕ, Bool, true, false, cond, List, Some, None}
use Rattle.std.specs.Prelude.{◌&&◌, String}
use Rattle.std.specs.Option.{option_map_or}
use Rattle.std.specs.Map.{lookup}
use Rattle.std.specs.BTreeMap.{is_at}
use Rattle.std.specs.BTreeSet.{BTreeSet, contains_text}
use Rattle.std.specs.Ordering.{nat_cmp}
use Rattle.std.specs.Cmp.{nat_cmp_total}
use Rattle.std.specs.Str.{bytes_eq}
use Rattle.std.specs.declared.alloc.Global.{Global}
use Rattle.std.proofs.lemmas.Map.Lookups.{exact_unsigned}
use Rattle.std.proofs.lemmas.Map.Text.{is_eq-slice_cmp}
use Rattle.zq_key.proofs.Lookups.{same_key}
use Rattle.zq_index.specs.Texts.{text_cmp}
use Rattle.zq_strategy.specs.Entries.{RouterKeys, Loses, LosesAll, has_key, is_entry}

-- one key of a router changes by a change of its keys
module _ (router : ℕ) (key : List ℕ) (b : Bool) (old new : RouterKeys) (w : BTreeSet (String Global)) (had : List ℕ → Bool)
    (was : (k : List ℕ) → has_key router k old ≡ had k)
    (writes : (q : ℕ) → lookup (is_at (nat_cmp q)) new ≡ cond (is_at (nat_cmp router) q) (Some w) (lookup (is_at (nat_cmp q)) old))
    (holds : (k : List ℕ) → contains_text w k ≡ cond (bytes_eq key k) b (had k)) where
  changed_by : (z : ℕ) (k : List ℕ) (c : Bool) → is_at (nat_cmp router) z ≡ c
      → option_map_or (λ keys. contains_text keys k) (cond c (Some w) (lookup (is_at (nat_cmp z)) old)) false ≡ cond (c && is_at (text_cmp key) k) b (has_key z k old)
  changed_by z k true e =
      holds k
      ∙ ap (λ c. cond c b (had k)) (sym (is_eq-slice_cmp key k))
      ∙ ap (cond (is_at (text_cmp key) k) b) (sym (was k) ∙ ap (λ x. has_key x k old) (same_key nat_cmp_total exact_unsigned router z e))
  changed_by z k false e = refl

  pub changed : (z : ℕ) (k : List ℕ) → has_key z k new ≡ cond (is_entry router key z k) b (has_key z k old)
  changed z k = ap (λ o. option_map_or (λ keys. contains_text keys k) o false) (writes z) ∙ changed_by z k (is_at (nat_cmp router) z) refl

-- what a look-up finds of a router are its keys
pub had_some : (router : ℕ) (old : RouterKeys) (s : BTreeSet (String Global)) → lookup (is_at (nat_cmp router)) old ≡ Some s → (k : List ℕ) → has_key router k old ≡ contains_text s k
had_some router old s is k = ap (λ o. option_map_or (λ keys. contains_text keys k) o false) is

pub had_none : (router : ℕ) (old : RouterKeys) → lookup (is_at (nat_cmp router)) old ≡ None → (k : List ℕ) → has_key router k old ≡ false
had_none router old is k = ap (λ o. option_map_or (λ keys. contains_text keys k) o false) is

-- a router goes
module _ (router : ℕ) (old new : RouterKeys) (gone : (q : ℕ) → lookup (is_at (nat_cmp q)) new ≡ cond (is_at (nat_cmp router) q) None (lookup (is_at (nat_cmp q)) old)) where
  all_by : (z : ℕ) (k : List ℕ) (c : Bool) → option_map_or (λ keys. contains_text keys k) (cond c None (lookup (is_at (nat_cmp z)) old)) false ≡ cond c false (has_key z k old)
  all_by z k true = refl
  all_by z k false = refl

  pub all_gone : LosesAll router old new
  all_gone z k = ap (λ o. option_map_or (λ keys. contains_text keys k) o false) (gone z) ∙ all_by z k (is_at (nat_cmp router) z)

-- a router goes of which no key is left
module _ (router : ℕ) (key : List ℕ) (old mid new : RouterKeys) (lost : Loses router key old mid) (gone : LosesAll router mid new) (empty : (k : List ℕ) → has_key router k mid ≡ false) where
  last_by : (z : ℕ) (k : List ℕ) (c : Bool) → is_at (nat_cmp router) z ≡ c → cond c false (has_key z k mid) ≡ has_key z k mid
  last_by z k true e = sym (ap (λ x. has_key x k mid) (sym (same_key nat_cmp_total exact_unsigned router z e)) ∙ empty k)
  last_by z k false e = refl

  pub last_gone : Loses router key old new
  last_gone z k = gone z k ∙ last_by z k (is_at (nat_cmp router) z) refl ∙ lost z k
