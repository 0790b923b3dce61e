-- Entries of routers that go, all at once.
use Rattle.std.proofs.Common.{◌≡◌, ◌∙◌, sym, ap, subst, refl, ℕ, Bool, true, false, cond, List, [], ◌∷◌, fold, filter, Option, Some, None}
use Rattle.std.specs.Prelude.{◌&&◌, ◌||◌, not}
use Rattle.std.specs.Option.{is_some, option_and_then, option_map_or}
use Rattle.std.specs.List.Sorted.{IsStrictlySortedBy}
use Rattle.std.specs.Map.{keys_of, lookup}
use Rattle.std.specs.BTreeMap.{is_at}
use Rattle.std.specs.Ordering.{nat_cmp}
use Rattle.std.specs.Cmp.{nat_cmp_total}
use Rattle.std.proofs.lemmas.List.Kept.{IsStrictlySortedBy-filter}
use Rattle.std.proofs.lemmas.Map.Entries.{lookup-filter-keys}
use Rattle.std.proofs.lemmas.Map.Lookups.{exact_unsigned}
use Rattle.zq_message.specs.declared.message.QueryableInfoType.{QueryableInfoType}
use Rattle.zq_message.specs.declared.message.Zid.{Zid}
use Rattle.zq_key.specs.Key.{is_key}
use Rattle.zq_key.proofs.Lookups.{either_way, same_key}
use Rattle.zq_index.specs.Texts.{text_cmp, at_text, has_text}
use Rattle.zq_index.specs.Holders.{IsOrderedBy, if_any}
use Rattle.zq_index.proofs.Orders.{text_total, text_exact}
use Rattle.zq_index.proofs.Finding.{held_if_any, if_any_some, if_any_used}
use Rattle.zq_index.proofs.Ordered.{same_index, without_ordered}
use Rattle.zq_strategy.specs.Entries.{Entries, Routed, RouterKeys, IsTied, LosesAll, entries_at, entry_of, has_key, is_by, is_another, staying, without_key}
use Rattle.zq_routers.proofs.Entering.{keys_fewer, lost}
use Rattle.zq_strategy.proofs.Places.{number_test}
use Rattle.zq_routers.proofs.Standing.{picked_at, sorted_picked}

pub keys_filtered : {K X : Type 0} (p : K → Bool) (es : List (K × X)) → keys_of (filter (λ (e : K × X). p e.0) es) ≡ filter p (keys_of es)
keys_filtered p [] = refl
keys_filtered {K} {X} p (e ∷ es) = by (p e.0) (keys_filtered p es)
  where
    by : (b : Bool) → keys_of (filter (λ (e : K × X). p e.0) es) ≡ filter p (keys_of es)
        → keys_of (cond b (e ∷ filter (λ (e : K × X). p e.0) es) (filter (λ (e : K × X). p e.0) es)) ≡ cond b (e.0 ∷ filter p (keys_of es)) (filter p (keys_of es))
    by true ih = ap (λ l. e.0 ∷ l) ih
    by false ih = ih

-- ---- the entries of routers that pass a test
module _ (test : Zid → Bool) (all : Entries) (ordered : IsOrderedBy nat_cmp all) where
  abbrev passes : ℕ → Bool
  passes z = test (record { 0 = z })

  abbrev on : Routed → Option Routed
  on es = if_any (filter (is_by test) es)

  found_on : (key : List ℕ) → at_text key (staying test all) ≡ option_and_then on (at_text key all)
  found_on key = picked_at on key all ordered.texts

  -- on each key those of routers that pass stay
  pub staying_at : (key : List ℕ) → entries_at key (staying test all) ≡ filter (is_by test) (entries_at key all)
  staying_at key = ap (λ o. option_map_or (λ (es : Routed). es) o []) (found_on key) ∙ by (at_text key all)
    where
      by : (o : Option Routed) → option_map_or (λ (es : Routed). es) (option_and_then on o) [] ≡ filter (is_by test) (option_map_or (λ (es : Routed). es) o [])
      by None = refl
      by (Some es) = held_if_any (filter (is_by test) es)

  same_test : (z k : ℕ) → is_at (nat_cmp z) k ≡ true → passes k ≡ passes z
  same_test z k at = ap passes (sym (same_key nat_cmp_total exact_unsigned z k at))

  entry_by : (z : ℕ) (o : Option Routed) → lookup (is_at (nat_cmp z)) (option_map_or (λ es. es) (option_and_then on o) []) ≡ cond (passes z) (lookup (is_at (nat_cmp z)) (option_map_or (λ es. es) o [])) None
  entry_by z None = by (passes z)
    where
      by : (b : Bool) → ◌≡◌ {A = Option QueryableInfoType} None (cond b None None)
      by true = refl
      by false = refl
  entry_by z (Some es) =
      ap (lookup (is_at (nat_cmp z))) (held_if_any (filter (is_by test) es))
      ∙ lookup-filter-keys (is_at (nat_cmp z)) passes (passes z) (same_test z) es

  pub staying_entry : (z : ℕ) (key : List ℕ) → entry_of z key (staying test all) ≡ cond (passes z) (entry_of z key all) None
  staying_entry z key = ap (λ o. lookup (is_at (nat_cmp z)) (option_map_or (λ es. es) o [])) (found_on key) ∙ entry_by z (at_text key all)

  places_by : (key : List ℕ) (hs : Routed) (o : Option Routed) → at_text key all ≡ o → option_and_then on o ≡ Some hs → IsStrictlySortedBy nat_cmp (keys_of hs)
  places_by key hs None is some = absurd (let gap : None ≡ Some hs = some in cc)
  places_by key hs (Some es) is some =
      subst (λ l. IsStrictlySortedBy nat_cmp (keys_of l)) (if_any_some (filter (is_by test) es) hs some)
      (subst (IsStrictlySortedBy nat_cmp) (sym (keys_filtered passes es)) (IsStrictlySortedBy-filter nat_cmp passes (keys_of es) (ordered.places key es is)))

  used_by : (o : Option Routed) → option_and_then on o ≡ Some [] → ⊥
  used_by None some = let gap : None ≡ Some [] = some in cc
  used_by (Some es) some = if_any_used (filter (is_by test) es) some

  pub staying_ordered : IsOrderedBy nat_cmp (staying test all)
  staying_ordered = record {
    texts = sorted_picked text_cmp (λ e. e.0) (λ e. on e.1) all ordered.texts;
    places = λ key hs is. places_by key hs (at_text key all) refl (sym (found_on key) ∙ is);
    used = λ key is. used_by (at_text key all) (sym (found_on key) ∙ is);
  }

  -- entries of which just those of other routers are gone
  pub staying_is : (after : Entries) → IsOrderedBy nat_cmp after → ((z : ℕ) (key : List ℕ) → entry_of z key after ≡ cond (passes z) (entry_of z key all) None) → after ≡ staying test all
  staying_is after sorted alike = same_index nat_cmp_total exact_unsigned after (staying test all) sorted staying_ordered (λ key z. alike z key ∙ sym (staying_entry z key))

-- ---- keys of a router go, one after the other
module _ (r : ℕ) where
  pub dropped_ordered : (ks : List (List ℕ)) (all : Entries) → IsOrderedBy nat_cmp all → IsOrderedBy nat_cmp (fold (without_key r) all ks)
  dropped_ordered [] all ordered = ordered
  dropped_ordered (k ∷ ks) all ordered = dropped_ordered ks (without_key r all k) (without_ordered nat_cmp_total exact_unsigned k r all ordered)

  pub dropped_keys : (ks : List (List ℕ)) (all : Entries) → IsOrderedBy nat_cmp all → ((key : List ℕ) → is_some (at_text key all) ≡ true → is_key key ≡ true)
      → (key : List ℕ) → is_some (at_text key (fold (without_key r) all ks)) ≡ true → is_key key ≡ true
  dropped_keys [] all ordered valid = valid
  dropped_keys (k ∷ ks) all ordered valid = dropped_keys ks (without_key r all k) (without_ordered nat_cmp_total exact_unsigned k r all ordered) (keys_fewer all ordered r k valid)

  entry_by' : {X : Type 0} (a b c d : Bool) (o : Option X) → b ≡ d → cond (a && c) None (cond (a && d) None o) ≡ cond (a && (b || c)) None o
  entry_by' true true true d o e = refl
  entry_by' true true false d o e = ap (λ x. cond x None o) (sym e)
  entry_by' true false true d o e = refl
  entry_by' true false false d o e = ap (λ x. cond x None o) (sym e)
  entry_by' false b c d o e = refl

  pub dropped_entry : (ks : List (List ℕ)) (all : Entries) → IsOrderedBy nat_cmp all → (z : ℕ) (key : List ℕ) → entry_of z key (fold (without_key r) all ks) ≡ cond (is_at (nat_cmp r) z && has_text key ks) None (entry_of z key all)
  dropped_entry [] all ordered z key = by (is_at (nat_cmp r) z)
    where
      by : (b : Bool) → entry_of z key all ≡ cond (b && false) None (entry_of z key all)
      by true = refl
      by false = refl
  dropped_entry (k ∷ ks) all ordered z key =
      dropped_entry ks (without_key r all k) (without_ordered nat_cmp_total exact_unsigned k r all ordered) z key
      ∙ ap (cond (is_at (nat_cmp r) z && has_text key ks) None) (lost all ordered r k z key)
      ∙ entry_by' (is_at (nat_cmp r) z) (is_at (text_cmp key) k) (has_text key ks) (is_at (text_cmp k) key) (entry_of z key all) (either_way text_total text_exact key k)

-- ---- all keys of a router go
module _ (router : Zid) (all : Entries) (routers after : RouterKeys) (tied : IsTied all routers) (ks : List (List ℕ))
    (keys : (k : List ℕ) → has_text k ks ≡ has_key router.0 k routers) (loses : LosesAll router.0 routers after) where
  abbrev left : Entries
  left = fold (without_key router.0) all ks

  gone_by : (z : ℕ) (key : List ℕ) (b : Bool) → is_at (nat_cmp router.0) z ≡ b → cond (b && has_text key ks) None (entry_of z key all) ≡ cond b None (entry_of z key all)
  gone_by z key false at = refl
  gone_by z key true at =
      ap (λ c. cond c None (entry_of z key all)) (keys key ∙ tied.same router.0 key ∙ ap (λ x. is_some (entry_of x key all)) (same_key nat_cmp_total exact_unsigned router.0 z at)) ∙ by (entry_of z key all)
    where
      by : {X : Type 0} (o : Option X) → cond (is_some o) None o ≡ None
      by None = refl
      by (Some x) = refl

  gone : (z : ℕ) (key : List ℕ) → entry_of z key left ≡ cond (is_at (nat_cmp router.0) z) None (entry_of z key all)
  gone z key = dropped_entry router.0 ks all tied.ordered z key ∙ gone_by z key (is_at (nat_cmp router.0) z) refl

  none_in : {X : Type 0} (b : Bool) (o : Option X) → cond b false (is_some o) ≡ is_some (cond b None o)
  none_in true o = refl
  none_in false o = refl

  pub dropped_tied : IsTied left after
  dropped_tied = record {
    ordered = dropped_ordered router.0 ks all tied.ordered;
    keys = dropped_keys router.0 ks all tied.ordered tied.keys;
    same = λ z k. loses z k ∙ ap (cond (is_at (nat_cmp router.0) z) false) (tied.same z k) ∙ none_in (is_at (nat_cmp router.0) z) (entry_of z k all) ∙ ap is_some (sym (gone z k));
  }

  turned : {X : Type 0} (b : Bool) (o : Option X) → cond b None o ≡ cond (not b) o None
  turned true o = refl
  turned false o = refl

  pub dropped_is : left ≡ staying (is_another router) all
  dropped_is = staying_is (is_another router) all tied.ordered left (dropped_ordered router.0 ks all tied.ordered)
      (λ z key. gone z key ∙ turned (is_at (nat_cmp router.0) z) (entry_of z key all) ∙ ap (λ b. cond (not b) (entry_of z key all) None) (number_test router.0 z))
