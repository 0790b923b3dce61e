-- Keys in order with those of aggregating interests that one of them meets; and keys of a list that pass a test.
use Rattle.std.proofs.Common.{◌≡◌, ◌∙◌, refl, sym, ap, ℕ, Bool, true, false, cond, List, [], ◌∷◌, filter, fold, Option, Some, None}
use Rattle.std.specs.Prelude.{◌||◌, ◌&&◌}
use Rattle.std.specs.BTreeMap.{is_at}
use Rattle.std.specs.BTreeSet.{insert_key}
use Rattle.std.specs.List.{cons_option, filter_map, list_any}
use Rattle.std.specs.List.Sorted.{IsStrictlySortedBy}
use Rattle.std.specs.Option.{option_map_or}
use Rattle.std.proofs.lemmas.Bool.{false≢true, or_parts, true≢false}
use Rattle.zq_key.specs.Key.{intersects}
use Rattle.zq_key.proofs.Lawful.{intersects-self}
use Rattle.zq_key.proofs.Lookups.{at_itself, either_way, same_key}
use Rattle.zq_key.proofs.Sorted.{sorted_put}
use Rattle.zq_index.specs.Texts.{text_cmp}
use Rattle.zq_index.proofs.Orders.{text_exact, text_total}
use Rattle.zq_interests.specs.declared.types.InterestEntry.{InterestEntry}
use Rattle.zq_interests.specs.Interests.{Interests, asked_for, asks_folded, asks_for, interests_of, is_own, meets, own_key, own_keys, wants, wants_folded}
use Rattle.zq_machine.specs.Due.{is_met_by, widened}
use Rattle.zq_machine.proofs.DueKeys.{all_put, is_among}
use Rattle.zq_machine.proofs.NeighbourDues.{among_filter}

-- ---- keys of a list
-- a key among others that pass a test
pub record Passing (p : List ℕ → Bool) (ks : List (List ℕ)) : Type 0 where
  pub key : List ℕ
  pub among : is_among key ks ≡ true
  pub passes : p key ≡ true

or_right : (a b : Bool) → b ≡ true → (a || b) ≡ true
or_right true b e = refl
or_right false b e = e

or_left : (a b : Bool) → a ≡ true → (a || b) ≡ true
or_left a b e = ap (λ x. x || b) e

pub both_true : (a b : Bool) → (a && b) ≡ true → (a ≡ true) × (b ≡ true)
both_true true b e = (refl, e)
both_true false b e = absurd (false≢true e)

pub passing : (p : List ℕ → Bool) (ks : List (List ℕ)) → list_any p ks ≡ true → Passing p ks
passing p [] e = absurd (false≢true e)
passing p (k ∷ ks) e = by (p k) refl e (passing p ks)
  where
    by : (b : Bool) → p k ≡ b → (b || list_any p ks) ≡ true → (list_any p ks ≡ true → Passing p ks) → Passing p (k ∷ ks)
    by true is f more = record { key = k; among = or_left (is_at (text_cmp k) k) (is_among k ks) (at_itself text_total text_exact k); passes = is }
    by false is f more = let x = more f in record { key = x.key; among = or_right (is_at (text_cmp x.key) k) (is_among x.key ks) x.among; passes = x.passes }

pub any_passes : (p : List ℕ → Bool) (q : List ℕ) (ks : List (List ℕ)) → is_among q ks ≡ true → p q ≡ true → list_any p ks ≡ true
any_passes p q [] on e = absurd (false≢true on)
any_passes p q (k ∷ ks) on e = by (is_at (text_cmp q) k) refl on (λ f. any_passes p q ks f e)
  where
    by : (b : Bool) → is_at (text_cmp q) k ≡ b → (b || is_among q ks) ≡ true → (is_among q ks ≡ true → list_any p ks ≡ true) → (p k || list_any p ks) ≡ true
    by true is f more = or_left (p k) (list_any p ks) (ap p (sym (same_key text_total text_exact q k is)) ∙ e)
    by false is f more = or_right (p k) (list_any p ks) (more f)

-- ---- the keys of aggregating interests
own_listed : (key : List ℕ) (es : List (ℕ × InterestEntry)) → list_any (wants_folded key) es ≡ is_among key (filter_map (λ (i : ℕ × InterestEntry). own_key i.1) es)
own_listed key [] = refl
own_listed key (e ∷ es) = by (own_key e.1) (own_listed key es)
  where
    rest : List (List ℕ)
    rest = filter_map (λ (i : ℕ × InterestEntry). own_key i.1) es

    by : (o : Option (List ℕ)) → list_any (wants_folded key) es ≡ is_among key rest → (option_map_or (λ k. is_at (text_cmp k) key) o false || list_any (wants_folded key) es) ≡ is_among key (cons_option o rest)
    by None more = more
    by (Some k) more = λ j. either_way text_total text_exact k key j || more j

pub folded_own : (face : ℕ) (key : List ℕ) (ints : Interests) → asks_folded face key ints ≡ is_among key (own_keys face ints)
folded_own face key ints = own_listed key (interests_of face ints)

-- an interest that asks for a key as one entry asks for it, and one that asks for a key meets it
pub own_meets : (asked : Option (List ℕ)) (key : List ℕ) → is_own asked key ≡ true → meets asked key ≡ true
own_meets None key e = refl
own_meets (Some k) key e = ap (intersects k) (sym (same_key text_total text_exact k key e)) ∙ intersects-self k

pub asked_meets : (i : InterestEntry) (key : List ℕ) → asked_for i key ≡ true → meets i.key key ≡ true
asked_meets i key = by i.aggregate
  where
    by : (b : Bool) → cond b (is_own i.key key) (meets i.key key) ≡ true → meets i.key key ≡ true
    by true e = own_meets i.key key e
    by false e = e

pub folded_asked : (key : List ℕ) (i : ℕ × InterestEntry) → wants_folded key i ≡ true → wants key i ≡ true
folded_asked key i = by i.1.aggregate i.1.key
  where
    by : (b : Bool) (o : Option (List ℕ)) → option_map_or (λ k. is_at (text_cmp k) key) (cond b o None) false ≡ true → cond b (is_own o key) (meets o key) ≡ true
    by true None e = refl
    by true (Some k) e = e
    by false o e = absurd (false≢true e)

any_more : {X : Type 0} (p q : X → Bool) → ((x : X) → p x ≡ true → q x ≡ true) → (xs : List X) → list_any p xs ≡ true → list_any q xs ≡ true
any_more p q more [] e = e
any_more p q more (x ∷ xs) e = by (p x) refl e (any_more p q more xs)
  where
    by : (b : Bool) → p x ≡ b → (b || list_any p xs) ≡ true → (list_any p xs ≡ true → list_any q xs ≡ true) → (q x || list_any q xs) ≡ true
    by true is f rest = or_left (q x) (list_any q xs) (more x is)
    by false is f rest = or_right (q x) (list_any q xs) (rest f)

pub folded_for : (face : ℕ) (key : List ℕ) (ints : Interests) → asks_folded face key ints ≡ true → asks_for face key ints ≡ true
folded_for face key ints = any_more (wants_folded key) (wants key) (folded_asked key) (interests_of face ints)

-- ---- widened keys
module _ (face : ℕ) (ints : Interests) (keys : List (List ℕ)) where
  pub among_wide : (key : List ℕ) → is_among key (widened face ints keys) ≡ ((is_met_by keys key && is_among key (own_keys face ints)) || is_among key keys)
  among_wide key = all_put key keys (filter (is_met_by keys) (own_keys face ints)) ∙ ap (λ b. b || is_among key keys) (among_filter (is_met_by keys) key (own_keys face ints))

  -- a key that is not among them is none of the keys, and none that is asked for as one entry and that one of them meets
  pub off_keys : (key : List ℕ) → is_among key (widened face ints keys) ≡ false → is_among key keys ≡ false
  off_keys key off = (or_parts (is_met_by keys key && is_among key (own_keys face ints)) (is_among key keys) (sym (among_wide key) ∙ off)).1

  pub off_met : (key : List ℕ) → is_among key (widened face ints keys) ≡ false → asks_folded face key ints ≡ true → is_met_by keys key ≡ false
  off_met key off folds = by (is_met_by keys key) ((or_parts (is_met_by keys key && is_among key (own_keys face ints)) (is_among key keys) (sym (among_wide key) ∙ off)).0)
    where
      by : (b : Bool) → (b && is_among key (own_keys face ints)) ≡ false → b ≡ false
      by true e = absurd (true≢false (sym (sym (folded_own face key ints) ∙ folds) ∙ e))
      by false e = refl

  pub in_keys : (key : List ℕ) → is_among key keys ≡ true → is_among key (widened face ints keys) ≡ true
  in_keys key on = among_wide key ∙ or_right (is_met_by keys key && is_among key (own_keys face ints)) (is_among key keys) on

  pub in_met : (key : List ℕ) → asks_folded face key ints ≡ true → is_met_by keys key ≡ true → is_among key (widened face ints keys) ≡ true
  in_met key folds met =
      among_wide key
      ∙ or_left (is_met_by keys key && is_among key (own_keys face ints)) (is_among key keys) ((λ j. met j && (sym (folded_own face key ints) ∙ folds) j))

  -- one of them is one of the keys, or that of an aggregating interest
  pub in_wide : (key : List ℕ) → is_among key (widened face ints keys) ≡ true → (is_among key (own_keys face ints) || is_among key keys) ≡ true
  in_wide key on = by (is_met_by keys key) (sym (among_wide key) ∙ on)
    where
      by : (b : Bool) → ((b && is_among key (own_keys face ints)) || is_among key keys) ≡ true → (is_among key (own_keys face ints) || is_among key keys) ≡ true
      by true e = e
      by false e = or_right (is_among key (own_keys face ints)) (is_among key keys) e

  -- they stand in order where the keys do
  puts_rise : (xs ks : List (List ℕ)) → IsStrictlySortedBy text_cmp ks → IsStrictlySortedBy text_cmp (fold (insert_key text_cmp) ks xs)
  puts_rise [] ks s = s
  puts_rise (x ∷ xs) ks s = puts_rise xs (insert_key text_cmp ks x) (sorted_put text_total ks x s)

  pub wide_rise : IsStrictlySortedBy text_cmp keys → IsStrictlySortedBy text_cmp (widened face ints keys)
  wide_rise s = puts_rise (filter (is_met_by keys) (own_keys face ints)) keys s

-- where no interest of the face aggregates, nothing is added
pub not_wider : (face : ℕ) (ints : Interests) (keys : List (List ℕ)) → own_keys face ints ≡ [] → widened face ints keys ≡ keys
not_wider face ints keys none = ap (λ ks. fold (insert_key text_cmp) keys (filter (is_met_by keys) ks)) none
