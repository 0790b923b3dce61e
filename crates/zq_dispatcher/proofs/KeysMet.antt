-- The keys that meet what is asked for, put in order region by region, and those of them that a face was told.
use Rattle.std.proofs.Common.{◌≡◌, ◌∙◌, refl, sym, ap, subst, ℕ, Bool, true, false, cond, filter, fold, List, [], ◌∷◌, Option, Some, None, Result, Ok, Err}
use Rattle.std.specs.Prelude.{◌||◌, ◌&&◌, IfOk, OnOk}
use Rattle.std.specs.BTreeMap.{is_at}
use Rattle.std.specs.BTreeSet.{insert_key}
use Rattle.std.specs.List.{AllByRecursion}
use Rattle.std.specs.List.Sorted.{IsStrictlySortedBy}
use Rattle.std.specs.Map.{keys_of}
use Rattle.std.specs.Option.{is_some, option_and_then, option_map_or}
use Rattle.std.proofs.lemmas.List.Kept.{IsStrictlySortedBy-filter}
use Rattle.std.proofs.lemmas.Map.Made.{is_some-lookup}
use Rattle.zq_key.specs.Key.{intersects}
use Rattle.zq_key.proofs.Lawful.{intersects-swap}
use Rattle.zq_key.proofs.Sorted.{same_keys, sorted_put}
use Rattle.zq_index.specs.Texts.{at_text, text_cmp}
use Rattle.zq_index.proofs.Orders.{text_exact, text_total}
use Rattle.zq_strategy.specs.State.{HatState}
use Rattle.zq_strategy.specs.Trees.{region_keys}
use Rattle.zq_interests.specs.Interests.{meets}
use Rattle.zq_told.specs.ToldSets.{ToldSet, ToldSets, at_face, told_keys}
use Rattle.zq_machine.specs.Due.{with_region_keys}
use Rattle.zq_machine.proofs.DueKeys.{all_put, is_among}
use Rattle.zq_machine.proofs.NeighbourDues.{among_filter}
use Rattle.zq_dispatcher.specs.Dues.{AreKeys, all_keys, was_told}

-- what holds of each holds of those that pass
pub all_passing : {X : Type 0} (P : X → Type 0) (test : X → Bool) (xs : List X) → AllByRecursion P xs → AllByRecursion P (filter test xs)
all_passing P test [] all = tt
all_passing {X} P test (x ∷ xs) all = by (test x) (all_passing P test xs all.1)
  where
    by : (b : Bool) → AllByRecursion P (filter test xs) → AllByRecursion P (cond b (x ∷ filter test xs) (filter test xs))
    by true more = (all.0, more)
    by false more = more

-- the keys that meet a key are those that it meets
pub met_by_key : (q : List ℕ) (keys : List (List ℕ)) → filter (λ k. intersects k q) keys ≡ filter (meets (Some q)) keys
met_by_key q [] = refl
met_by_key q (k ∷ ks) = λ j. cond (intersects-swap k q j) (k ∷ met_by_key q ks j) (met_by_key q ks j)

-- all keys meet where nothing is asked for
pub met_by_none : (keys : List (List ℕ)) → filter (meets None) keys ≡ keys
met_by_none [] = refl
met_by_none (k ∷ ks) = ap (λ l. k ∷ l) (met_by_none ks)

-- ---- in order
abbrev Rise : List (List ℕ) → Type 0
Rise keys = IsStrictlySortedBy text_cmp keys

pub none_rise : Rise []
unfolding IsStrictlySortedBy
none_rise = tt

pub all_rise : (xs ks : List (List ℕ)) → Rise ks → Rise (fold (insert_key text_cmp) ks xs)
all_rise [] ks s = s
all_rise (x ∷ xs) ks s = all_rise xs (insert_key text_cmp ks x) (sorted_put text_total ks x s)

pub hats_rise : (hats : List (ℕ × HatState)) (ks : List (List ℕ)) → Rise ks → Rise (fold with_region_keys ks hats)
hats_rise [] ks s = s
hats_rise (h ∷ hats) ks s = hats_rise hats (with_region_keys ks h) (all_rise (region_keys h.1) ks s)

either_passes : (p a b : Bool) → ((p && a) || (p && b)) ≡ (p && (a || b))
either_passes true a b = refl
either_passes false a b = refl

-- ---- of one region after the other
module _ (test : List ℕ → Bool) where
  -- those of a region's keys that pass join others
  abbrev pub with_met : List (List ℕ) → ℕ × HatState → List (List ℕ)
  with_met keys h = fold (insert_key text_cmp) keys (filter test (region_keys h.1))

  met_put : (ks xs : List (List ℕ)) → Rise ks → fold (insert_key text_cmp) (filter test ks) (filter test xs) ≡ filter test (fold (insert_key text_cmp) ks xs)
  met_put ks xs s =
      same_keys text_total text_exact (fold (insert_key text_cmp) (filter test ks) (filter test xs)) (filter test (fold (insert_key text_cmp) ks xs))
      (all_rise (filter test xs) (filter test ks) (IsStrictlySortedBy-filter text_cmp test ks s))
      (IsStrictlySortedBy-filter text_cmp test (fold (insert_key text_cmp) ks xs) (all_rise xs ks s))
      (λ q.
      all_put q (filter test ks) (filter test xs)
      ∙ (λ j. among_filter test q xs j || among_filter test q ks j)
      ∙ either_passes (test q) (is_among q xs) (is_among q ks)
      ∙ ap (λ b. test q && b) (sym (all_put q ks xs))
      ∙ sym (among_filter test q (fold (insert_key text_cmp) ks xs)))

  met_hats : (hats : List (ℕ × HatState)) (ks : List (List ℕ)) → Rise ks → fold with_met (filter test ks) hats ≡ filter test (fold with_region_keys ks hats)
  met_hats [] ks s = refl
  met_hats (h ∷ hats) ks s = ap (λ l. fold with_met l hats) (met_put ks (region_keys h.1) s) ∙ met_hats hats (with_region_keys ks h) (all_rise (region_keys h.1) ks s)

  -- put in order they are those of all keys that pass
  pub met_are : (hats : List (ℕ × HatState)) → fold with_met [] hats ≡ filter test (all_keys hats)
  met_are hats = met_hats hats [] none_rise

-- ---- those that a face was told
module _ (face : ℕ) (ears : ToldSets) where
  pub told_is : (key : List ℕ) → was_told face ears key ≡ is_among key (told_keys face ears)
  told_is key = by (at_face face ears)
    where
      by : (o : Option ToldSet) → is_some (option_and_then (λ (e : ToldSet). at_text key e.told) o) ≡ is_among key (option_map_or (λ (e : ToldSet). keys_of e.told) o [])
      by None = refl
      by (Some e) = is_some-lookup (is_at (text_cmp key)) e.told

-- where texts are some keys at Ok, they are keys there
pub ok_keys : {X E : Type 0} (r : Result X E) (texts keys : List (List ℕ)) → OnOk r (texts ≡ keys) → AreKeys keys → OnOk r (AreKeys texts)
ok_keys (Ok x) texts keys is all = subst AreKeys (sym is) all
ok_keys (Err e) texts keys is all = tt

-- where an answer is some keys it is keys
pub if_keys : {E : Type 0} (r : Result (List (List ℕ)) E) (keys : List (List ℕ)) → IfOk r (λ ks. ks ≡ keys) → AreKeys keys → IfOk r AreKeys
if_keys (Ok ks) keys is all = subst AreKeys (sym is) all
if_keys (Err e) keys is all = tt
