-- The keys of a face's aggregating interests that some keys meet widen these; and of all of them the face asks for those alone as one entry.
use Rattle.std.proofs.Common.{◌≡◌, ◌∙◌, refl, sym, ap, ℕ, Bool, true, false, List, [], ◌∷◌, filter, fold, Option, Some, None}
use Rattle.std.specs.Prelude.{◌&&◌, ◌||◌, ⊤}
use Rattle.std.specs.BTreeMap.{is_at}
use Rattle.std.specs.BTreeSet.{insert_key}
use Rattle.std.specs.List.{AllByRecursion, cons_option, filter_map, list_any}
use Rattle.std.specs.List.Sorted.{IsStrictlySortedBy}
use Rattle.std.specs.Option.{option_map_or}
use Rattle.zq_key.specs.Key.{intersects}
use Rattle.zq_key.proofs.Lawful.{intersects-self}
use Rattle.zq_key.proofs.Lookups.{either_way}
use Rattle.zq_key.proofs.Sorted.{same_keys}
use Rattle.zq_index.specs.Texts.{text_cmp}
use Rattle.zq_index.proofs.Orders.{text_exact, text_total}
use Rattle.zq_interests.specs.declared.types.InterestEntry.{InterestEntry}
use Rattle.zq_interests.specs.Interests.{Asked, Interests, asks_folded, at, interests_of, own_key, own_keys, wants_folded}
use Rattle.zq_interests.proofs.Asking.{or_left, or_right}
use Rattle.zq_machine.specs.Due.{is_met_by, widened}
use Rattle.zq_machine.proofs.DueKeys.{all_put, is_among}
use Rattle.zq_machine.proofs.Lists.{all_passing, all_weaker}
use Rattle.zq_machine.proofs.NeighbourDues.{among_filter}
use Rattle.zq_dispatcher.specs.Owns.{AreFolded, AreOwns, Owns, has_own}
use Rattle.zq_dispatcher.proofs.KeysGathered.{all_in}
use Rattle.zq_dispatcher.proofs.KeysMet.{all_rise, none_rise}

or_none : (b : Bool) → (b || false) ≡ b
or_none true = refl
or_none false = refl

-- keys in order stay where they are put in order
pub put_in_order : (keys : List (List ℕ)) → IsStrictlySortedBy text_cmp keys → fold (insert_key text_cmp) [] keys ≡ keys
put_in_order keys s =
    same_keys text_total text_exact (fold (insert_key text_cmp) [] keys) keys (all_rise keys [] none_rise) s
    (λ q. all_put q [] keys ∙ or_none (is_among q keys))

module _ (keys : List (List ℕ)) (s : IsStrictlySortedBy text_cmp keys) (face : ℕ) (ints : Interests) where
  -- those of the face's own keys that one of the keys meets widen them
  pub wide_is : (owns : List (List ℕ)) → ((own : List ℕ) → is_among own owns ≡ (is_met_by keys own && is_among own (own_keys face ints))) → fold (insert_key text_cmp) keys owns ≡ widened face ints keys
  wide_is owns are =
      same_keys text_total text_exact (fold (insert_key text_cmp) keys owns) (widened face ints keys) (all_rise owns keys s) (all_rise (filter (is_met_by keys) (own_keys face ints)) keys s)
      (λ q.
      all_put q keys owns
      ∙ ap (λ b. b || is_among q keys) (are q ∙ sym (among_filter (is_met_by keys) q (own_keys face ints)))
      ∙ sym (all_put q keys (filter (is_met_by keys) (own_keys face ints))))

-- ---- which of them a face asks for as one entry
-- a key meets itself
wider : (k q : List ℕ) (ks : List (List ℕ)) → is_met_by ks q ≡ true → is_met_by (k ∷ ks) q ≡ true
wider k q ks met = or_right (intersects k q) (is_met_by ks q) met

all_met : (keys : List (List ℕ)) → AllByRecursion (λ q. is_met_by keys q ≡ true) keys
all_met [] = tt
all_met (k ∷ ks) =
    (or_left (intersects k k) (is_met_by ks k) (intersects-self k), all_weaker (λ q. is_met_by ks q ≡ true) (λ q. is_met_by (k ∷ ks) q ≡ true) (λ q met. wider k q ks met) ks (all_met ks))

any_all : (xs : List (List ℕ)) → AllByRecursion (λ x. ⊤) xs
any_all [] = tt
any_all (x ∷ xs) = (tt, any_all xs)

all_widened : (keys : List (List ℕ)) (face : ℕ) (ints : Interests) → AllByRecursion (λ q. is_met_by keys q ≡ true) (widened face ints keys)
all_widened keys face ints =
    all_in text_cmp (λ q. is_met_by keys q ≡ true) (filter (is_met_by keys) (own_keys face ints)) keys (all_met keys)
    (all_passing (λ q. ⊤) (λ q. is_met_by keys q ≡ true) (is_met_by keys) (λ q met any. met) (own_keys face ints) (any_all (own_keys face ints)))

-- the face asks for its own keys as one entry
own_folds : (key : List ℕ) (es : Asked) → is_among key (filter_map (λ (i : ℕ × InterestEntry). own_key i.1) es) ≡ list_any (wants_folded key) es
own_folds key [] = refl
own_folds key (e ∷ es) = by (own_key e.1) (own_folds key es)
  where
    rest : List (List ℕ)
    rest = filter_map (λ (i : ℕ × InterestEntry). own_key i.1) es

    by : (o : Option (List ℕ)) → is_among key rest ≡ list_any (wants_folded key) es → is_among key (cons_option o rest) ≡ (option_map_or (λ k. is_at (text_cmp k) key) o false || list_any (wants_folded key) es)
    by None later = later
    by (Some k) later = λ j. either_way text_total text_exact key k j || later j

pub folded_there : (keys : List (List ℕ)) (face : ℕ) (ints : Interests) (owns : Option (List (List ℕ))) → ((own : List ℕ) → has_own owns own ≡ (is_met_by keys own && is_among own (own_keys face ints)))
    → AreFolded ints face owns (widened face ints keys)
folded_there keys face ints owns are =
    all_weaker (λ q. is_met_by keys q ≡ true) (λ q. has_own owns q ≡ asks_folded face q ints)
    (λ q met. are q ∙ ap (λ b. b && is_among q (own_keys face ints)) met ∙ own_folds q (interests_of face ints))
    (widened face ints keys) (all_widened keys face ints)

-- what stands at a face are its keys that one of the keys meets
pub owns_there : (keys : List (List ℕ)) (face : ℕ) (ints : Interests) (owns : Owns) → AreOwns keys ints owns → (o : Option (List (List ℕ))) → o ≡ at face owns → (own : List ℕ) → has_own o own ≡ (is_met_by keys own && is_among own (own_keys face ints))
owns_there keys face ints owns are o is own = ap (λ (x : Option (List (List ℕ))). has_own x own) is ∙ by (at face owns) ∙ are face own
  where
    by : (x : Option (List (List ℕ))) → has_own x own ≡ is_among own (option_map_or (λ ks. ks) x [])
    by None = refl
    by (Some ks) = refl

-- one key stands in order
pub one_rises : (key : List ℕ) → IsStrictlySortedBy text_cmp (key ∷ [])
unfolding IsStrictlySortedBy
one_rises key = all_rise (key ∷ []) [] none_rise

-- keys of which there are some
pub record Some-first (ks : List (List ℕ)) : Type 0 where
  pub key : List ℕ
  pub rest : List (List ℕ)
  pub is : ks ≡ key ∷ rest

pub first_of : (ks : List (List ℕ)) → (ks ≡ [] → ⊥) → Some-first ks
first_of [] some = absurd (some refl)
first_of (k ∷ ks) some = record { key = k; rest = ks; is = refl }
