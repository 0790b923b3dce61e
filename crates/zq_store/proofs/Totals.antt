-- The answers of a get are no more than the pairs that meet its key: each storage is asked once at most.
use Rattle.std.proofs.Common.{◌≡◌, ◌∙◌, refl, sym, ap, ℕ, ◌+◌, ◌≤◌, Bool, true, false, cond, not, List, [], ◌∷◌, ◌++◌, map, Option, Some, None, length, arith, append_assoc, length-append}
use Rattle.std.specs.Prelude.{fold, filter, find, slice_get}
use Rattle.std.specs.List.{AllByRecursion}
use Rattle.std.specs.List.Sorted.{IsStrictlySortedBy}
use Rattle.std.specs.Option.{option_map_or}
use Rattle.std.specs.Str.{bytes_eq}
use Rattle.std.specs.declared.cmp.Ordering.TheVariants.{Less, Equal}
use Rattle.std.proofs.lemmas.List.{length-map}
use Rattle.std.proofs.lemmas.Map.Keys.{sorted_head, sorted_tail}
use Rattle.std.proofs.lemmas.Slice.Eq.{bytes_eq-Decides}
use Rattle.zq_index.specs.Texts.{text_cmp}
use Rattle.zq_message.specs.declared.message.QueryTarget.{QueryTarget}
use Rattle.zq_message.specs.declared.message.QueryTarget.TheVariants as target
use Rattle.zq_query.specs.Records.{QueryState}
use Rattle.zq_local.specs.Picking.{Seat, by_key, has_all, is_on, keys_in, meets, on_keys, picked, picks}
use Rattle.zq_local.proofs.Picked.{keys_in_order, text_itself}
use Rattle.zq_store.specs.Held.{meeting}
use Rattle.zq_store.specs.Stores.{Stored, count_all, count_in, held_at}
use Rattle.zq_store.specs.Getting.{answer_by, answers_at, answers_of}
use Rattle.zq_store.specs.Seats.{seats, seats_from}
use Rattle.zq_store.proofs.Numbering.{found_behind}
use Rattle.zq_store.proofs.Replying.{ask_at}

module _ (w : Seat → ℕ) where
  abbrev pub total : List Seat → ℕ
  total [] = 0
  total (s ∷ ss) = w s + total ss

  total_append : (xs ys : List Seat) → total (xs ++ ys) ≡ total xs + total ys
  total_append [] ys = omega arith
  total_append (x ∷ xs) ys = let rest = total_append xs ys in omega (arith, rest)

  filter_less : (p : Seat → Bool) (xs : List Seat) → total (filter p xs) ≤ total xs
  filter_less p [] = omega arith
  filter_less p (x ∷ xs) = by (p x) (filter_less p xs)
    where
      by : (b : Bool) → total (filter p xs) ≤ total xs → total (cond b (x ∷ filter p xs) (filter p xs)) ≤ w x + total xs
      by true rest = omega (arith, rest)
      by false rest = omega (arith, rest)

  both_parts : (p : Seat → Bool) (xs : List Seat) → total (filter p xs) + total (filter (λ x. not (p x)) xs) ≡ total xs
  both_parts p [] = omega arith
  both_parts p (x ∷ xs) = by (p x) (both_parts p xs)
    where
      by : (b : Bool) → total (filter p xs) + total (filter (λ x. not (p x)) xs) ≡ total xs
          → total (cond b (x ∷ filter p xs) (filter p xs)) + total (cond (not b) (x ∷ filter (λ x. not (p x)) xs) (filter (λ x. not (p x)) xs)) ≡ w x + total xs
      by true rest = omega (arith, rest)
      by false rest = omega (arith, rest)

  -- those of other keys are among the rest
  other : (k key : List ℕ) → text_cmp k key ≡ Less → (xs : List Seat) → filter (is_on key) (filter (λ x. not (is_on k x)) xs) ≡ filter (is_on key) xs
  other k key less [] = refl
  other k key less (x ∷ xs) = by (bytes_eq x.key k) (bytes_eq x.key key) refl refl (other k key less xs)
    where
      by : (a b : Bool) → bytes_eq x.key k ≡ a → bytes_eq x.key key ≡ b → filter (is_on key) (filter (λ x. not (is_on k x)) xs) ≡ filter (is_on key) xs
          → filter (is_on key) (cond (not a) (x ∷ filter (λ x. not (is_on k x)) xs) (filter (λ x. not (is_on k x)) xs)) ≡ cond b (x ∷ filter (is_on key) xs) (filter (is_on key) xs)
      by true true e f rest =
          let same : k ≡ key = sym ((bytes_eq-Decides x.key k).0 e) ∙ (bytes_eq-Decides x.key key).0 f in
          let gap : Equal ≡ Less = sym (text_itself k) ∙ ap (text_cmp k) same ∙ less in
          absurd (cc)
      by true false e f rest = rest
      by false true e f rest = ap (λ c. cond c (x ∷ filter (is_on key) (filter (λ x. not (is_on k x)) xs)) (filter (is_on key) (filter (λ x. not (is_on k x)) xs))) f ∙ ap (λ l. x ∷ l) rest
      by false false e f rest = ap (λ c. cond c (x ∷ filter (is_on key) (filter (λ x. not (is_on k x)) xs)) (filter (is_on key) (filter (λ x. not (is_on k x)) xs))) f ∙ rest

  others : (k : List ℕ) (keys : List (List ℕ)) → AllByRecursion (λ key. text_cmp k key ≡ Less) keys → (xs : List Seat) → on_keys (filter (λ x. not (is_on k x)) xs) keys ≡ on_keys xs keys
  others k [] all xs = refl
  others k (key ∷ keys) all xs = (λ j. other k key all.0 xs j ++ others k keys all.1 xs j)

  on_keys_less : (keys : List (List ℕ)) → IsStrictlySortedBy text_cmp keys → (xs : List Seat) → total (on_keys xs keys) ≤ total xs
  on_keys_less [] sorted xs = omega arith
  on_keys_less (key ∷ keys) sorted xs =
      let rest = on_keys_less keys (sorted_tail text_cmp key keys sorted) (filter (λ x. not (is_on key x)) xs) in
      let same : total (on_keys (filter (λ x. not (is_on key x)) xs) keys) ≡ total (on_keys xs keys) = ap total (others key keys (sorted_head text_cmp key keys sorted) xs) in
      let parts = both_parts (is_on key) xs in
      let joined = total_append (filter (is_on key) xs) (on_keys xs keys) in
      omega (arith, rest, same, parts, joined)

  first_less : (p : Seat → Bool) (xs : List Seat) → total (option_map_or (λ s. s ∷ []) (find p xs) []) ≤ total xs
  first_less p [] = omega arith
  first_less p (x ∷ xs) = by (p x) (first_less p xs)
    where
      by : (b : Bool) → total (option_map_or (λ s. s ∷ []) (find p xs) []) ≤ total xs → total (option_map_or (λ s. s ∷ []) (cond b (Some x) (find p xs)) []) ≤ w x + total xs
      by true rest = omega arith
      by false rest = omega (arith, rest)

  or_all_less : (o : Option Seat) (xs : List Seat) → total (option_map_or (λ s. s ∷ []) o []) ≤ total xs → total (option_map_or (λ s. s ∷ []) o xs) ≤ total xs
  or_all_less None xs less = omega arith
  or_all_less (Some s) xs less = less

  picks_less : (q : List ℕ) (t : QueryTarget) (xs : List Seat) → total (picks q t xs) ≤ total xs
  picks_less q target.All xs = omega arith
  picks_less q target.AllComplete xs = filter_less (has_all q) xs
  picks_less q target.BestMatching xs = or_all_less (find (has_all q) xs) xs (first_less (has_all q) xs)

  pub picked_less : (q : List ℕ) (t : QueryTarget) (ss : List Seat) → total (picked q t ss) ≤ total ss
  picked_less q t ss =
      let first = picks_less q t (filter (meets q) (by_key ss)) in
      let met = filter_less (meets q) (by_key ss) in
      let all = on_keys_less (keys_in ss) (keys_in_order ss) ss in
      omega (arith, first, met, all)

-- ---- answers
module _ (stores : List Stored) (key : List ℕ) where
  abbrev pub pairs_of : Seat → ℕ
  pairs_of s = length (meeting key (held_at stores s.number))

  pub answers_count : (q : QueryState) (ss : List Seat) → length (answers_of stores key (map (ask_at q) ss)) ≡ total pairs_of ss
  answers_count q [] = refl
  answers_count q (s ∷ ss) =
      let rest = answers_count q ss in
      let joined = length-append (answers_at stores key (ask_at q s)) (answers_of stores key (map (ask_at q) ss)) in
      let own : length (answers_at stores key (ask_at q s)) ≡ pairs_of s = length-map (meeting key (held_at stores s.number)) (answer_by (ask_at q s)) in
      omega (arith, rest, joined, own)

  counted : (n acc : ℕ) (front rest : List Stored) → n ≡ length front → stores ≡ front ++ rest → fold (λ a x. a + count_in key x) acc rest ≡ acc + total pairs_of (seats_from n rest)
  counted n acc front [] count is = omega arith
  counted n acc front (s ∷ rest) count is =
      let there : slice_get stores n ≡ Some s = (λ j. slice_get (is j) (count j)) ∙ found_behind front s rest in
      let own : length (meeting key (held_at stores n)) ≡ count_in key s = ap (λ o. length (meeting key (option_map_or (λ (x : Stored). x.held) o []))) there in
      let more = counted (n + 1) (acc + count_in key s) (front ++ s ∷ []) rest (let e = length-append front (s ∷ []) in omega (arith, count, e)) (is ∙ sym (append_assoc front (s ∷ []) rest)) in
      omega (arith, own, more)

  pub all_counted : count_all key stores ≡ total pairs_of (seats stores)
  all_counted = let e = counted 0 0 [] stores refl refl in omega (arith, e)
