-- The record of a request has one entry a face, each under an id that was free; numbers and places stay in order with it.
use Rattle.std.proofs.Common.{◌≡◌, ◌∙◌, refl, sym, ap, subst, ℕ, ◌+◌, ◌<◌, ◌≤◌, Bool, true, false, cond, not, List, [], ◌∷◌, ◌++◌, fold, map, length, arith, append-nil, eqb-true}
use Rattle.std.specs.Prelude.{◌==◌, ◌||◌}
use Rattle.std.specs.List.{AllByRecursion, filter, list_any}
use Rattle.std.specs.List.Sorted.{IsStrictlySortedBy}
use Rattle.std.specs.Ordering.{match_ordering, nat_cmp, ordering_then}
use Rattle.std.specs.declared.cmp.Ordering.{Ordering}
use Rattle.std.specs.declared.cmp.Ordering.TheVariants.{Less, Equal, Greater}
use Rattle.std.proofs.lemmas.Bool.{and_parts, false≢true, not-true}
use Rattle.std.proofs.lemmas.Grind.{flat_map-append}
use Rattle.std.proofs.lemmas.List.{map-append}
use Rattle.zq_message.specs.declared.message.FaceId.{FaceId}
use Rattle.zq_query.specs.Asking.{are_distinct, asked_record, asked_records, entries_at, entry_at, face_numbers, given_place, is_full}
use Rattle.zq_query.specs.Closing.{at_face}
use Rattle.zq_query.specs.Records.{Pending, QueryState, Record, insert_pending, is_entry, is_none_left, is_pending, is_reply}
use Rattle.zq_query.proofs.Ids.{given_are_new}
use Rattle.zq_machine.specs.Agreeing.{IsNumbered, all_in_flight, all_pending, in_flight_of, number_of, pending_of}
use Rattle.zq_machine.proofs.Lists.{all_append, all_failing, any_flat, count, count_append, count_more, count_none, count_stricter, is_same, sorted_more}
use Rattle.zq_machine.proofs.Numbered.{InNumbers, IsOnce, all_more}

-- ---- entries are put in their places
module _ (p : Pending → Bool) where
  inserted_count : (e : Pending) (es : List Pending) → count p (insert_pending es e) ≤ count p es + cond (p e) 1 0
  inserted_count e [] = let more = count_more p e [] in omega (arith, more)
  inserted_count e (x ∷ es) = by (ordering_then (nat_cmp e.face x.face) (nat_cmp e.id x.id)) (inserted_count e es)
    where
      by : (o : Ordering) → count p (insert_pending es e) ≤ count p es + cond (p e) 1 0
          → count p (match_ordering o (e ∷ x ∷ es) (e ∷ es) (x ∷ insert_pending es e)) ≤ count p (x ∷ es) + cond (p e) 1 0
      by Less ih = let more = count_more p e (x ∷ es) in omega (arith, more)
      by Equal ih = let here = count_more p e es in let before = count_more p x es in omega (arith, here, before)
      by Greater ih = let before = count_more p x es in let after = count_more p x (insert_pending es e) in omega (arith, ih, before, after)

  entries_count : (d : ℕ) (places : List (ℕ × ℕ)) (es : List Pending) → count p (fold (λ l q. insert_pending l (entry_at d q)) es places) ≤ count p es + count (λ q. p (entry_at d q)) places
  entries_count d [] es = omega arith
  entries_count d (q ∷ places) es =
      let rest = entries_count d places (insert_pending es (entry_at d q)) in
      let here = inserted_count (entry_at d q) es in
      let more = count_more (λ x. p (entry_at d x)) q places in
      omega (arith, rest, here, more)

module _ (P : Pending → Type 0) where
  inserted_all : (e : Pending) (es : List Pending) → P e → AllByRecursion P es → AllByRecursion P (insert_pending es e)
  inserted_all e [] it all = (it, tt)
  inserted_all e (x ∷ es) it all = by (ordering_then (nat_cmp e.face x.face) (nat_cmp e.id x.id)) (inserted_all e es it all.1)
    where
      by : (o : Ordering) → AllByRecursion P (insert_pending es e) → AllByRecursion P (match_ordering o (e ∷ x ∷ es) (e ∷ es) (x ∷ insert_pending es e))
      by Less ih = (it, all)
      by Equal ih = (it, all.1)
      by Greater ih = (all.0, ih)

  entries_all : (d : ℕ) (places : List (ℕ × ℕ)) (es : List Pending) → AllByRecursion (λ q. P (entry_at d q)) places → AllByRecursion P es → AllByRecursion P (fold (λ l q. insert_pending l (entry_at d q)) es places)
  entries_all d [] es all old = old
  entries_all d (q ∷ places) es all old = entries_all d places (insert_pending es (entry_at d q)) all.1 (inserted_all (entry_at d q) es all.0 old)

  -- what holds of the entry at each place holds of each entry
  pub each_entry : (d : ℕ) (places : List (ℕ × ℕ)) → AllByRecursion (λ q. P (entry_at d q)) places → AllByRecursion P (entries_at d places)
  each_entry d places all = entries_all d places [] all tt

-- ---- one entry a face
distinct_count : (f : ℕ) (ns : List ℕ) → are_distinct ns ≡ true → count (is_same f) ns ≤ 1
distinct_count f [] h = omega arith
distinct_count f (n ∷ ns) h = by (n == f) refl (distinct_count f ns parts.1)
  where
    parts : (not (list_any (λ y. y == n) ns) ≡ true) × (are_distinct ns ≡ true)
    parts = and_parts (not (list_any (λ y. y == n) ns)) (are_distinct ns) h

    by : (b : Bool) → (n == f) ≡ b → count (is_same f) ns ≤ 1 → length (cond b (n ∷ filter (is_same f) ns) (filter (is_same f) ns)) ≤ 1
    by true e ih =
        let none : count (is_same f) ns ≡ 0 = count_none (is_same f) ns (ap (λ k. list_any (is_same k) ns) (sym (eqb-true n f e)) ∙ not-true (list_any (λ y. y == n) ns) parts.0) in
        omega (arith, none)
    by false e ih = ih

module _ (q : QueryState) (d : ℕ) where
  faces_count : (f : ℕ) (ts : List FaceId) → count (λ p. at_face f (entry_at d p)) (map (given_place q) ts) ≡ count (is_same f) (face_numbers ts)
  faces_count f [] = refl
  faces_count f (t ∷ ts) = by (t.0 == f) (faces_count f ts)
    where
      by : (b : Bool) → count (λ p. at_face f (entry_at d p)) (map (given_place q) ts) ≡ count (is_same f) (face_numbers ts)
          → length (cond b (given_place q t ∷ filter (λ p. at_face f (entry_at d p)) (map (given_place q) ts)) (filter (λ p. at_face f (entry_at d p)) (map (given_place q) ts)))
          ≡ length (cond b (t.0 ∷ filter (is_same f) (face_numbers ts)) (filter (is_same f) (face_numbers ts)))
      by true ih = omega (arith, ih)
      by false ih = ih

  one_a_face : (ts : List FaceId) → are_distinct (face_numbers ts) ≡ true → (f : ℕ) → count (at_face f) (entries_at d (map (given_place q) ts)) ≤ 1
  one_a_face ts distinct f =
      let all = entries_count (at_face f) d (map (given_place q) ts) [] in
      let same = faces_count f ts in
      let one = distinct_count f (face_numbers ts) distinct in
      omega (arith, all, same, one)

-- ---- at ids that were free
apart_entries : (f i : ℕ) (rs : List Record) → is_pending f i rs ≡ true → (es : List Pending) → AllByRecursion (λ (e : Pending). is_pending e.face e.id rs ≡ false) es → list_any (is_entry f i) es ≡ false
apart_entries f i rs there [] all = refl
apart_entries f i rs there (e ∷ es) all = λ j. by (is_entry f i e) refl j || apart_entries f i rs there es all.1 j
  where
    by : (b : Bool) → is_entry f i e ≡ b → b ≡ false
    by true h =
        let parts = and_parts (e.face == f) (e.id == i) h in
        let same : is_pending e.face e.id rs ≡ is_pending f i rs = λ j. is_pending (eqb-true e.face f parts.0 j) (eqb-true e.id i parts.1 j) rs in
        absurd (false≢true (sym all.0 ∙ same ∙ there))
    by false h = refl

module _ (f i : ℕ) (rs : List Record) (es : List Pending) (free : AllByRecursion (λ (e : Pending). is_pending e.face e.id rs ≡ false) es) where
  one_place : count (is_entry f i) (all_pending rs) ≤ 1 → count (is_entry f i) es ≤ 1 → count (is_entry f i) (all_pending rs) + count (is_entry f i) es ≤ 1
  one_place old new = by (is_pending f i rs) refl
    where
      by : (b : Bool) → is_pending f i rs ≡ b → count (is_entry f i) (all_pending rs) + count (is_entry f i) es ≤ 1
      by true h = let none = count_none (is_entry f i) es (apart_entries f i rs h es free) in omega (arith, none, old)
      by false h = let none = count_none (is_entry f i) (all_pending rs) (sym (any_flat (is_entry f i) pending_of rs) ∙ h) in omega (arith, none, new)

-- ---- the record of a request comes last
module _ (q : QueryState) (asker : FaceId) (id qos : ℕ) (targets : List FaceId) (d : ℕ) where
  abbrev places : List (ℕ × ℕ)
  places = map (given_place q) targets

  abbrev new : Record
  new = asked_record q.requests asker id qos places d

  pub pending_more : all_pending (q.records ++ new ∷ []) ≡ all_pending q.records ++ new.pending
  pending_more = flat_map-append pending_of q.records (new ∷ []) ∙ ap (λ l. all_pending q.records ++ l) (append-nil new.pending)

  module _ (i : InNumbers q) (fits : list_any (is_full q) targets ≡ false) (distinct : are_distinct (face_numbers targets) ≡ true) where
    free : AllByRecursion (λ (e : Pending). is_pending e.face e.id q.records ≡ false) new.pending
    free = each_entry (λ e. is_pending e.face e.id q.records ≡ false) d places (all_failing (λ p. is_pending p.0 p.1 q.records) places (given_are_new q targets fits))

    one_new : (face : ℕ) → count (at_face face) new.pending ≤ 1
    one_new face = one_a_face q d targets distinct face

    one_place_each : (face n : ℕ) → count (is_entry face n) (all_pending (q.records ++ new ∷ [])) ≤ 1
    one_place_each face n =
        let fewer = count_stricter (at_face face) (λ (e : Pending). e.id == n) new.pending in
        let one = one_new face in
        let both = one_place face n q.records new.pending free (i.places face n) (omega (arith, fewer, one)) in
        let whole : count (is_entry face n) (all_pending (q.records ++ new ∷ [])) ≡ count (is_entry face n) (all_pending q.records) + count (is_entry face n) new.pending =
        ap (count (is_entry face n)) pending_more ∙ count_append (is_entry face n) (all_pending q.records) new.pending in
        omega (arith, both, whole)

    same_flights : all_in_flight (q.records ++ new ∷ []) ≡ all_in_flight q.records
    same_flights = flat_map-append in_flight_of q.records (new ∷ []) ∙ append-nil (all_in_flight q.records)

    numbered_more : IsNumbered (q.records ++ new ∷ []) (q.requests + 1) q.replies
    numbered_more = record {
      numbers = subst (IsStrictlySortedBy nat_cmp) (sym (map-append number_of q.records (new ∷ []))) (sorted_more q.requests (map number_of q.records) i.numbers i.below);
      below = subst (AllByRecursion (λ n. n < q.requests + 1)) (sym (map-append number_of q.records (new ∷ [])))
          (all_append (λ n. n < q.requests + 1) (map number_of q.records) (q.requests ∷ []) (all_more q.requests (map number_of q.records) i.below) (omega arith, tt));
      places = λ face n. one_place_each face n;
      once = all_append IsOnce q.records (new ∷ []) i.once (one_new, tt);
      flights = λ k. subst (λ l. count (is_reply k) l ≤ 1) (sym same_flights) (i.flights k);
      flown = subst (AllByRecursion (λ n. n < q.replies)) (sym same_flights) i.flown;
    }

    numbered_same : IsNumbered (q.records ++ []) (q.requests + 1) q.replies
    numbered_same = subst (λ l. IsNumbered l (q.requests + 1) q.replies) (sym (append-nil q.records))
        (record {
          numbers = i.numbers;
          below = all_more q.requests (map number_of q.records) i.below;
          places = i.places;
          once = i.once;
          flights = i.flights;
          flown = i.flown;
        })

    pub numbered_asked : IsNumbered (q.records ++ asked_records q.requests asker id qos places d) (q.requests + 1) q.replies
    numbered_asked = by (is_none_left places)
      where
        by : (b : Bool) → IsNumbered (q.records ++ cond b [] (new ∷ [])) (q.requests + 1) q.replies
        by true = numbered_same
        by false = numbered_more
