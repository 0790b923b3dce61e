-- What the maps say keeps the records in order.
use Rattle.std.proofs.Common.{◌≡◌, ℕ, ◌<◌, ◌≤◌, Bool, true, false, cond, List, [], ◌∷◌, length, Option, Some, None, refl, sym, ap, subst, ◌∙◌, arith, eqb-true}
use Rattle.std.specs.Prelude.{map, not, find, ◌==◌}
use Rattle.std.specs.Ordering.{nat_cmp, ordering_then}
use Rattle.std.specs.Cmp.{nat_cmp_total}
use Rattle.std.specs.declared.cmp.Ordering.{Ordering}
use Rattle.std.specs.declared.cmp.Ordering.TheVariants.{Less, Equal, Greater}
use Rattle.std.specs.List.{filter, list_any, cons_option, AllByRecursion}
use Rattle.std.specs.List.Sorted.{IsStrictlySortedBy}
use Rattle.std.specs.Map.{keys_of}
use Rattle.std.specs.BTreeMap.{is_at}
use Rattle.std.proofs.lemmas.Map.Keys.{sorted_head, sorted_tail}
use Rattle.std.proofs.lemmas.Map.Lookups.{exact_unsigned}
use Rattle.zq_key.proofs.Lookups.{each_entry, same_key, less_apart}
use Rattle.zq_query.specs.declared.queries.Open.{Open}
use Rattle.zq_query.specs.declared.queries.Owed.{Owed}
use Rattle.zq_query.specs.Records.{Record, Pending, has_entry, has_reply, is_reply}
use Rattle.zq_query.specs.Orderly.{AreRising, HasFacesRising, HasRepliesBelow, IsAtMostOne, IsOrderly}
use Rattle.zq_query.specs.Tables.{Dues, Place, place_cmp, is_of, flies_for, entry_of, record_of, records_of, at_number, at_place, IsTied, IsBelow}
use Rattle.zq_query.proofs.Keys.{place_total, place_exact}
use Rattle.zq_query.proofs.Entries.{map_both, has_none, has_no_reply, same_reply}
use Rattle.zq_query.proofs.Fusion.{none_over}
use Rattle.zq_query.proofs.Heads.{tidy_only}
use Rattle.zq_query.proofs.NextReply.{all_keys}
use Rattle.zq_query.proofs.Putting.{has_not, only_here}

-- ---- lists
-- a fact of each record is one of each open request
each_record : (P : Record → Type 0) (pending : List (Place × Owed)) (replies : List (ℕ × ℕ)) (heads : List (ℕ × Open)) → AllByRecursion (λ h. P (record_of pending replies h)) heads → AllByRecursion P (records_of heads pending replies)
each_record P pending replies [] all = tt
each_record P pending replies (h ∷ heads) all = (all.0, each_record P pending replies heads all.1)

every : {X : Type 0} (P : X → Type 0) → ((x : X) → P x) → (xs : List X) → AllByRecursion P xs
every P f [] = tt
every P f (x ∷ xs) = (f x, every P f xs)

at_most_one : {X : Type 0} (o : Option X) → length (cons_option o []) ≤ 1
at_most_one None = omega arith
at_most_one (Some x) = omega arith

rising_more : (n : ℕ) (ns : List ℕ) → AllByRecursion (λ m. nat_cmp n m ≡ Less) ns → IsStrictlySortedBy nat_cmp ns → IsStrictlySortedBy nat_cmp (n ∷ ns)
unfolding IsStrictlySortedBy
rising_more n ns above rest = (above, rest)

rising_none : IsStrictlySortedBy nat_cmp []
unfolding IsStrictlySortedBy
rising_none = tt

all_kept_by : (P : ℕ → Type 0) (e : ℕ × ℕ) (es : List (ℕ × ℕ)) (b : Bool) → P e.0 → AllByRecursion P (keys_of es) → AllByRecursion P (keys_of (cond b (e ∷ es) es))
all_kept_by P e es true first rest = (first, rest)
all_kept_by P e es false first rest = rest

-- of each key, and so of each key that is kept
all_kept : (P : ℕ → Type 0) (p : ℕ × ℕ → Bool) (es : List (ℕ × ℕ)) → AllByRecursion P (keys_of es) → AllByRecursion P (keys_of (filter p es))
all_kept P p [] all = tt
all_kept P p (e ∷ es) all = all_kept_by P e (filter p es) (p e) all.0 (all_kept P p es all.1)

rising_kept_by : (e : ℕ × ℕ) (es : List (ℕ × ℕ)) (b : Bool) → AllByRecursion (λ m. nat_cmp e.0 m ≡ Less) (keys_of es) → AreRising (keys_of es) → AreRising (keys_of (cond b (e ∷ es) es))
rising_kept_by e es true above rest = rising_more e.0 (keys_of es) above rest
rising_kept_by e es false above rest = rest

rising_kept : (p : ℕ × ℕ → Bool) (es : List (ℕ × ℕ)) → AreRising (keys_of es) → AreRising (keys_of (filter p es))
rising_kept p [] s = rising_none
rising_kept p (e ∷ es) s = rising_kept_by e (filter p es) (p e) (all_kept (λ m. nat_cmp e.0 m ≡ Less) p es (sorted_head nat_cmp e.0 (keys_of es) s)) (rising_kept p es (sorted_tail nat_cmp e.0 (keys_of es) s))

-- ---- the faces of a record's entries
place_less : (a b : Place) (r : Ordering) → nat_cmp a.0 b.0 ≡ r → place_cmp a b ≡ Less → (a.0 ≡ b.0 → a.1 ≡ b.1) → nat_cmp a.0 b.0 ≡ Less
place_less a b Less e less one = e
place_less a b Equal e less one = absurd (less_apart nat_cmp_total exact_unsigned a.1 b.1 (ap (λ r. ordering_then r (nat_cmp a.1 b.1)) (sym e) ∙ less) (one (exact_unsigned a.0 b.0 e)))
place_less a b Greater e less one = absurd (let gap : Greater ≡ Less = ap (λ r. ordering_then r (nat_cmp a.1 b.1)) (sym e) ∙ less in cc)

abbrev faces_in : List (Place × Owed) → List ℕ
faces_in es = map (λ (p : Pending). p.face) (map entry_of es)

module _ (heads : List (ℕ × Open)) (pending : List (Place × Owed)) (dues : Dues) (replies : List (ℕ × ℕ)) (tied : IsTied heads pending dues replies) where
  abbrev IsOwn : Place × Owed → Type 0
  IsOwn e = at_place e.0 pending ≡ Some e.1

  above_by : (n : ℕ) (e x : Place × Owed) (rest : List (Place × Owed)) (b : Bool) → (x.1.number == n) ≡ b → e.1.number ≡ n → IsOwn e → IsOwn x → place_cmp e.0 x.0 ≡ Less
      → AllByRecursion (λ m. nat_cmp e.0.0 m ≡ Less) (faces_in rest) → AllByRecursion (λ m. nat_cmp e.0.0 m ≡ Less) (faces_in (cond b (x ∷ rest) rest))
  above_by n e x rest true t m own other less ih = (place_less e.0 x.0 _ refl less (λ faces. tied.single e.0 x.0 e.1 x.1 own other (m ∙ sym (eqb-true _ _ t)) faces), ih)
  above_by n e x rest false t m own other less ih = ih

  above : (n : ℕ) (e : Place × Owed) (es : List (Place × Owed)) → e.1.number ≡ n → IsOwn e → AllByRecursion IsOwn es → AllByRecursion (λ k. place_cmp e.0 k ≡ Less) (keys_of es) → AllByRecursion (λ m. nat_cmp e.0.0 m ≡ Less) (faces_in (filter (is_of n) es))
  above n e [] m own others less = tt
  above n e (x ∷ es) m own others less = above_by n e x (filter (is_of n) es) _ refl m own others.0 less.0 (above n e es m own others.1 less.1)

  rising_by : (n : ℕ) (e : Place × Owed) (es : List (Place × Owed)) (b : Bool) → (e.1.number == n) ≡ b → IsOwn e → AllByRecursion IsOwn es → AllByRecursion (λ k. place_cmp e.0 k ≡ Less) (keys_of es)
      → AreRising (faces_in (filter (is_of n) es)) → AreRising (faces_in (cond b (e ∷ filter (is_of n) es) (filter (is_of n) es)))
  rising_by n e es true t own others less ih = rising_more e.0.0 (faces_in (filter (is_of n) es)) (above n e es (eqb-true _ _ t) own others less) ih
  rising_by n e es false t own others less ih = ih

  faces_rise : (n : ℕ) (es : List (Place × Owed)) → AllByRecursion IsOwn es → IsStrictlySortedBy place_cmp (keys_of es) → AreRising (faces_in (filter (is_of n) es))
  faces_rise n [] own s = rising_none
  faces_rise n (e ∷ es) own s = rising_by n e es _ refl own.0 own.1 (sorted_head place_cmp e.0 (keys_of es) s) (faces_rise n es own.1 (sorted_tail place_cmp e.0 (keys_of es) s))

  -- ---- one record has the entry, or none
  one_by : (has : Record → Bool) (n : ℕ) → ((h : ℕ × Open) → (n ≡ h.0 → ⊥) → has (record_of pending replies h) ≡ false) → IsAtMostOne has (records_of heads pending replies)
  one_by has n none = subst (λ l. length l ≤ 1)
      (sym (tidy_only nat_cmp_total exact_unsigned (record_of pending replies) has n heads tied.numbers (every (λ h. (n ≡ h.0 → ⊥) → not (has (record_of pending replies h)) ≡ true) (λ h ne. ap not (none h ne)) heads)))
      (at_most_one (find has (records_of heads pending replies)))

  entry_by : (f i : ℕ) (q : Option Owed) → at_place (f, i) pending ≡ q → IsAtMostOne (has_entry f i) (records_of heads pending replies)
  entry_by f i None is = one_by (has_entry f i) 0 (λ h ne. has_none f i h.0 pending is)
  entry_by f i (Some v) is = one_by (has_entry f i) v.number (λ h ne. has_not f i h.0 v pending ne (only_here pending f i v tied.places is))

  -- ---- one record has the reply in flight, or none
  flies_not_by : (r m n : ℕ) (e : ℕ × ℕ) (es : List (ℕ × ℕ)) (b c : Bool) → (e.1 == m) ≡ b → is_at (nat_cmp r) e.0 ≡ c → (n ≡ m → ⊥) → (is_at (nat_cmp r) e.0 ≡ true → e.1 ≡ n)
      → list_any (is_reply r) (keys_of (filter (flies_for m) es)) ≡ false → list_any (is_reply r) (keys_of (cond b (e ∷ filter (flies_for m) es) (filter (flies_for m) es))) ≡ false
  flies_not_by r m n e es true true t h ne same ih = absurd (ne (sym (same h) ∙ eqb-true _ _ t))
  flies_not_by r m n e es true false t h ne same ih = rw (same_reply r e ∙ h) ih
  flies_not_by r m n e es false c t h ne same ih = ih

  flies_not : (r m n : ℕ) (es : List (ℕ × ℕ)) → (n ≡ m → ⊥) → AllByRecursion (λ e. is_at (nat_cmp r) e.0 ≡ true → e.1 ≡ n) es → list_any (is_reply r) (keys_of (filter (flies_for m) es)) ≡ false
  flies_not r m n [] ne all = refl
  flies_not r m n (e ∷ es) ne all = flies_not_by r m n e es _ _ refl refl ne all.0 (flies_not r m n es ne all.1)

  only_flight : (r n : ℕ) → at_number r replies ≡ Some n → AllByRecursion (λ e. is_at (nat_cmp r) e.0 ≡ true → e.1 ≡ n) replies
  only_flight r n is = each_entry nat_cmp_total exact_unsigned (λ e. is_at (nat_cmp r) e.0 ≡ true → e.1 ≡ n) replies tied.flights
      (λ k w h t. let same = same_key nat_cmp_total exact_unsigned r k t in let e : Some w ≡ Some n = sym h ∙ ap (λ z. at_number z replies) (sym same) ∙ is in cc)

  reply_by : (r : ℕ) (q : Option ℕ) → at_number r replies ≡ q → IsAtMostOne (has_reply r) (records_of heads pending replies)
  reply_by r None is = one_by (has_reply r) 0 (λ h ne. has_no_reply r h.0 replies is)
  reply_by r (Some n) is = one_by (has_reply r) n (λ h ne. flies_not r h.0 n replies ne (only_flight r n is))

  -- ---- all of it
  pub orderly : (requests next : ℕ) → IsBelow heads replies requests next → (last_ids : List (ℕ × ℕ)) (closed : List ℕ) (request_ids : ℕ)
      → IsOrderly (record { records = records_of heads pending replies; last_ids = last_ids; closed = closed; requests = requests; replies = next; request_ids = request_ids })
  orderly requests next below last_ids closed request_ids = record {
    numbers = subst AreRising (sym (map_both (λ (r : Record). r.number) (record_of pending replies) heads)) tied.numbers;
    below = each_record (λ r. r.number < requests) pending replies heads (each_entry nat_cmp_total exact_unsigned (λ h. h.0 < requests) heads tied.numbers below.numbers);
    faces = each_record HasFacesRising pending replies heads (every (λ h. HasFacesRising (record_of pending replies h)) (λ h. faces_rise h.0 pending (each_entry place_total place_exact IsOwn pending tied.places (λ k v is. is)) tied.places) heads);
    one_entry = λ f i. entry_by f i _ refl;
    replies = each_record (HasRepliesBelow next) pending replies heads (every (λ h. HasRepliesBelow next (record_of pending replies h)) (λ h. (
      rising_kept (flies_for h.0) replies tied.flights,
      all_kept (λ r. r < next) (flies_for h.0) replies (all_keys (λ r. r < next) replies (each_entry nat_cmp_total exact_unsigned (λ e. e.0 < next) replies tied.flights below.flights)),
    )) heads);
    one_reply = λ r. reply_by r _ refl;
    left = none_over heads pending dues replies tied;
  }
