-- Numbers of requests rise, no id is pending twice, and no reply is in flight twice, after what calls make of the records.
use Rattle.std.proofs.Common.{◌≡◌, refl, sym, ap, subst, ℕ, ◌+◌, ◌<◌, ◌≤◌, Bool, true, false, cond, not, List, [], ◌∷◌, ◌++◌, map, length, arith, eqb-true}
use Rattle.std.specs.Prelude.{◌==◌}
use Rattle.std.specs.List.{AllByRecursion, filter, flat_map}
use Rattle.std.specs.List.Sorted.{IsStrictlySortedBy}
use Rattle.std.specs.BTreeSet.{insert_key}
use Rattle.std.specs.Option.{is_some}
use Rattle.std.specs.Ordering.{match_ordering, nat_cmp}
use Rattle.std.specs.declared.cmp.Ordering.{Ordering}
use Rattle.std.specs.declared.cmp.Ordering.TheVariants.{Less, Equal, Greater}
use Rattle.zq_query.specs.Closing.{at_face}
use Rattle.zq_query.specs.Polling.{after_timeout, timing_out}
use Rattle.zq_query.specs.declared.records.Timeout.{Timeout}
use Rattle.zq_query.specs.Records.{Pending, QueryState, Record, after_put, is_entry, is_left, is_reply, landing, letting_go, putting, with_reply, without, without_reply}
use Rattle.zq_machine.specs.Agreeing.{IsNumbered, all_in_flight, all_pending, in_flight_of, number_of, pending_of}
use Rattle.zq_machine.proofs.Lists.{all_append, all_filter, all_left, all_parts, count, count_append, count_filter, count_more, one_of_sorted, sorted_left}

-- ---- some records stay, each with its number and with no more entries and replies
module _ (test : Record → Bool) (change : Record → Record) where
  module _ {Y : Type 0} (f : Record → List Y) where
    module _ (p : Y → Bool) (less : (r : Record) → count p (f (change r)) ≤ count p (f r)) where
      pub count_left : (rs : List Record) → count p (flat_map f (filter test (map change rs))) ≤ count p (flat_map f rs)
      count_left [] = omega arith
      count_left (r ∷ rs) = by (test (change r)) (count_left rs)
        where
          by : (b : Bool) → count p (flat_map f (filter test (map change rs))) ≤ count p (flat_map f rs)
              → count p (flat_map f (cond b (change r ∷ filter test (map change rs)) (filter test (map change rs)))) ≤ count p (f r ++ flat_map f rs)
          by true ih =
              let here = less r in
              let after = count_append p (f (change r)) (flat_map f (filter test (map change rs))) in
              let before = count_append p (f r) (flat_map f rs) in
              omega (arith, ih, here, after, before)
          by false ih =
              let before = count_append p (f r) (flat_map f rs) in
              omega (arith, ih, before)

    module _ (P Q : Y → Type 0) (still : (r : Record) → AllByRecursion P (f r) → AllByRecursion Q (f (change r))) where
      pub all_still : (rs : List Record) → AllByRecursion P (flat_map f rs) → AllByRecursion Q (flat_map f (filter test (map change rs)))
      all_still [] all = tt
      all_still (r ∷ rs) all = by (test (change r)) (all_still rs parts.1)
        where
          parts : AllByRecursion P (f r) × AllByRecursion P (flat_map f rs)
          parts = all_parts P (f r) (flat_map f rs) all

          by : (b : Bool) → AllByRecursion Q (flat_map f (filter test (map change rs))) → AllByRecursion Q (flat_map f (cond b (change r ∷ filter test (map change rs)) (filter test (map change rs))))
          by true rest = all_append Q (f (change r)) (flat_map f (filter test (map change rs))) (still r parts.0) rest
          by false rest = rest

  module _ (P : Record → Type 0) (still : (r : Record) → P r → P (change r)) where
    each_still : (rs : List Record) → AllByRecursion P rs → AllByRecursion P (filter test (map change rs))
    each_still [] all = tt
    each_still (r ∷ rs) all = by (test (change r)) (each_still rs all.1)
      where
        by : (b : Bool) → AllByRecursion P (filter test (map change rs)) → AllByRecursion P (cond b (change r ∷ filter test (map change rs)) (filter test (map change rs)))
        by true rest = (still r all.0, rest)
        by false rest = rest

-- a record has one entry at a face at most
abbrev pub IsOnce : Record → Type 0
IsOnce r = (face : ℕ) → count (at_face face) r.pending ≤ 1

module _ (rs : List Record) (requests replies : ℕ) (n : IsNumbered rs requests replies) where
  -- entries are let go
  pub numbered_let_go : (p : Pending → Bool) → IsNumbered (letting_go p rs) requests replies
  numbered_let_go p = record {
    numbers = sorted_left number_of is_left (without p) (λ r. refl) rs n.numbers;
    below = all_left number_of is_left (without p) (λ r. refl) (λ k. k < requests) rs n.below;
    places = λ face id.
        let fewer = count_left is_left (without p) pending_of (is_entry face id) (λ r. count_filter (is_entry face id) (λ e. not (p e)) r.pending) rs in
        let most = n.places face id in
        omega (arith, fewer, most);
    once = each_still is_left (without p) IsOnce
        (λ r one face.
        let fewer = count_filter (at_face face) (λ e. not (p e)) r.pending in
        let most = one face in
        omega (arith, fewer, most))
        rs n.once;
    flights = λ reply.
        let fewer = count_left is_left (without p) in_flight_of (is_reply reply) (λ r. omega arith) rs in
        let most = n.flights reply in
        omega (arith, fewer, most);
    flown = all_still is_left (without p) in_flight_of (λ k. k < replies) (λ k. k < replies) (λ r all. all) rs n.flown;
  }

  -- a reply has landed
  pub numbered_landed : (k : ℕ) → IsNumbered (landing k rs) requests replies
  numbered_landed k = record {
    numbers = sorted_left number_of is_left (without_reply k) (λ r. refl) rs n.numbers;
    below = all_left number_of is_left (without_reply k) (λ r. refl) (λ m. m < requests) rs n.below;
    places = λ face id.
        let fewer = count_left is_left (without_reply k) pending_of (is_entry face id) (λ r. omega arith) rs in
        let most = n.places face id in
        omega (arith, fewer, most);
    once = each_still is_left (without_reply k) IsOnce (λ r one. one) rs n.once;
    flights = λ reply.
        let fewer = count_left is_left (without_reply k) in_flight_of (is_reply reply) (λ r. count_filter (is_reply reply) (λ m. not (is_reply k m)) r.in_flight) rs in
        let most = n.flights reply in
        omega (arith, fewer, most);
    flown = all_still is_left (without_reply k) in_flight_of (λ m. m < replies) (λ m. m < replies) (λ r all. all_filter (λ m. m < replies) (λ m. not (is_reply k m)) r.in_flight all) rs n.flown;
  }

-- ---- a reply is put in flight
insert_count : (x k : ℕ) (l : List ℕ) → count (is_reply x) (insert_key nat_cmp l k) ≤ count (is_reply x) l + cond (k == x) 1 0
insert_count x k [] = let more = count_more (is_reply x) k [] in omega (arith, more)
insert_count x k (y ∷ l) = by (nat_cmp k y) (insert_count x k l)
  where
    by : (o : Ordering) → count (is_reply x) (insert_key nat_cmp l k) ≤ count (is_reply x) l + cond (k == x) 1 0
        → count (is_reply x) (match_ordering o (k ∷ y ∷ l) (y ∷ l) (y ∷ insert_key nat_cmp l k)) ≤ count (is_reply x) (y ∷ l) + cond (k == x) 1 0
    by Less ih = let more = count_more (is_reply x) k (y ∷ l) in omega (arith, more)
    by Equal ih = omega arith
    by Greater ih =
        let before = count_more (is_reply x) y l in
        let after = count_more (is_reply x) y (insert_key nat_cmp l k) in
        omega (arith, ih, before, after)

all_inserted : (P : ℕ → Type 0) (k : ℕ) (l : List ℕ) → P k → AllByRecursion P l → AllByRecursion P (insert_key nat_cmp l k)
all_inserted P k [] it all = (it, tt)
all_inserted P k (y ∷ l) it all = by (nat_cmp k y) (all_inserted P k l it all.1)
  where
    by : (o : Ordering) → AllByRecursion P (insert_key nat_cmp l k) → AllByRecursion P (match_ordering o (k ∷ y ∷ l) (y ∷ l) (y ∷ insert_key nat_cmp l k))
    by Less ih = (it, all)
    by Equal ih = all
    by Greater ih = (all.0, ih)

module _ (k n : ℕ) where
  put_numbers : (rs : List Record) → map number_of (putting k n rs) ≡ map number_of rs
  put_numbers [] = refl
  put_numbers (r ∷ rs) = by (r.number == n) (put_numbers rs)
    where
      by : (b : Bool) → map number_of (putting k n rs) ≡ map number_of rs
          → number_of (cond b (record r { in_flight = insert_key nat_cmp r.in_flight k }) r) ∷ map number_of (putting k n rs) ≡ r.number ∷ map number_of rs
      by true ih = ap (λ l. r.number ∷ l) ih
      by false ih = ap (λ l. r.number ∷ l) ih

  pub put_pending : (rs : List Record) → all_pending (putting k n rs) ≡ all_pending rs
  put_pending [] = refl
  put_pending (r ∷ rs) = by (r.number == n) (put_pending rs)
    where
      by : (b : Bool) → all_pending (putting k n rs) ≡ all_pending rs
          → pending_of (cond b (record r { in_flight = insert_key nat_cmp r.in_flight k }) r) ++ all_pending (putting k n rs) ≡ r.pending ++ all_pending rs
      by true ih = ap (λ l. r.pending ++ l) ih
      by false ih = ap (λ l. r.pending ++ l) ih

  put_once : (rs : List Record) → AllByRecursion IsOnce rs → AllByRecursion IsOnce (putting k n rs)
  put_once [] all = tt
  put_once (r ∷ rs) all = (by (r.number == n), put_once rs all.1)
    where
      by : (b : Bool) → IsOnce (cond b (record r { in_flight = insert_key nat_cmp r.in_flight k }) r)
      by true = all.0
      by false = all.0

  put_flown : (P : ℕ → Type 0) → P k → (rs : List Record) → AllByRecursion P (all_in_flight rs) → AllByRecursion P (all_in_flight (putting k n rs))
  put_flown P it [] all = tt
  put_flown P it (r ∷ rs) all = all_append P (in_flight_of (with_reply k n r)) (all_in_flight (putting k n rs)) (by (r.number == n)) (put_flown P it rs parts.1)
    where
      parts : AllByRecursion P r.in_flight × AllByRecursion P (all_in_flight rs)
      parts = all_parts P r.in_flight (all_in_flight rs) all

      by : (b : Bool) → AllByRecursion P (in_flight_of (cond b (record r { in_flight = insert_key nat_cmp r.in_flight k }) r))
      by true = all_inserted P k r.in_flight it parts.0
      by false = parts.0

  -- it is in flight once more for each record of the number
  put_count : (x : ℕ) (rs : List Record) → count (is_reply x) (all_in_flight (putting k n rs)) ≤ count (is_reply x) (all_in_flight rs) + cond (k == x) (count (is_reply n) (map number_of rs)) 0
  put_count x [] = omega arith
  put_count x (r ∷ rs) = by (r.number == n) (k == x) refl (put_count x rs)
    where
      before : count (is_reply x) (r.in_flight ++ all_in_flight rs) ≡ count (is_reply x) r.in_flight + count (is_reply x) (all_in_flight rs)
      before = count_append (is_reply x) r.in_flight (all_in_flight rs)

      by : (b c : Bool) → (k == x) ≡ c → count (is_reply x) (all_in_flight (putting k n rs)) ≤ count (is_reply x) (all_in_flight rs) + cond c (count (is_reply n) (map number_of rs)) 0
          → count (is_reply x) (in_flight_of (cond b (record r { in_flight = insert_key nat_cmp r.in_flight k }) r) ++ all_in_flight (putting k n rs))
          ≤ count (is_reply x) (r.in_flight ++ all_in_flight rs) + cond c (length (cond b (r.number ∷ filter (is_reply n) (map number_of rs)) (filter (is_reply n) (map number_of rs)))) 0
      by true c e ih =
          let after = count_append (is_reply x) (insert_key nat_cmp r.in_flight k) (all_in_flight (putting k n rs)) in
          let one = insert_count x k r.in_flight in
          let told = ap (λ a. cond a 1 0) e in
          let was = before in
          more c ih after one told was
        where
          more : (c : Bool)
              → count (is_reply x) (all_in_flight (putting k n rs)) ≤ count (is_reply x) (all_in_flight rs) + cond c (count (is_reply n) (map number_of rs)) 0
              → count (is_reply x) (insert_key nat_cmp r.in_flight k ++ all_in_flight (putting k n rs)) ≡ count (is_reply x) (insert_key nat_cmp r.in_flight k) + count (is_reply x) (all_in_flight (putting k n rs))
              → count (is_reply x) (insert_key nat_cmp r.in_flight k) ≤ count (is_reply x) r.in_flight + cond (k == x) 1 0
              → ◌≡◌ {A = ℕ} (cond (k == x) 1 0) (cond c 1 0)
              → count (is_reply x) (r.in_flight ++ all_in_flight rs) ≡ count (is_reply x) r.in_flight + count (is_reply x) (all_in_flight rs)
              → count (is_reply x) (insert_key nat_cmp r.in_flight k ++ all_in_flight (putting k n rs))
              ≤ count (is_reply x) (r.in_flight ++ all_in_flight rs) + cond c (length (r.number ∷ filter (is_reply n) (map number_of rs))) 0
          more true ih after one told was = omega (arith, ih, after, one, told, was)
          more false ih after one told was = omega (arith, ih, after, one, told, was)
      by false c e ih =
          let after = count_append (is_reply x) r.in_flight (all_in_flight (putting k n rs)) in
          let was = before in
          omega (arith, ih, after, was)

pub all_more : (m : ℕ) (xs : List ℕ) → AllByRecursion (λ k. k < m) xs → AllByRecursion (λ k. k < m + 1) xs
all_more m [] all = tt
all_more m (x ∷ xs) all = let l = all.0 in (omega (arith, l), all_more m xs all.1)

none_yet : (m : ℕ) (xs : List ℕ) → AllByRecursion (λ k. k < m) xs → count (is_reply m) xs ≡ 0
none_yet m [] all = refl
none_yet m (x ∷ xs) all = by (x == m) refl (none_yet m xs all.1)
  where
    by : (b : Bool) → (x == m) ≡ b → count (is_reply m) xs ≡ 0 → length (cond b (x ∷ filter (is_reply m) xs) (filter (is_reply m) xs)) ≡ 0
    by true e ih = let l : x < m = all.0 in let same = eqb-true x m e in absurd (omega (arith, l, same))
    by false e ih = ih

module _ (rs : List Record) (requests replies : ℕ) (i : IsNumbered rs requests replies) where
  put_once_at_most : (n x : ℕ) → count (is_reply x) (all_in_flight (putting replies n rs)) ≤ 1
  put_once_at_most n x = by (replies == x) refl (put_count replies n x rs)
    where
      by : (b : Bool) → (replies == x) ≡ b → count (is_reply x) (all_in_flight (putting replies n rs)) ≤ count (is_reply x) (all_in_flight rs) + cond b (count (is_reply n) (map number_of rs)) 0 → count (is_reply x) (all_in_flight (putting replies n rs)) ≤ 1
      by true e most =
          let none : count (is_reply x) (all_in_flight rs) ≡ 0 = subst (λ m. count (is_reply m) (all_in_flight rs) ≡ 0) (eqb-true replies x e) (none_yet replies (all_in_flight rs) i.flown) in
          let one = one_of_sorted n (map number_of rs) i.numbers in
          omega (arith, most, none, one)
      by false e most = let one = i.flights x in omega (arith, most, one)

  pub numbered_put : (n : ℕ) → IsNumbered (putting replies n rs) requests (replies + 1)
  numbered_put n = record {
    numbers = subst (IsStrictlySortedBy nat_cmp) (sym (put_numbers replies n rs)) i.numbers;
    below = subst (AllByRecursion (λ k. k < requests)) (sym (put_numbers replies n rs)) i.below;
    places = λ face id. subst (λ es. count (is_entry face id) es ≤ 1) (sym (put_pending replies n rs)) (i.places face id);
    once = put_once replies n rs i.once;
    flights = λ x. put_once_at_most n x;
    flown = put_flown replies n (λ k. k < replies + 1) (omega arith) rs (all_more replies (all_in_flight rs) i.flown);
  }

-- ---- of whole query states
abbrev pub InNumbers : QueryState → Type 0
InNumbers q = IsNumbered q.records q.requests q.replies

pub numbered_if_put : (q : QueryState) (n : ℕ) (b : Bool) → InNumbers q → InNumbers (cond b (after_put n q) q)
numbered_if_put q n true i = numbered_put q.records q.requests q.replies i n
numbered_if_put q n false i = i

pub numbered_timing : (ts : List Timeout) (q : QueryState) → InNumbers q → InNumbers (timing_out ts q)
numbered_timing [] q i = i
numbered_timing (t ∷ ts) q i = numbered_timing ts (after_timeout q t) (numbered_if_put q t.number (is_some t.reply) i)
