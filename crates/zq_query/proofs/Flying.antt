-- Replies that are put in flight, and that land again, on the list of records.
use Rattle.std.proofs.Common.{◌≡◌, ℕ, ◌+◌, ◌<◌, ◌≤◌, zero, suc, Bool, true, false, cond, List, [], ◌∷◌, length, take, get_or, ap, ◌∙◌, refl, arith, sym, true≢false, eqb-true}
use Rattle.std.specs.Prelude.{map, not, nat_lt, ◌&&◌, ◌||◌, ◌==◌}
use Rattle.std.proofs.lemmas.Bool.{ltb-true, lt-ltb, or_parts}
use Rattle.std.specs.declared.cmp.Ordering.{Ordering}
use Rattle.std.specs.declared.cmp.Ordering.TheVariants.{Less, Equal, Greater}
use Rattle.std.specs.Ordering.{nat_cmp, match_ordering}
use Rattle.std.specs.Cmp.{nat_eq_equiv}
use Rattle.std.specs.List.{filter, list_any}
use Rattle.std.specs.BTreeSet.{insert_key}
use Rattle.std.specs.Option.{is_some}
use Rattle.std.proofs.lemmas.Map.Lookups.{exact_unsigned}
use Rattle.std.proofs.Math.Bool.{and-false}
use Rattle.zq_query.specs.declared.records.Timeout.{Timeout}
use Rattle.zq_query.specs.Records.{QueryState, Record, Pending, is_reply, has_reply, is_in_flight, has_number, without_reply, is_over, is_left, is_none_left, any_over, any_entry, landing, putting, after_put}
use Rattle.zq_query.specs.Polling.{has_number_for, numbers_in, after_timeout, timing_out, has_reply_from, landing_from}

-- all are left where none is over
pub all_stay : (rs : List Record) → any_over rs ≡ false → filter is_left rs ≡ rs
all_stay [] h = refl
all_stay (r ∷ rs) h = let m = or_parts (is_over r) (any_over rs) h in rw m.0 (ap (λ z. r ∷ z) (all_stay rs m.1))

module _ (r : ℕ) where
  stays : (l : List ℕ) → list_any (is_reply r) l ≡ false → filter (λ n. not (is_reply r n)) l ≡ l
  stays [] h = refl
  stays (n ∷ l) h = let m = or_parts (is_reply r n) (list_any (is_reply r) l) h in rw m.0 (ap (λ z. n ∷ z) (stays l m.1))

  without_none : (rs : List Record) → is_in_flight r rs ≡ false → map (without_reply r) rs ≡ rs
  without_none [] h = refl
  without_none (x ∷ rs) h = let m = or_parts (has_reply r x) (is_in_flight r rs) h in λ j. record x { in_flight = stays x.in_flight m.0 j } ∷ without_none rs m.1 j

  -- nothing lands where it does not fly
  pub landing_none : (rs : List Record) → is_in_flight r rs ≡ false → any_over rs ≡ false → landing r rs ≡ rs
  landing_none rs h left = ap (filter is_left) (without_none rs h) ∙ all_stay rs left

  out_by : (n : ℕ) (l : List ℕ) (o : Ordering) → nat_cmp r n ≡ o → is_reply r n ≡ false → list_any (is_reply r) l ≡ false → filter (λ x. not (is_reply r x)) (insert_key nat_cmp l r) ≡ l → filter (λ x. not (is_reply r x)) (match_ordering o (r ∷ n ∷ l) (n ∷ l) (n ∷ insert_key nat_cmp l r)) ≡ n ∷ l
  out_by n l Less e miss none ih = rw (nat_eq_equiv.refl r, miss) (ap (λ z. n ∷ z) (stays l none))
  out_by n l Equal e miss none ih = absurd (true≢false (sym (ap (λ z. z == r) (sym (exact_unsigned r n e)) ∙ nat_eq_equiv.refl r) ∙ miss))
  out_by n l Greater e miss none ih = rw miss (ap (λ z. n ∷ z) ih)

  out : (l : List ℕ) → list_any (is_reply r) l ≡ false → filter (λ x. not (is_reply r x)) (insert_key nat_cmp l r) ≡ l
  out [] h = rw (nat_eq_equiv.refl r) refl
  out (n ∷ l) h = let m = or_parts (is_reply r n) (list_any (is_reply r) l) h in out_by n l _ refl m.0 m.1 (out l m.1)

  record_by : (n : ℕ) (x : Record) (b : Bool) → has_reply r x ≡ false → without_reply r (cond b (record x { in_flight = insert_key nat_cmp x.in_flight r }) x) ≡ x
  record_by n x true h = ap (λ l. record x { in_flight = l }) (out x.in_flight h)
  record_by n x false h = ap (λ l. record x { in_flight = l }) (stays x.in_flight h)

  back : (n : ℕ) (rs : List Record) → is_in_flight r rs ≡ false → map (without_reply r) (putting r n rs) ≡ rs
  back n [] h = refl
  back n (x ∷ rs) h = let m = or_parts (has_reply r x) (is_in_flight r rs) h in λ j. record_by n x (x.number == n) m.0 j ∷ back n rs m.1 j

  -- a reply that is put in flight lands again: nothing has changed
  pub landed_back : (n : ℕ) (rs : List Record) → is_in_flight r rs ≡ false → any_over rs ≡ false → landing r (putting r n rs) ≡ rs
  landed_back n rs h left = ap (filter is_left) (back n rs h) ∙ all_stay rs left

  apart_by : (n : ℕ) (b : Bool) → (n == r) ≡ b → not (nat_lt n r) ≡ false → b ≡ false
  apart_by n true e h = absurd (below n (nat_lt n r) refl h (eqb-true _ _ e))
    where
      below : (n : ℕ) (b : Bool) → nat_lt n r ≡ b → not b ≡ false → n ≡ r → ⊥
      below n true e h same = let l : n < r = ltb-true _ _ e in omega (arith, l, same)
      below n false e h same = true≢false h
  apart_by n false e h = refl

  none_here : (l : List ℕ) → list_any (λ n. not (nat_lt n r)) l ≡ false → list_any (is_reply r) l ≡ false
  none_here [] h = refl
  none_here (n ∷ l) h = let m = or_parts (not (nat_lt n r)) (list_any (λ x. not (nat_lt x r)) l) h in rw (apart_by n _ refl m.0) (none_here l m.1)

  -- the next number flies nowhere
  pub next_flies_not : (rs : List Record) → has_reply_from r rs ≡ false → is_in_flight r rs ≡ false
  next_flies_not [] h = refl
  next_flies_not (x ∷ rs) h = let m = or_parts (list_any (λ n. not (nat_lt n r)) x.in_flight) (has_reply_from r rs) h in rw (none_here x.in_flight m.0) (next_flies_not rs m.1)

  later_by : (n : ℕ) (b : Bool) → nat_lt n r ≡ b → not b ≡ false → not (nat_lt n (r + 1)) ≡ false
  later_by n true e h = let l : n < r = ltb-true _ _ e in ap not (lt-ltb n (r + 1) (omega (arith, l)))
  later_by n false e h = absurd (true≢false h)

  later : (l : List ℕ) → list_any (λ n. not (nat_lt n r)) l ≡ false → list_any (λ n. not (nat_lt n (r + 1))) l ≡ false
  later [] h = refl
  later (n ∷ l) h = let m = or_parts (not (nat_lt n r)) (list_any (λ x. not (nat_lt x r)) l) h in rw (later_by n _ refl m.0) (later l m.1)

  in_by : (n : ℕ) (l : List ℕ) (o : Ordering) → not (nat_lt n (r + 1)) ≡ false → list_any (λ x. not (nat_lt x (r + 1))) l ≡ false → list_any (λ x. not (nat_lt x (r + 1))) (insert_key nat_cmp l r) ≡ false → list_any (λ x. not (nat_lt x (r + 1))) (match_ordering o (r ∷ n ∷ l) (n ∷ l) (n ∷ insert_key nat_cmp l r)) ≡ false
  in_by n l Less a b ih = rw (lt-ltb r (r + 1) (omega arith), a) b
  in_by n l Equal a b ih = rw a b
  in_by n l Greater a b ih = rw a ih

  in_later : (l : List ℕ) → list_any (λ x. not (nat_lt x (r + 1))) l ≡ false → list_any (λ x. not (nat_lt x (r + 1))) (insert_key nat_cmp l r) ≡ false
  in_later [] h = rw (lt-ltb r (r + 1) (omega arith)) refl
  in_later (n ∷ l) h = let m = or_parts (not (nat_lt n (r + 1))) (list_any (λ x. not (nat_lt x (r + 1))) l) h in in_by n l (nat_cmp r n) m.0 m.1 (in_later l m.1)

  put_later_by : (n : ℕ) (x : Record) (b : Bool) → list_any (λ k. not (nat_lt k r)) x.in_flight ≡ false → list_any (λ k. not (nat_lt k (r + 1))) (cond b (record x { in_flight = insert_key nat_cmp x.in_flight r }) x).in_flight ≡ false
  put_later_by n x true h = in_later x.in_flight (later x.in_flight h)
  put_later_by n x false h = later x.in_flight h

  -- and after it is put, the one after it flies nowhere
  pub put_later : (n : ℕ) (rs : List Record) → has_reply_from r rs ≡ false → has_reply_from (r + 1) (putting r n rs) ≡ false
  put_later n [] h = refl
  put_later n (x ∷ rs) h = let m = or_parts (list_any (λ k. not (nat_lt k r)) x.in_flight) (has_reply_from r rs) h in rw (put_later_by n x (x.number == n) m.0) (put_later n rs m.1)

  pub some_flies : (l : List ℕ) → is_none_left (insert_key nat_cmp l r) ≡ false
  some_flies [] = refl
  some_flies (n ∷ l) = step (nat_cmp r n)
    where
      step : (o : Ordering) → is_none_left (match_ordering o (r ∷ n ∷ l) (n ∷ l) (n ∷ insert_key nat_cmp l r)) ≡ false
      step Less = refl
      step Equal = refl
      step Greater = refl

  not_over_by : (n : ℕ) (x : Record) (b : Bool) → is_over x ≡ false → is_over (cond b (record x { in_flight = insert_key nat_cmp x.in_flight r }) x) ≡ false
  not_over_by n x true h = ap (λ b. is_none_left x.pending && b) (some_flies x.in_flight) ∙ and-false (is_none_left x.pending)
  not_over_by n x false h = h

  -- no request is over by it
  pub put_none_over : (n : ℕ) (rs : List Record) → any_over rs ≡ false → any_over (putting r n rs) ≡ false
  put_none_over n [] h = refl
  put_none_over n (x ∷ rs) h = let m = or_parts (is_over x) (any_over rs) h in rw (not_over_by n x (x.number == n) m.0) (put_none_over n rs m.1)

  number_by : (n m : ℕ) (x : Record) (b : Bool) → has_number m (cond b (record x { in_flight = insert_key nat_cmp x.in_flight r }) x) ≡ has_number m x
  number_by n m x true = refl
  number_by n m x false = refl

  pub put_numbers : (n m : ℕ) (rs : List Record) → list_any (has_number m) (putting r n rs) ≡ list_any (has_number m) rs
  put_numbers n m [] = refl
  put_numbers n m (x ∷ rs) = λ j. number_by n m x (x.number == n) j || put_numbers n m rs j

  entries_by : (n : ℕ) (q : Pending → Bool) (x : Record) (b : Bool) → list_any q (cond b (record x { in_flight = insert_key nat_cmp x.in_flight r }) x).pending ≡ list_any q x.pending
  entries_by n q x true = refl
  entries_by n q x false = refl

  pub put_entries : (n : ℕ) (q : Pending → Bool) (rs : List Record) → any_entry q (putting r n rs) ≡ any_entry q rs
  put_entries n q [] = refl
  put_entries n q (x ∷ rs) = λ j. entries_by n q x (x.number == n) j || put_entries n q rs j

-- ---- one error reply after another
number_stays_by : (m : ℕ) (s : QueryState) (t : Timeout) (b : Bool) → list_any (has_number m) (cond b (after_put t.number s) s).records ≡ list_any (has_number m) s.records
number_stays_by m s t true = put_numbers s.replies t.number m s.records
number_stays_by m s t false = refl

pub numbers_stay : (m : ℕ) (ts : List Timeout) (s : QueryState) → list_any (has_number m) (timing_out ts s).records ≡ list_any (has_number m) s.records
numbers_stay m [] s = refl
numbers_stay m (t ∷ ts) s = numbers_stay m ts (after_timeout s t) ∙ number_stays_by m s t (is_some t.reply)

entries_stay_by : (q : Pending → Bool) (s : QueryState) (t : Timeout) (b : Bool) → any_entry q (cond b (after_put t.number s) s).records ≡ any_entry q s.records
entries_stay_by q s t true = put_entries s.replies t.number q s.records
entries_stay_by q s t false = refl

pub entries_stay : (q : Pending → Bool) (ts : List Timeout) (s : QueryState) → any_entry q (timing_out ts s).records ≡ any_entry q s.records
entries_stay q [] s = refl
entries_stay q (t ∷ ts) s = entries_stay q ts (after_timeout s t) ∙ entries_stay_by q s t (is_some t.reply)

over_by : (s : QueryState) (t : Timeout) (b : Bool) → any_over s.records ≡ false → any_over (cond b (after_put t.number s) s).records ≡ false
over_by s t true h = put_none_over s.replies t.number s.records h
over_by s t false h = h

pub timing_none_over : (ts : List Timeout) (s : QueryState) → any_over s.records ≡ false → any_over (timing_out ts s).records ≡ false
timing_none_over [] s h = h
timing_none_over (t ∷ ts) s h = timing_none_over ts (after_timeout s t) (over_by s t (is_some t.reply) h)

flies_by : (s : QueryState) (t : Timeout) (b : Bool) → has_reply_from s.replies s.records ≡ false → has_reply_from (cond b (after_put t.number s) s).replies (cond b (after_put t.number s) s).records ≡ false
flies_by s t true h = put_later s.replies t.number s.records h
flies_by s t false h = h

given_by : (s : QueryState) (t : Timeout) (ts : List Timeout) (b : Bool) → (timing_out ts (cond b (after_put t.number s) s)).replies ≡ (cond b (after_put t.number s) s).replies + numbers_in ts → (timing_out ts (cond b (after_put t.number s) s)).replies ≡ s.replies + length (cond b (t ∷ filter has_number_for ts) (filter has_number_for ts))
given_by s t ts true h = omega (arith, h)
given_by s t ts false h = h

-- so many numbers are given
pub numbers_given : (ts : List Timeout) (s : QueryState) → (timing_out ts s).replies ≡ s.replies + numbers_in ts
numbers_given [] s = omega arith
numbers_given (t ∷ ts) s = given_by s t ts (is_some t.reply) (numbers_given ts (after_timeout s t))

from_more : (first n : ℕ) (rs : List Record) → landing_from first (suc n) rs ≡ landing first (landing_from (first + 1) n rs)
unfolding landing_from
from_more first n rs = refl

pub from_none : (first : ℕ) (rs : List Record) → landing_from first zero rs ≡ rs
unfolding landing_from
from_none first rs = refl

-- one step of landing, from the last to the first
pub from_step : (first next n m : ℕ) (rs : List Record) → next ≡ first + 1 → m ≡ n + 1 → landing_from first m rs ≡ landing first (landing_from next n rs)
from_step first next n m rs e f =
    let more : m ≡ suc n = omega (arith, f) in
    rw (more, e) (from_more first n rs)

landed_by : (s : QueryState) (t : Timeout) (ts : List Timeout) (b : Bool) → any_over s.records ≡ false → has_reply_from s.replies s.records ≡ false
    → landing_from (cond b (after_put t.number s) s).replies (numbers_in ts) (timing_out ts (cond b (after_put t.number s) s)).records ≡ (cond b (after_put t.number s) s).records
    → landing_from s.replies (length (cond b (t ∷ filter has_number_for ts) (filter has_number_for ts))) (timing_out ts (cond b (after_put t.number s) s)).records ≡ s.records
landed_by s t ts true left flies ih =
    from_more s.replies (numbers_in ts) (timing_out ts (after_put t.number s)).records
    ∙ ap (landing s.replies) ih
    ∙ landed_back s.replies t.number s.records (next_flies_not s.replies s.records flies) left
landed_by s t ts false left flies ih = ih

-- they all land again: nothing has changed
pub all_landed : (ts : List Timeout) (s : QueryState) → any_over s.records ≡ false → has_reply_from s.replies s.records ≡ false → landing_from s.replies (numbers_in ts) (timing_out ts s).records ≡ s.records
all_landed [] s left flies = from_none s.replies s.records
all_landed (t ∷ ts) s left flies = landed_by s t ts (is_some t.reply) left flies (all_landed ts (after_timeout s t) (over_by s t (is_some t.reply) left) (flies_by s t (is_some t.reply) flies))

one_before_by : (t : Timeout) (ts us : List Timeout) (b : Bool) → numbers_in us + 1 ≤ numbers_in ts → length (cond b (t ∷ filter has_number_for us) (filter has_number_for us)) + 1 ≤ length (cond b (t ∷ filter has_number_for ts) (filter has_number_for ts))
one_before_by t ts us true h = omega (arith, h)
one_before_by t ts us false h = h

-- a timeout with a number has one more than those before it
pub one_before : (ts : List Timeout) (i : ℕ) (d : Timeout) → i < length ts → is_some (get_or ts i d).reply ≡ true → numbers_in (take i ts) + 1 ≤ numbers_in ts
one_before [] i d l h = absurd (omega (arith, l))
one_before (t ∷ ts) zero d l h = rw h (omega arith)
one_before (t ∷ ts) (suc i) d l h = one_before_by t ts (take i ts) (is_some t.reply) (one_before ts i d (omega (arith, l)) h)
