-- Each call hands a final under a number exactly where it stops owing it; no call leaves a request with nothing.
use Rattle.std.proofs.Common.{◌≡◌, ℕ, ◌+◌, Bool, true, false, cond, List, [], ◌∷◌, ◌++◌, length, map, ap, ◌∙◌, refl, arith, eqb-true}
use Rattle.std.specs.Prelude.{not, nat_lt, ◌&&◌, ◌==◌}
use Rattle.std.specs.List.{filter}
use Rattle.std.specs.Option.{is_some}
use Rattle.std.specs.Ordering.{nat_cmp}
use Rattle.std.specs.BTreeSet.{insert_key}
use Rattle.std.proofs.lemmas.Bool.{lt-ltb, le-ltb, ltb-true, ltb-false, eqb-false, or_from}
use Rattle.std.proofs.lemmas.List.{length-append, append-nil}
use Rattle.std.proofs.lemmas.List.Elements.{filter-append}
use Rattle.std.proofs.lemmas.List.Folds.{list_any-append}
use Rattle.zq_message.specs.declared.message.FaceId.{FaceId}
use Rattle.zq_query.specs.declared.records.Final.{Final}
use Rattle.zq_query.specs.declared.records.Timeout.{Timeout}
use Rattle.zq_query.specs.declared.records.ReplyTo.{ReplyTo}
use Rattle.zq_query.specs.Records.{QueryState, Record, Pending, is_closed, is_over, is_left, is_none_left, any_over, final_of, without, without_reply, letting_go, landing, with_reply, putting, after_put, after_reply}
use Rattle.zq_query.specs.Asking.{given_place, asked_record, after_ask}
use Rattle.zq_query.specs.Closing.{at_face, has_open_asker, finals_after, finals_landed, closed_with, closing_finals, after_close}
use Rattle.zq_query.specs.Polling.{is_due, timeouts, after_timeout, timing_out, after_poll}
use Rattle.zq_query.specs.Balance.{owed_by, finals_owed, finals_under}
use Rattle.zq_query.proofs.AskedTargets.{some_entries}
use Rattle.zq_query.proofs.Flying.{put_none_over}

-- ---- what is let go
module _ (closed : List ℕ) (n : ℕ) (change : Record → Record) (number : (r : Record) → (change r).number ≡ r.number) (asker : (r : Record) → (change r).asker ≡ r.asker) where
  abbrev left : List Record → List Record
  left rs = filter is_left (map change rs)

  abbrev ended : List Record → List Final
  ended rs = filter (has_open_asker closed) (map final_of (filter is_over (map change rs)))

  balance_by : (r : Record) (rs : List Record) (a b c : Bool) → is_over (change r) ≡ a → ((change r).number == n) ≡ b → is_closed closed (change r).asker.0 ≡ c
      → finals_under n (ended rs) + owed_by closed n (left rs) ≡ owed_by closed n rs
      → finals_under n (filter (has_open_asker closed) (map final_of (cond a (change r ∷ filter is_over (map change rs)) (filter is_over (map change rs))))) + owed_by closed n (cond (not a) (change r ∷ left rs) (left rs))
      ≡ length (cond (b && not c) (r ∷ filter (λ (x : Record). (x.number == n) && not (is_closed closed x.asker.0)) rs) (filter (λ (x : Record). (x.number == n) && not (is_closed closed x.asker.0)) rs))
  balance_by r rs true true true e f g ih = rw g ih
  balance_by r rs true true false e f g ih = rw (g, f) (omega (arith, ih))
  balance_by r rs true false true e f g ih = rw g ih
  balance_by r rs true false false e f g ih = rw (g, f) ih
  balance_by r rs false true true e f g ih = rw (f, g) ih
  balance_by r rs false true false e f g ih = rw (f, g) (omega (arith, ih))
  balance_by r rs false false c e f g ih = rw f ih

  -- those that end are those that are no longer owed
  balanced : (rs : List Record) → finals_under n (ended rs) + owed_by closed n (left rs) ≡ owed_by closed n rs
  balanced [] = refl
  balanced (r ∷ rs) =
      balance_by r rs (is_over (change r)) ((change r).number == n) (is_closed closed (change r).asker.0) refl refl refl (balanced rs)
      ∙ (λ j. length (cond ((number r j == n) && not (is_closed closed (asker r j).0)) (r ∷ filter (λ (x : Record). (x.number == n) && not (is_closed closed x.asker.0)) rs) (filter (λ (x : Record). (x.number == n) && not (is_closed closed x.asker.0)) rs)))

-- a final, a denial, a closing or a deadline
pub letting_balance : (closed : List ℕ) (n : ℕ) (p : Pending → Bool) (rs : List Record) → finals_under n (finals_after p closed rs) + owed_by closed n (letting_go p rs) ≡ owed_by closed n rs
letting_balance closed n p rs = balanced closed n (without p) (λ r. refl) (λ r. refl) rs

-- a report
pub landing_balance : (closed : List ℕ) (n reply : ℕ) (rs : List Record) → finals_under n (finals_landed reply closed rs) + owed_by closed n (landing reply rs) ≡ owed_by closed n rs
landing_balance closed n reply rs = balanced closed n (without_reply reply) (λ r. refl) (λ r. refl) rs

-- a closing: the requests that the face asked are owed nothing from then on
pub closing_balance : (n face : ℕ) (s : QueryState) → finals_under n (closing_finals face s) + owed_by (closed_with face s.closed) n (after_close face s).records ≡ owed_by (closed_with face s.closed) n s.records
closing_balance n face s = letting_balance (closed_with face s.closed) n (at_face face) s.records

-- ---- a reply, and what a poll puts in flight
same_by : (closed : List ℕ) (n : ℕ) (x y : Record) (xs ys : List Record) → x.number ≡ y.number → x.asker ≡ y.asker → owed_by closed n xs ≡ owed_by closed n ys → owed_by closed n (x ∷ xs) ≡ owed_by closed n (y ∷ ys)
same_by closed n x y xs ys number asker rest =
    (λ j. length (cond ((number j == n) && not (is_closed closed (asker j).0)) (x ∷ filter (λ (z : Record). (z.number == n) && not (is_closed closed z.asker.0)) xs) (filter (λ (z : Record). (z.number == n) && not (is_closed closed z.asker.0)) xs)))
    ∙ more ((y.number == n) && not (is_closed closed y.asker.0))
  where
    more : (b : Bool) → length (cond b (x ∷ filter (λ (z : Record). (z.number == n) && not (is_closed closed z.asker.0)) xs) (filter (λ (z : Record). (z.number == n) && not (is_closed closed z.asker.0)) xs)) ≡ length (cond b (y ∷ filter (λ (z : Record). (z.number == n) && not (is_closed closed z.asker.0)) ys) (filter (λ (z : Record). (z.number == n) && not (is_closed closed z.asker.0)) ys))
    more true = omega (arith, rest)
    more false = rest

number_of : (x y : Record) (b : Bool) → x.number ≡ y.number → (cond b x y).number ≡ y.number
number_of x y true h = h
number_of x y false h = refl

asker_of : (x y : Record) (b : Bool) → x.asker ≡ y.asker → (cond b x y).asker ≡ y.asker
asker_of x y true h = h
asker_of x y false h = refl

pub putting_balance : (closed : List ℕ) (n reply number : ℕ) (rs : List Record) → owed_by closed n (putting reply number rs) ≡ owed_by closed n rs
putting_balance closed n reply number [] = refl
putting_balance closed n reply number (r ∷ rs) =
    same_by closed n (with_reply reply number r) r (putting reply number rs) rs (number_of (record r { in_flight = insert_key nat_cmp r.in_flight reply }) r (r.number == number) refl) (asker_of (record r { in_flight = insert_key nat_cmp r.in_flight reply }) r (r.number == number) refl) (putting_balance closed n reply number rs)

put_balance : (n : ℕ) (s : QueryState) (number : ℕ) (b : Bool) → finals_owed n (cond b (after_put number s) s) ≡ finals_owed n s
put_balance n s number true = ap (λ k. k + cond (nat_lt n s.requests) 0 1) (putting_balance s.closed n s.replies number s.records)
put_balance n s number false = refl

pub reply_balance : (n : ℕ) (t : ReplyTo) (s : QueryState) → finals_owed n (after_reply t s) ≡ finals_owed n s
reply_balance n t s = put_balance n s t.number (is_some t.reply)

pub timing_balance : (n : ℕ) (ts : List Timeout) (s : QueryState) → finals_owed n (timing_out ts s) ≡ finals_owed n s
timing_balance n [] s = refl
timing_balance n (t ∷ ts) s = timing_balance n ts (after_timeout s t) ∙ put_balance n s t.number (is_some t.reply)

-- a poll owes what it owed, but for the finals of those that it leaves with nothing
pub poll_balance : (now n : ℕ) (s : QueryState) → finals_under n (finals_after (is_due now) (timing_out (timeouts now s) s).closed (timing_out (timeouts now s) s).records) + finals_owed n (after_poll now s) ≡ finals_owed n s
poll_balance now n s =
    let z = timing_out (timeouts now s) s in
    let some = letting_balance z.closed n (is_due now) z.records in
    let same = timing_balance n (timeouts now s) s in
    omega (arith, some, same)

-- ---- a request
num_by : (n m : ℕ) → cond {A = ℕ} (nat_lt n (m + 1)) 0 1 + cond (m == n) 1 0 ≡ cond (nat_lt n m) 0 1
num_by n m = by_test (nat_lt n m) (m == n) refl refl
  where
    by_test : (b c : Bool) → nat_lt n m ≡ b → (m == n) ≡ c → cond {A = ℕ} (nat_lt n (m + 1)) 0 1 + cond c 1 0 ≡ cond b 0 1
    by_test true true e f = absurd (let l = ltb-true n m e in let same : m ≡ n = eqb-true _ _ f in omega (arith, l, same))
    by_test true false e f = let l = ltb-true n m e in rw (lt-ltb n (m + 1) (omega (arith, l))) refl
    by_test false true e f = let same : m ≡ n = eqb-true _ _ f in rw (lt-ltb n (m + 1) (omega (arith, same))) refl
    by_test false false e f = let l = ltb-false n m e in let ne : m ≡ n → ⊥ = eqb-false _ _ f in rw (le-ltb n (m + 1) (omega (arith, l, ne))) refl

one_owed : (closed : List ℕ) (n : ℕ) (r : Record) → is_closed closed r.asker.0 ≡ false → owed_by closed n (r ∷ []) ≡ cond (r.number == n) 1 0
one_owed closed n r h = by_test (r.number == n) refl
  where
    by_test : (b : Bool) → (r.number == n) ≡ b → length (cond (b && not (is_closed closed r.asker.0)) (r ∷ []) []) ≡ cond b 1 0
    by_test true e = rw h refl
    by_test false e = refl

-- a request of an open asker: its number is owed by its record; without targets it is answered at once
pub ask_balance : (n : ℕ) (asker : FaceId) (id qos : ℕ) (targets : List FaceId) (deadline : ℕ) (s : QueryState) → is_closed s.closed asker.0 ≡ false
    → cond (is_none_left targets && (s.requests == n)) 1 0 + finals_owed n (after_ask asker id qos targets deadline s) ≡ finals_owed n s
ask_balance n asker id qos [] deadline s h =
    let step = num_by n s.requests in
    let same : owed_by s.closed n (s.records ++ []) ≡ owed_by s.closed n s.records = ap (owed_by s.closed n) (append-nil s.records) in
    omega (arith, step, same)
ask_balance n asker id qos (t ∷ ts) deadline s h =
    let step = num_by n s.requests in
    let r = asked_record s.requests asker id qos (map (given_place s) (t ∷ ts)) deadline in
    let one = one_owed s.closed n r h in
    let same : owed_by s.closed n (s.records ++ r ∷ []) ≡ owed_by s.closed n s.records + owed_by s.closed n (r ∷ []) =
    ap length (filter-append (λ (x : Record). (x.number == n) && not (is_closed s.closed x.asker.0)) s.records (r ∷ [])) ∙ length-append (filter (λ (x : Record). (x.number == n) && not (is_closed s.closed x.asker.0)) s.records) _ in
    omega (arith, step, same, one)

-- ---- no request has nothing left
none_kept : (rs : List Record) → any_over (filter is_left rs) ≡ false
none_kept [] = refl
none_kept (r ∷ rs) = by_test (is_over r) refl (none_kept rs)
  where
    by_test : (b : Bool) → is_over r ≡ b → any_over (filter is_left rs) ≡ false → any_over (cond (not b) (r ∷ filter is_left rs) (filter is_left rs)) ≡ false
    by_test true e ih = ih
    by_test false e ih = rw e ih

pub letting_none_over : (p : Pending → Bool) (rs : List Record) → any_over (letting_go p rs) ≡ false
letting_none_over p rs = none_kept (map (without p) rs)

pub landing_none_over : (reply : ℕ) (rs : List Record) → any_over (landing reply rs) ≡ false
landing_none_over reply rs = none_kept (map (without_reply reply) rs)

replied_by : (s : QueryState) (number : ℕ) (b : Bool) → any_over s.records ≡ false → any_over (cond b (after_put number s) s).records ≡ false
replied_by s number true h = put_none_over s.replies number s.records h
replied_by s number false h = h

pub reply_none_over : (t : ReplyTo) (s : QueryState) → any_over s.records ≡ false → any_over (after_reply t s).records ≡ false
reply_none_over t s h = replied_by s t.number (is_some t.reply) h

pub close_none_over : (face : ℕ) (s : QueryState) → any_over (after_close face s).records ≡ false
close_none_over face s = letting_none_over (at_face face) s.records

pub poll_none_over : (now : ℕ) (s : QueryState) → any_over (after_poll now s).records ≡ false
poll_none_over now s = letting_none_over (is_due now) (timing_out (timeouts now s) s).records

pub ask_none_over : (asker : FaceId) (id qos : ℕ) (targets : List FaceId) (deadline : ℕ) (s : QueryState) → any_over s.records ≡ false → any_over (after_ask asker id qos targets deadline s).records ≡ false
ask_none_over asker id qos [] deadline s h = ap any_over (append-nil s.records) ∙ h
ask_none_over asker id qos (t ∷ ts) deadline s h =
    list_any-append is_over s.records (asked_record s.requests asker id qos (map (given_place s) (t ∷ ts)) deadline ∷ [])
    ∙ or_from (any_over s.records) _ h (rw (some_entries deadline (map (given_place s) (t ∷ ts)) (omega arith)) refl)
