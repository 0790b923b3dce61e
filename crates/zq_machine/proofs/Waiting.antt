-- What requests wait for, after their records are changed.
use Rattle.std.proofs.Common.{◌≡◌, ℕ, ◌+◌, Bool, true, false, cond, not, List, [], ◌∷◌, ◌++◌, map, length, Option, Some, None, refl, sym, ap, ◌∙◌, arith, true≢false, eqb-true, append-nil, subst}
use Rattle.std.specs.Prelude.{fold, ◌&&◌, ◌||◌, ◌==◌}
use Rattle.std.specs.List.{filter, list_any, cons_option, AllByRecursion}
use Rattle.std.specs.Option.{is_some, option_map, option_map_or}
use Rattle.std.specs.declared.cmp.Ordering.{Ordering}
use Rattle.std.specs.declared.cmp.Ordering.TheVariants.{Less, Equal, Greater}
use Rattle.std.specs.Ordering.{nat_cmp, match_ordering, ordering_then}
use Rattle.std.specs.BTreeSet.{insert_key}
use Rattle.std.proofs.lemmas.Bool.{false≢true, and_parts}
use Rattle.std.proofs.lemmas.Map.Lookups.{exact_unsigned}
use Rattle.std.proofs.Math.Bool.{and-false, and-true, or-false, or_assoc, or_self_left, and_assoc, and-or_distrib_right}
use Rattle.zq_message.specs.declared.message.FaceId.{FaceId}
use Rattle.zq_query.specs.declared.records.Final.{Final}
use Rattle.zq_query.specs.declared.records.Timeout.{Timeout}
use Rattle.zq_query.specs.Records.{QueryState, Record, Pending, is_closed, is_left, is_none_left, is_over, is_reply, has_reply, has_number, flies, insert_pending, landing, letting_go, putting, request, with_reply, without, without_reply, after_put}
use Rattle.zq_query.specs.Tables.{Due}
use Rattle.zq_query.specs.Asking.{asked_records, entries_at, entry_at}
use Rattle.zq_query.specs.Polling.{after_timeout, has_number_for, numbers_in, timed_out, timeouts, timing_out, with_timeout, dues_at}
use Rattle.zq_query.proofs.Keys.{place_exact}
use Rattle.zq_query.proofs.Putting.{found_there}
use Rattle.zq_machine.specs.Waiting.{is_same, owes, waits}
use Rattle.zq_key.proofs.Truth.{or_swap}

-- ---- of truth values

dropped : (a b c : Bool) → (a && c) ≡ false → (b && c) ≡ ((a || b) && c)
dropped true b true h = absurd (true≢false h)
dropped true b false h = and-false b
dropped false b c h = refl

-- ---- elements that a test keeps, where it says the same of all that are looked for
module _ {X : Type 0} (q p : X → Bool) (there : Bool) (alike : (x : X) → q x ≡ true → p x ≡ there) where
  pick : (a b l : Bool) → (a ≡ true → b ≡ there) → cond (not b) (a || (l && not there)) (l && not there) ≡ ((a || l) && not there)
  pick true true l h = ap (λ (t : Bool). l && not t) (sym (h refl)) ∙ and-false l ∙ ap not (h refl)
  pick true false l h = ap not (h refl)
  pick false true l h = refl
  pick false false l h = refl

  one_kept : (x : X) (xs : List X) (b : Bool) → list_any q (cond b (x ∷ xs) xs) ≡ cond b (q x || list_any q xs) (list_any q xs)
  one_kept x xs true = refl
  one_kept x xs false = refl

  pub picked : (xs : List X) → list_any q (filter (λ x. not (p x)) xs) ≡ (list_any q xs && not there)
  picked [] = refl
  picked (x ∷ xs) =
      one_kept x (filter (λ y. not (p y)) xs) (not (p x))
      ∙ ap (λ f. cond (not (p x)) (q x || f) f) (picked xs)
      ∙ pick (q x) (p x) (list_any q xs) (alike x)

-- ---- records that are changed, of which those with nothing left go
module _ (h : Record → Bool) (change : Record → Record) (stay : Bool) (keeps : (r : Record) → h (change r) ≡ (h r && stay)) (over : (r : Record) → is_over r ≡ true → h r ≡ false) where
  left_by : (r : Record) (rs : List Record) (b : Bool) → is_over (change r) ≡ b → list_any h (filter is_left (map change rs)) ≡ (list_any h rs && stay)
      → list_any h (cond (not b) (change r ∷ filter is_left (map change rs)) (filter is_left (map change rs))) ≡ ((h r || list_any h rs) && stay)
  left_by r rs true e ih = ih ∙ dropped (h r) (list_any h rs) stay (sym (keeps r) ∙ over (change r) e)
  left_by r rs false e ih = (λ j. keeps r j || ih j) ∙ sym (and-or_distrib_right (h r) (list_any h rs) stay)

  pub left : (rs : List Record) → list_any h (filter is_left (map change rs)) ≡ (list_any h rs && stay)
  left [] = refl
  left (r ∷ rs) = left_by r rs (is_over (change r)) refl (left rs)

module _ (h : Record → Bool) (change : Record → Record) (keeps : (r : Record) → h (change r) ≡ h r) where
  pub changed : (rs : List Record) → list_any h (map change rs) ≡ list_any h rs
  changed [] = refl
  changed (r ∷ rs) = λ j. keeps r j || changed rs j

-- ---- entries
is_it : (e p : Pending) → is_same e p ≡ true → p ≡ e
is_it e p h =
    let a = and_parts (p.face == e.face) _ h in
    let b = and_parts (p.id == e.id) (p.deadline == e.deadline) a.1 in
    let face : p.face ≡ e.face = eqb-true p.face e.face a.0 in
    let id : p.id ≡ e.id = eqb-true p.id e.id b.0 in
    let moment : p.deadline ≡ e.deadline = eqb-true p.deadline e.deadline b.1 in
    λ j. record { face = face j; id = id j; deadline = moment j }

none_pending : (q : Pending → Bool) (xs : List Pending) (b : Bool) → (is_none_left xs && b) ≡ true → list_any q xs ≡ false
none_pending q [] b h = refl
none_pending q (x ∷ xs) b h = absurd (false≢true h)

none_flying : (q : ℕ → Bool) (xs : List ℕ) (b : Bool) → (b && is_none_left xs) ≡ true → list_any q xs ≡ false
none_flying q [] b h = refl
none_flying q (x ∷ xs) b h = absurd (false≢true (sym (and-false b) ∙ h))

module _ (n : ℕ) (e : Pending) where
  over_waits : (r : Record) → is_over r ≡ true → waits n e r ≡ false
  over_waits r h = ap (λ b. (r.number == n) && b) (none_pending (is_same e) r.pending (is_none_left r.in_flight) h) ∙ and-false (r.number == n)

  pub owes_let : (p : Pending → Bool) (rs : List Record) → owes n e (letting_go p rs) ≡ (owes n e rs && not (p e))
  owes_let p rs = left (waits n e) (without p) (not (p e))
      (λ r. ap (λ b. (r.number == n) && b) (picked (is_same e) p (p e) (λ x h. ap p (is_it e x h)) r.pending) ∙ sym (and_assoc (r.number == n) (list_any (is_same e) r.pending) (not (p e))))
      over_waits rs

  pub owes_landed : (reply : ℕ) (rs : List Record) → owes n e (landing reply rs) ≡ owes n e rs
  owes_landed reply rs = left (waits n e) (without_reply reply) true (λ r. sym (and-true (waits n e r))) over_waits rs ∙ and-true (owes n e rs)

  with_same : (reply m : ℕ) (r : Record) (b : Bool) → waits n e (cond b (record r { in_flight = insert_key nat_cmp r.in_flight reply }) r) ≡ waits n e r
  with_same reply m r true = refl
  with_same reply m r false = refl

  pub owes_put : (reply m : ℕ) (rs : List Record) → owes n e (putting reply m rs) ≡ owes n e rs
  owes_put reply m rs = changed (waits n e) (with_reply reply m) (λ r. with_same reply m r (r.number == m)) rs

  pub owes_after_put : (m : ℕ) (s : QueryState) (b : Bool) → owes n e (cond b (after_put m s) s).records ≡ owes n e s.records
  owes_after_put m s true = owes_put s.replies m s.records
  owes_after_put m s false = refl

  pub owes_timing : (ts : List Timeout) (s : QueryState) → owes n e (timing_out ts s).records ≡ owes n e s.records
  owes_timing [] s = refl
  owes_timing (t ∷ ts) s = owes_timing ts (after_timeout s t) ∙ owes_after_put t.number s (is_some t.reply)

-- ---- the entries of a new request
-- a test of the entries that wait up to one moment
module _ (test : Pending → Bool) (moment : ℕ) where
  abbrev at_moment : ℕ × ℕ → Bool
  at_moment p = test (entry_at moment p)

  insert_by : (p x : Pending) (xs : List Pending) (o : Ordering) → ordering_then (nat_cmp p.face x.face) (nat_cmp p.id x.id) ≡ o → p.deadline ≡ x.deadline → list_any test (insert_pending xs p) ≡ (test p || list_any test xs)
      → list_any test (match_ordering o (p ∷ x ∷ xs) (p ∷ xs) (x ∷ insert_pending xs p)) ≡ (test p || (test x || list_any test xs))
  insert_by p x xs Less g d ih = refl
  insert_by p x xs Equal g d ih =
      let place : ◌≡◌ {A = ℕ × ℕ} (p.face, p.id) (x.face, x.id) = place_exact (p.face, p.id) (x.face, x.id) g in
      let same : p ≡ x = λ j. record { face = (place j).0; id = (place j).1; deadline = d j } in
      sym (or_self_left (test p) (list_any test xs)) ∙ ap (λ y. test p || (test y || list_any test xs)) same
  insert_by p x xs Greater g d ih = ap (λ b. test x || b) ih ∙ or_swap (test x) (test p) (list_any test xs)

  abbrev AllUntil : List Pending → Type 0
  AllUntil xs = AllByRecursion (λ (x : Pending). moment ≡ x.deadline) xs

  inserted : (p : ℕ × ℕ) (xs : List Pending) → AllUntil xs → list_any test (insert_pending xs (entry_at moment p)) ≡ (at_moment p || list_any test xs)
  inserted p [] all = refl
  inserted p (x ∷ xs) all = insert_by (entry_at moment p) x xs _ refl all.0 (inserted p xs all.1)

  until_by : (p x : Pending) (xs : List Pending) (o : Ordering) → moment ≡ p.deadline → moment ≡ x.deadline → AllUntil xs → AllUntil (insert_pending xs p) → AllUntil (match_ordering o (p ∷ x ∷ xs) (p ∷ xs) (x ∷ insert_pending xs p))
  until_by p x xs Less d f all ih = (d, (f, all))
  until_by p x xs Equal d f all ih = (d, all)
  until_by p x xs Greater d f all ih = (f, ih)

  still_until : (p : ℕ × ℕ) (xs : List Pending) → AllUntil xs → AllUntil (insert_pending xs (entry_at moment p))
  still_until p [] all = (refl, tt)
  still_until p (x ∷ xs) all = until_by (entry_at moment p) x xs (ordering_then (nat_cmp p.0 x.face) (nat_cmp p.1 x.id)) refl all.0 all.1 (still_until p xs all.1)

  entries_by : (places : List (ℕ × ℕ)) (xs : List Pending) → AllUntil xs → list_any test (fold (λ l p. insert_pending l (entry_at moment p)) xs places) ≡ (list_any at_moment places || list_any test xs)
  entries_by [] xs all = refl
  entries_by (p ∷ places) xs all =
      entries_by places (insert_pending xs (entry_at moment p)) (still_until p xs all)
      ∙ ap (λ b. list_any at_moment places || b) (inserted p xs all)
      ∙ or_swap (list_any at_moment places) (at_moment p) (list_any test xs)
      ∙ sym (or_assoc (at_moment p) (list_any at_moment places) (list_any test xs))

  pub entries_are : (places : List (ℕ × ℕ)) → list_any test (entries_at moment places) ≡ list_any at_moment places
  entries_are places = entries_by places [] tt ∙ or-false (list_any at_moment places)

module _ (e : Pending) (moment : ℕ) where
  abbrev pub asked : ℕ × ℕ → Bool
  asked p = is_same e (entry_at moment p)

  pub owes_asked : (n number : ℕ) (asker : FaceId) (id qos : ℕ) (places : List (ℕ × ℕ)) → owes n e (asked_records number asker id qos places moment) ≡ ((number == n) && list_any asked places)
  owes_asked n number asker id qos [] = sym (and-false (number == n))
  owes_asked n number asker id qos (p ∷ places) = or-false _ ∙ ap (λ b. (number == n) && b) (entries_are (is_same e) moment (p ∷ places))

-- ---- replies in flight
module _ (n k : ℕ) where
  abbrev flying : Record → Bool
  flying r = (r.number == n) && has_reply k r

  over_flies : (r : Record) → is_over r ≡ true → flying r ≡ false
  over_flies r h = ap (λ b. (r.number == n) && b) (none_flying (is_reply k) r.in_flight (is_none_left r.pending) h) ∙ and-false (r.number == n)

  pub flies_let : (p : Pending → Bool) (rs : List Record) → flies n k (letting_go p rs) ≡ flies n k rs
  flies_let p rs = left flying (without p) true (λ r. sym (and-true (flying r))) over_flies rs ∙ and-true (flies n k rs)

  pub flies_landed : (reply : ℕ) (rs : List Record) → flies n k (landing reply rs) ≡ (flies n k rs && not (is_reply reply k))
  flies_landed reply rs = left flying (without_reply reply) (not (is_reply reply k))
      (λ r. ap (λ b. (r.number == n) && b) (picked (is_reply k) (is_reply reply) (is_reply reply k) (λ x h. ap (is_reply reply) (eqb-true x k h)) r.in_flight) ∙ sym (and_assoc (r.number == n) (has_reply k r) (not (is_reply reply k))))
      over_flies rs

  put_by : (reply x : ℕ) (xs : List ℕ) (o : Ordering) → nat_cmp reply x ≡ o → list_any (is_reply k) (insert_key nat_cmp xs reply) ≡ (is_reply k reply || list_any (is_reply k) xs)
      → list_any (is_reply k) (match_ordering o (reply ∷ x ∷ xs) (x ∷ xs) (x ∷ insert_key nat_cmp xs reply)) ≡ (is_reply k reply || (is_reply k x || list_any (is_reply k) xs))
  put_by reply x xs Less e ih = refl
  put_by reply x xs Equal e ih = sym (or_self_left (is_reply k x) (list_any (is_reply k) xs)) ∙ ap (λ y. is_reply k y || (is_reply k x || list_any (is_reply k) xs)) (sym (exact_unsigned reply x e))
  put_by reply x xs Greater e ih = ap (λ b. is_reply k x || b) ih ∙ or_swap (is_reply k x) (is_reply k reply) (list_any (is_reply k) xs)

  put_in : (reply : ℕ) (xs : List ℕ) → list_any (is_reply k) (insert_key nat_cmp xs reply) ≡ (is_reply k reply || list_any (is_reply k) xs)
  put_in reply [] = refl
  put_in reply (x ∷ xs) = put_by reply x xs _ refl (put_in reply xs)

  share : (a b c : Bool) → (a && (b || c)) ≡ ((a && c) || (a && b))
  share true true true = refl
  share true true false = refl
  share true false c = sym (or-false c)
  share false b c = refl

  abbrev pub new : ℕ → ℕ → Bool
  new reply m = (m == n) && is_reply k reply

  record_by : (reply m : ℕ) (r : Record) (b : Bool) → (r.number == m) ≡ b → flying (cond b (record r { in_flight = insert_key nat_cmp r.in_flight reply }) r) ≡ (flying r || (b && new reply m))
  record_by reply m r true e =
      ap (λ b. (r.number == n) && b) (put_in reply r.in_flight)
      ∙ share (r.number == n) (is_reply k reply) (has_reply k r)
      ∙ ap (λ x. flying r || ((x == n) && is_reply k reply)) (eqb-true r.number m e)
  record_by reply m r false e = sym (or-false (flying r))

  mix : (a b l s u : Bool) → ((a || (b && u)) || (l || (s && u))) ≡ ((a || l) || ((b || s) && u))
  mix true b l s u = refl
  mix false false l s u = refl
  mix false true true s true = refl
  mix false true false s true = refl
  mix false true true s false = refl
  mix false true false s false = and-false s

  put_all : (reply m : ℕ) (rs : List Record) → flies n k (putting reply m rs) ≡ (flies n k rs || (list_any (has_number m) rs && new reply m))
  put_all reply m [] = refl
  put_all reply m (r ∷ rs) =
      (λ j. record_by reply m r (r.number == m) refl j || put_all reply m rs j)
      ∙ mix (flying r) (r.number == m) (flies n k rs) (list_any (has_number m) rs) (new reply m)

  pub flies_put : (reply m : ℕ) (rs : List Record) → list_any (has_number m) rs ≡ true → flies n k (putting reply m rs) ≡ (flies n k rs || new reply m)
  flies_put reply m rs h = put_all reply m rs ∙ ap (λ b. flies n k rs || (b && new reply m)) h

  -- the timeout has that reply, of that request
  abbrev pub says : Timeout → Bool
  says t = (t.number == n) && option_map_or (is_reply k) t.reply false

-- ---- timeouts take the next numbers, one after another
abbrev Fits : QueryState → Timeout → Type 0
Fits s t = (is_some t.reply ≡ true → t.reply ≡ Some s.replies) × (list_any (has_number t.number) s.records ≡ true)

abbrev pub AllFit : QueryState → List Timeout → Type 0
AllFit s [] = Unit {0}
AllFit s (t ∷ ts) = Fits s t × AllFit (after_timeout s t) ts

one_more : (ts : List Timeout) (s : QueryState) (t : Timeout) → AllFit s ts → Fits (timing_out ts s) t → AllFit s (ts ++ t ∷ [])
one_more [] s t all fits = (fits, tt)
one_more (u ∷ ts) s t all fits = (all.0, one_more ts (after_timeout s u) t all.1 fits)

number_same : (reply m q : ℕ) (r : Record) (b : Bool) → has_number q (cond b (record r { in_flight = insert_key nat_cmp r.in_flight reply }) r) ≡ has_number q r
number_same reply m q r true = refl
number_same reply m q r false = refl

there_after : (t : Timeout) (s : QueryState) (q : ℕ) (b : Bool) → list_any (has_number q) (cond b (after_put t.number s) s).records ≡ list_any (has_number q) s.records
there_after t s q true = changed (has_number q) (with_reply s.replies t.number) (λ r. number_same s.replies t.number q r (r.number == t.number)) s.records
there_after t s q false = refl

numbers_stay : (ts : List Timeout) (s : QueryState) (q : ℕ) → list_any (has_number q) (timing_out ts s).records ≡ list_any (has_number q) s.records
numbers_stay [] s q = refl
numbers_stay (t ∷ ts) s q = numbers_stay ts (after_timeout s t) q ∙ there_after t s q (is_some t.reply)

replies_after : (ts : List Timeout) (s : QueryState) → (timing_out ts s).replies ≡ s.replies + numbers_in ts
replies_after [] s = omega arith
replies_after (t ∷ ts) s = by (is_some t.reply) (replies_after ts (after_timeout s t))
  where
    by : (b : Bool) → (timing_out ts (cond b (after_put t.number s) s)).replies ≡ (cond b (after_put t.number s) s).replies + numbers_in ts
        → (timing_out ts (cond b (after_put t.number s) s)).replies ≡ s.replies + length (cond b (t ∷ filter has_number_for ts) (filter has_number_for ts))
    by true e = omega (arith, e)
    by false e = e

number_next : (s : QueryState) (a : ℕ) (d : Due) (f : Final) (next : ℕ) (b : Bool) → a ≡ next → is_some (cond b None (Some a)) ≡ true → ◌≡◌ {A = Option ℕ} (cond b None (Some a)) (Some next)
number_next s a d f next true e h = absurd (false≢true h)
number_next s a d f next false e h = ap Some e

more_fit : (s : QueryState) (ts : List Timeout) (d : Due) (o : Option Final) → request d.1 s.records ≡ o → AllFit s ts → AllFit s (ts ++ cons_option (option_map (timed_out s (s.replies + numbers_in ts) d) o) [])
more_fit s ts d None e all = subst (AllFit s) (sym (append-nil ts)) all
more_fit s ts d (Some f) e all =
    one_more ts s (timed_out s (s.replies + numbers_in ts) d f) all
    (number_next s (s.replies + numbers_in ts) d f (timing_out ts s).replies (is_closed s.closed f.asker.0) (sym (replies_after ts s)), numbers_stay ts s f.number ∙ found_there (has_number d.1) s.records f e)

all_fit : (s : QueryState) (ds : List Due) (ts : List Timeout) → AllFit s ts → AllFit s (fold (with_timeout s) ts ds)
all_fit s [] ts all = all
all_fit s (d ∷ ds) ts all = all_fit s ds (with_timeout s ts d) (more_fit s ts d (request d.1 s.records) refl all)

pub timeouts_fit : (now : ℕ) (s : QueryState) → AllFit s (timeouts now s)
timeouts_fit now s = all_fit s (dues_at now s.records) [] tt

none_said : (k : ℕ) (o : Option ℕ) → is_some o ≡ false → option_map_or (is_reply k) o false ≡ false
none_said k None h = refl
none_said k (Some x) h = absurd (true≢false h)

flies_one : (n k : ℕ) (s : QueryState) (t : Timeout) (b : Bool) → is_some t.reply ≡ b → Fits s t → flies n k (cond b (after_put t.number s) s).records ≡ (flies n k s.records || says n k t)
flies_one n k s t true e fits = flies_put n k s.replies t.number s.records fits.1 ∙ ap (λ (o : Option ℕ). flies n k s.records || ((t.number == n) && option_map_or (is_reply k) o false)) (sym (fits.0 e))
flies_one n k s t false e fits = sym (or-false (flies n k s.records)) ∙ ap (λ b. flies n k s.records || b) (sym (and-false (t.number == n)) ∙ ap (λ b. (t.number == n) && b) (sym (none_said k t.reply e)))

pub flies_timing : (n k : ℕ) (ts : List Timeout) (s : QueryState) → AllFit s ts → flies n k (timing_out ts s).records ≡ (flies n k s.records || list_any (says n k) ts)
flies_timing n k [] s all = sym (or-false (flies n k s.records))
flies_timing n k (t ∷ ts) s all =
    flies_timing n k ts (after_timeout s t) all.1
    ∙ ap (λ b. b || list_any (says n k) ts) (flies_one n k s t (is_some t.reply) refl all.0)
    ∙ or_assoc (flies n k s.records) (says n k t) (list_any (says n k) ts)

pub flies_asked : (n k number : ℕ) (asker : FaceId) (id qos : ℕ) (places : List (ℕ × ℕ)) (moment : ℕ) → flies n k (asked_records number asker id qos places moment) ≡ false
flies_asked n k number asker id qos [] moment = refl
flies_asked n k number asker id qos (p ∷ places) moment = or-false _ ∙ and-false (number == n)
