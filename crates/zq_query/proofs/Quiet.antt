-- A poll ends no request of an open asker: its error reply is in flight.
use Rattle.std.proofs.Common.{◌≡◌, ℕ, ◌+◌, Bool, true, false, cond, List, [], ◌∷◌, map, ap, ◌∙◌, refl, Some, None, Option, sym, true≢false, eq-eqb}
use Rattle.std.specs.Prelude.{fold, not, ◌&&◌, ◌||◌, ◌==◌}
use Rattle.std.specs.Cmp.{nat_eq_equiv, first_so, second_so}
use Rattle.std.specs.List.{filter, flat_map, list_any, cons_option, AllByRecursion}
use Rattle.std.specs.Option.{is_some, option_map}
use Rattle.std.specs.Ordering.{nat_cmp}
use Rattle.std.specs.BTreeMap.{is_at}
use Rattle.std.specs.BTreeSet.{insert_key}
use Rattle.std.proofs.lemmas.List.Folds.{list_any-append}
use Rattle.std.proofs.Math.Bool.{or-true, and-true, or-false}
use Rattle.std.proofs.lemmas.Bool.{or_parts, and_right, not-true}
use Rattle.zq_query.specs.declared.records.Final.{Final}
use Rattle.zq_query.specs.declared.records.Timeout.{Timeout}
use Rattle.zq_query.specs.Records.{QueryState, Record, Pending, is_closed, is_over, is_none_left, any_over, final_of, without, request, putting, after_put}
use Rattle.zq_query.specs.Tables.{Due, due_cmp}
use Rattle.zq_query.specs.FaceEntries.{has_key}
use Rattle.zq_query.specs.Closing.{has_open_asker, finals_after}
use Rattle.zq_query.specs.Polling.{is_due, dues_of, dues_at, numbers_in, timed_out, with_timeout, timeouts, after_timeout, timing_out}
use Rattle.zq_query.proofs.Keys.{due_total, due_exact}
use Rattle.zq_query.proofs.Dues.{folded_key, any_concat}
use Rattle.zq_query.proofs.Flying.{some_flies}
use Rattle.zq_key.proofs.Lookups.{same_key, at_itself}

-- a timeout with a reply is of the request
abbrev serves : List Timeout → ℕ → Bool
serves ts m = list_any (λ (t : Timeout). is_some t.reply && (t.number == m)) ts

-- the request's asker is open, the entries that are due are all that is left, and no timeout serves it
abbrev ends_unserved : ℕ → List ℕ → List Timeout → Record → Bool
ends_unserved now closed ts r = (has_open_asker closed (final_of r) && is_over (without (is_due now) r)) && not (serves ts r.number)

-- ---- while the error replies are put in flight
one_by : (now n : ℕ) (closed : List ℕ) (t : Timeout) (ts : List Timeout) (r : Record) (b : Bool) → is_some t.reply ≡ true → (r.number == t.number) ≡ b → ends_unserved now closed (t ∷ ts) r ≡ false
    → ends_unserved now closed ts (cond b (record r { in_flight = insert_key nat_cmp r.in_flight n }) r) ≡ false
one_by now n closed t ts r true some e h =
    ap (λ b. b && not (serves ts r.number)) (and_right (has_open_asker closed (final_of r)) _ (and_right (is_none_left (filter (λ x. not (is_due now x)) r.pending)) _ (some_flies n r.in_flight)))
one_by now n closed t ts r false some e h =
    ap (λ b. (has_open_asker closed (final_of r) && is_over (without (is_due now) r)) && not (b || serves ts r.number))
    (sym (λ j. some j && other j)) ∙ h
  where
    other : (t.number == r.number) ≡ false
    other = nat_eq_equiv.symm t.number r.number ∙ e

put_one : (now n : ℕ) (closed : List ℕ) (t : Timeout) (ts : List Timeout) (rs : List Record) → is_some t.reply ≡ true → list_any (ends_unserved now closed (t ∷ ts)) rs ≡ false → list_any (ends_unserved now closed ts) (putting n t.number rs) ≡ false
put_one now n closed t ts [] some h = refl
put_one now n closed t ts (r ∷ rs) some h =
    let m = or_parts (ends_unserved now closed (t ∷ ts) r) (list_any (ends_unserved now closed (t ∷ ts)) rs) h in
    rw (one_by now n closed t ts r (r.number == t.number) some refl m.0) (put_one now n closed t ts rs some m.1)

skip_one : (now : ℕ) (closed : List ℕ) (t : Timeout) (ts : List Timeout) (rs : List Record) → is_some t.reply ≡ false → list_any (ends_unserved now closed (t ∷ ts)) rs ≡ false → list_any (ends_unserved now closed ts) rs ≡ false
skip_one now closed t ts [] none h = refl
skip_one now closed t ts (r ∷ rs) none h =
    let m = or_parts (ends_unserved now closed (t ∷ ts) r) (list_any (ends_unserved now closed (t ∷ ts)) rs) h in
    let here : ends_unserved now closed ts r ≡ false = ap (λ b. (has_open_asker closed (final_of r) && is_over (without (is_due now) r)) && not ((b && (t.number == r.number)) || serves ts r.number)) (sym none) ∙ m.0 in
    rw here (skip_one now closed t ts rs none m.1)

step_by : (now : ℕ) (s : QueryState) (t : Timeout) (ts : List Timeout) (b : Bool) → is_some t.reply ≡ b → list_any (ends_unserved now s.closed (t ∷ ts)) s.records ≡ false → list_any (ends_unserved now (cond b (after_put t.number s) s).closed ts) (cond b (after_put t.number s) s).records ≡ false
step_by now s t ts true e h = put_one now s.replies s.closed t ts s.records e h
step_by now s t ts false e h = skip_one now s.closed t ts s.records e h

all_put : (now : ℕ) (ts : List Timeout) (s : QueryState) → list_any (ends_unserved now s.closed ts) s.records ≡ false → list_any (ends_unserved now (timing_out ts s).closed []) (timing_out ts s).records ≡ false
all_put now [] s h = h
all_put now (t ∷ ts) s h = all_put now ts (after_timeout s t) (step_by now s t ts (is_some t.reply) refl h)

none_end : (now : ℕ) (closed : List ℕ) (rs : List Record) → list_any (ends_unserved now closed []) rs ≡ false → finals_after (is_due now) closed rs ≡ []
none_end now closed [] h = refl
none_end now closed (r ∷ rs) h =
    let m = or_parts (ends_unserved now closed [] r) (list_any (ends_unserved now closed []) rs) h in
    by_tests (is_over (without (is_due now) r)) (has_open_asker closed (final_of r)) refl (sym (and-true _) ∙ m.0) (none_end now closed rs m.1)
  where
    by_tests : (a b : Bool) → has_open_asker closed (final_of r) ≡ b → (b && a) ≡ false → finals_after (is_due now) closed rs ≡ [] → filter (has_open_asker closed) (map final_of (cond a (without (is_due now) r ∷ filter is_over (map (without (is_due now)) rs)) (filter is_over (map (without (is_due now)) rs)))) ≡ []
    by_tests true true e g ih = absurd (true≢false g)
    by_tests true false e g ih = rw e ih
    by_tests false b e g ih = ih

-- ---- each that would end is served
serves_on : (s : QueryState) (m : ℕ) (ts : List Timeout) (ds : List Due) → serves ts m ≡ true → serves (fold (with_timeout s) ts ds) m ≡ true
serves_on s m ts [] h = h
serves_on s m ts (d ∷ ds) h = serves_on s m (with_timeout s ts d) ds (list_any-append (λ (t : Timeout). is_some t.reply && (t.number == m)) ts _ ∙ ap (λ b. b || serves (cons_option (option_map (timed_out s (s.replies + numbers_in ts) d) (request d.1 s.records)) []) m) h)

reply_by : (s : QueryState) (n : ℕ) (d : Due) (f : Final) (b : Bool) → is_closed s.closed f.asker.0 ≡ b → b ≡ false → is_some (cond b None (Some n)) ≡ true
reply_by s n d f true e h = absurd (true≢false h)
reply_by s n d f false e h = refl

served_by : (s : QueryState) (d x : Due) (f : Final) (ts : List Timeout) (ds : List Due) (b : Bool) → is_at (due_cmp d) x ≡ b → (b || has_key due_cmp d ds) ≡ true → request d.1 s.records ≡ Some f → f.number ≡ d.1 → is_closed s.closed f.asker.0 ≡ false
    → (has_key due_cmp d ds ≡ true → serves (fold (with_timeout s) (with_timeout s ts x) ds) d.1 ≡ true) → serves (fold (with_timeout s) (with_timeout s ts x) ds) d.1 ≡ true
served_by s d x f ts ds true e h is number unclosed ih = serves_on s d.1 (with_timeout s ts x) ds here
  where
    same : d ≡ x
    same = same_key due_total due_exact d x e

    one : serves (cons_option (option_map (timed_out s (s.replies + numbers_in ts) x) (request x.1 s.records)) []) d.1 ≡ true
    one =
        ap (λ (q : Option Final). serves (cons_option (option_map (timed_out s (s.replies + numbers_in ts) x) q) []) d.1) (ap (λ (k : Due). request k.1 s.records) (sym same) ∙ is)
        ∙ rw (unclosed, eq-eqb f.number d.1 number) refl

    here : serves (with_timeout s ts x) d.1 ≡ true
    here = list_any-append (λ (t : Timeout). is_some t.reply && (t.number == d.1)) ts _ ∙ ap (λ b. serves ts d.1 || b) one ∙ or-true (serves ts d.1)
served_by s d x f ts ds false e h is number unclosed ih = ih h

served : (s : QueryState) (d : Due) (f : Final) (ts : List Timeout) (ds : List Due) → has_key due_cmp d ds ≡ true → request d.1 s.records ≡ Some f → f.number ≡ d.1 → is_closed s.closed f.asker.0 ≡ false → serves (fold (with_timeout s) ts ds) d.1 ≡ true
served s d f ts [] h is number unclosed = absurd (true≢false (sym h))
served s d f ts (x ∷ ds) h is number unclosed = served_by s d x f ts ds _ refl h is number unclosed (λ g. served s d f (with_timeout s ts x) ds g is number unclosed)

module _ (now : ℕ) (s : QueryState) where
  abbrev due_somewhere : Due → List Record → Bool
  due_somewhere d rs = list_any (λ x. has_key due_cmp d (dues_of now x)) rs

  found : (d : Due) → due_somewhere d s.records ≡ true → has_key due_cmp d (dues_at now s.records) ≡ true
  found d h = folded_key d [] (flat_map (dues_of now) s.records) ∙ or-false (has_key due_cmp d (flat_map (dues_of now) s.records)) ∙ any_concat d (dues_of now) s.records ∙ h

  -- a request that ends with the entries that are due has one that is due
  one_due : (r : Record) (l : List Pending) → is_none_left l ≡ false → is_none_left (filter (λ x. not (is_due now x)) l) ≡ true → (e : Pending) × (has_key due_cmp (e.deadline, r.number, e.face) (map (λ (x : Pending). (x.deadline, r.number, x.face)) (filter (is_due now) l)) ≡ true)
  one_due r [] h none = absurd (true≢false h)
  one_due r (e ∷ l) h none = (e, by_test (is_due now e) refl none)
    where
      by_test : (b : Bool) → is_due now e ≡ b → is_none_left (cond (not b) (e ∷ filter (λ x. not (is_due now x)) l) (filter (λ x. not (is_due now x)) l)) ≡ true → has_key due_cmp (e.deadline, r.number, e.face) (map (λ (x : Pending). (x.deadline, r.number, x.face)) (cond b (e ∷ filter (is_due now) l) (filter (is_due now) l))) ≡ true
      by_test true f g = ap (λ b. b || has_key due_cmp (e.deadline, r.number, e.face) (map (λ (x : Pending). (x.deadline, r.number, x.face)) (filter (is_due now) l))) (at_itself due_total due_exact (e.deadline, r.number, e.face))
      by_test false f g = absurd (true≢false (sym g))

  some_pending : (r : Record) (b : Bool) → is_none_left r.pending ≡ b → is_over r ≡ false → is_none_left r.in_flight ≡ true → b ≡ false
  some_pending r true e h none = absurd (true≢false (sym (λ j. e j && none j) ∙ h))
  some_pending r false e h none = refl

  serves_it : (r : Record) → (has_open_asker s.closed (final_of r) && is_over (without (is_due now) r)) ≡ true → is_over r ≡ false → request r.number s.records ≡ Some (final_of r) → ((d : Due) → has_key due_cmp d (dues_of now r) ≡ true → has_key due_cmp d (dues_at now s.records) ≡ true) → serves (timeouts now s) r.number ≡ true
  serves_it r ends left is listed =
      let over = second_so _ _ ends in
      let flying = second_so _ _ over in
      let due = one_due r r.pending (some_pending r (is_none_left r.pending) refl left flying) (first_so _ _ over) in
      served s (due.0.deadline, r.number, due.0.face) (final_of r) [] (dues_at now s.records) (listed (due.0.deadline, r.number, due.0.face) due.1) is refl (not-true (is_closed s.closed r.asker.0) (first_so _ _ ends))

  unserved_by : (r : Record) (b : Bool) → (has_open_asker s.closed (final_of r) && is_over (without (is_due now) r)) ≡ b → is_over r ≡ false → request r.number s.records ≡ Some (final_of r) → ((d : Due) → has_key due_cmp d (dues_of now r) ≡ true → has_key due_cmp d (dues_at now s.records) ≡ true) → (b && not (serves (timeouts now s) r.number)) ≡ false
  unserved_by r true e left is listed = ap not (serves_it r e left is listed)
  unserved_by r false e left is listed = refl

  all_served : (rs : List Record) → ((d : Due) → due_somewhere d rs ≡ true → due_somewhere d s.records ≡ true) → any_over rs ≡ false → AllByRecursion (λ r. request r.number s.records ≡ Some (final_of r)) rs → list_any (ends_unserved now s.closed (timeouts now s)) rs ≡ false
  all_served [] within left alone = refl
  all_served (r ∷ rs) within left alone =
      let m = or_parts (is_over r) (any_over rs) left in
      let here : ends_unserved now s.closed (timeouts now s) r ≡ false = unserved_by r _ refl m.0 alone.0 (λ d h. found d (within d (ap (λ b. b || due_somewhere d rs) h))) in
      rw here (all_served rs (λ d h. within d (ap (λ b. has_key due_cmp d (dues_of now r) || b) h ∙ or-true (has_key due_cmp d (dues_of now r)))) m.1 alone.1)

  -- where each record is the one with its number
  pub poll_quiet : any_over s.records ≡ false → AllByRecursion (λ r. request r.number s.records ≡ Some (final_of r)) s.records → finals_after (is_due now) (timing_out (timeouts now s) s).closed (timing_out (timeouts now s) s).records ≡ []
  poll_quiet left alone = none_end now (timing_out (timeouts now s) s).closed (timing_out (timeouts now s) s).records (all_put now (timeouts now s) s (all_served s.records (λ d h. h) left alone))
