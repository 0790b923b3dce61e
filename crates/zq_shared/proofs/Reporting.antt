-- What one report makes of what requests wait for.
use Rattle.std.proofs.Common.{◌≡◌, ◌≢◌, ℕ, ◌+◌, ◌<◌, ◌≤◌, Bool, true, false, cond, not, List, [], ◌∷◌, length, Some, None, refl, sym, ap, ◌∙◌, arith, inl, inr, eqb-true, ne_eqb}
use Rattle.std.specs.Prelude.{◌⊎◌, ◌||◌, ◌&&◌, ◌==◌}
use Rattle.std.proofs.Math.Bool.{or-false}
use Rattle.std.proofs.lemmas.Bool.{and_parts, false≢true, or_cases}
use Rattle.zq_query.specs.Records.{Record, flies, has_reply, is_in_flight, is_reply}
use Rattle.zq_hold.specs.Slots.{stood}
use Rattle.zq_hold.specs.Owners.{owned}
use Rattle.zq_machine.specs.declared.call.Call.{Call}
use Rattle.zq_machine.specs.declared.call.Call.TheVariants as call
use Rattle.zq_machine.specs.declared.call.Outcome.TheVariants as outcome
use Rattle.zq_machine.specs.declared.call.Refusal.{Refusal}
use Rattle.zq_machine.specs.declared.call.Refusal.TheVariants as refusal
use Rattle.zq_machine.specs.declared.call.Step.{Step}
use Rattle.zq_machine.specs.Agreeing.{all_in_flight}
use Rattle.zq_machine.specs.Deciding.{is_accepted}
use Rattle.zq_machine.specs.Handing.{Handed}
use Rattle.zq_machine.specs.Headline.{RefusesBy}
use Rattle.zq_machine.specs.Machine.{done, refused_step, state_after, step}
use Rattle.zq_machine.specs.State.{State, opening_state}
use Rattle.zq_machine.proofs.Children.{after_both}
use Rattle.zq_machine.proofs.Lists.{count, count_append}
use Rattle.zq_shared.specs.Stored.{IsOpen, Stored, answer_to, asks_request, flights, in_flight, standing, waiting, with_call}
use Rattle.zq_shared.specs.Ties.{IsSending}
use Rattle.zq_shared.proofs.Distinct.{count_some}
use Rattle.zq_shared.proofs.Flights.{all_have, flies_in, flights_less, none_handed, once, promises}
use Rattle.zq_shared.proofs.Holding.{has_owner}
use Rattle.zq_shared.proofs.Journals.{answer_is, standing_is}
use Rattle.zq_shared.proofs.Moves.{flying_is, next_grows, open_before, waits_stays, waits_still}
use Rattle.zq_shared.proofs.Ties.{requests_more, zero_if}
use Rattle.zq_shared.specs.Keeping.{KeepsTies}

-- ---- a reply is in flight of one request at most
one_request : (k n m : ℕ) (rs : List Record) → count (is_reply k) (all_in_flight rs) ≤ 1 → flies n k rs ≡ true → flies m k rs ≡ true → n ≡ m
one_request k n m [] few first second = absurd (false≢true first)
one_request k n m (r ∷ rs) few first second =
    by (or_cases ((r.number == n) && has_reply k r) (flies n k rs) first) (or_cases ((r.number == m) && has_reply k r) (flies m k rs) second) (one_request k n m rs (let sum = count_append (is_reply k) r.in_flight (all_in_flight rs) in omega (arith, few, sum)))
  where
    both : count (is_reply k) r.in_flight + count (is_reply k) (all_in_flight rs) ≤ 1
    both = let sum = count_append (is_reply k) r.in_flight (all_in_flight rs) in omega (arith, few, sum)

    behind : (i : ℕ) → flies i k rs ≡ true → 0 < count (is_reply k) (all_in_flight rs)
    behind i there = count_some (is_reply k) (all_in_flight rs) (sym (all_have k rs) ∙ flies_in i k rs there)

    by : ((((r.number == n) && has_reply k r) ≡ true) ⊎ (flies n k rs ≡ true)) → ((((r.number == m) && has_reply k r) ≡ true) ⊎ (flies m k rs ≡ true)) → (flies n k rs ≡ true → flies m k rs ≡ true → n ≡ m) → n ≡ m
    by (inl here) (inl now) ih =
        let a = eqb-true r.number n (and_parts (r.number == n) (has_reply k r) here).0 in
        let b = eqb-true r.number m (and_parts (r.number == m) (has_reply k r) now).0 in
        sym a ∙ b
    by (inl here) (inr there) ih =
        let some = count_some (is_reply k) r.in_flight (and_parts (r.number == n) (has_reply k r) here).1 in
        let more = behind m there in
        let sum = both in
        absurd (omega (arith, some, more, sum))
    by (inr there) (inl here) ih =
        let some = count_some (is_reply k) r.in_flight (and_parts (r.number == m) (has_reply k r) here).1 in
        let more = behind n there in
        let sum = both in
        absurd (omega (arith, some, more, sum))
    by (inr there) (inr now) ih = ih there now

module _ (s : Stored) (k : ℕ) where
  abbrev here : State
  here = state_after (opening_state s.config) s.calls

  abbrev report : Call
  report = call.Sent k

  -- a report is refused of a reply that is not in flight alone
  flown_is : (n : ℕ) → in_flight s n k ≡ true → is_in_flight k here.core.queries.records ≡ true
  flown_is n flown = flies_in n k here.core.queries.records (sym (flying_is s n k) ∙ flown)

  pub refused_unflown : (r : Refusal) → answer_to s report ≡ refused_step r → (n : ℕ) → in_flight s n k ≡ false
  refused_unflown r refused n = by (in_flight s n k) refl
    where
      accepts : (b : Bool) → b ≡ true → RefusesBy (cond (not b) (Some refusal.NotInFlight) None) here report → is_accepted (step here report).outcome ≡ true
      accepts true e h = h
      accepts false e h = absurd (false≢true e)

      by : (b : Bool) → in_flight s n k ≡ b → b ≡ false
      by false e = refl
      by true e =
          let yes = accepts (is_in_flight k here.core.queries.records) (flown_is n e) (promises s.config s.calls report).refusals in
          let no = ap (λ (t : Step). is_accepted t.outcome) (sym (answer_is s report) ∙ refused) in
          absurd (false≢true (sym no ∙ yes))

  module _ (hs : List Handed) (answers : answer_to s report ≡ done hs) where
    accepted : is_accepted (step here report).outcome ≡ true
    accepted = ap (λ (t : Step). is_accepted t.outcome) (sym (answer_is s report) ∙ answers)

    -- the replies in flight are those that were, but for the one that is reported
    pub landed : (n j : ℕ) → in_flight (with_call s report) n j ≡ (in_flight s n j && not (is_reply k j))
    landed n j =
        flying_is (with_call s report) n j
        ∙ ap (λ (x : State). flies n j x.core.queries.records) (after_both s.calls (report ∷ []) (opening_state s.config))
        ∙ ((promises s.config s.calls report).waits accepted).replies n j
        ∙ ap (λ b. (flies n j here.core.queries.records && not (is_reply k j)) || b) (none_handed s.config s.calls k n j)
        ∙ or-false (flies n j here.core.queries.records && not (is_reply k j))
        ∙ ap (λ b. b && not (is_reply k j)) (sym (flying_is s n j))

    -- there is one less
    pub fewer : length (flights (standing (with_call s report))) < length (flights (standing s))
    fewer =
        let less = flights_less s.config s.calls k accepted in
        let new = ap (λ (x : State). length (flights x)) (standing_is (with_call s report) ∙ after_both s.calls (report ∷ []) (opening_state s.config)) in
        let old = ap (λ (x : State). length (flights x)) (standing_is s) in
        omega (arith, less, new, old)

    -- slots that were tied but for its request, which owns none, still are
    module _ (n : ℕ) (flown : in_flight s n k ≡ true) where
      pub other_stays : (m j : ℕ) → m ≢ n → in_flight s m j ≡ true → in_flight (with_call s report) m j ≡ true
      other_stays m j other flies_on =
          landed m j ∙ (λ i. flies_on i && not (ne_eqb j k apart i))
        where
          apart : j ≢ k
          apart e = other (one_request j m n here.core.queries.records (once s.config s.calls j) (sym (flying_is s m j) ∙ flies_on) (sym (flying_is s n j) ∙ (ap (in_flight s n) e ∙ flown)))

      pub report_keeps : KeepsTies s n (with_call s report)
      report_keeps m t waits unowned = (
        record {
          kept = t.kept;
          gone = λ i o mark owner. zero_if (waiting (with_call s report) o) (λ some. (let old = waits_still s report refl o some in let was = t.gone i o mark owner in absurd (omega (arith, old, was))));
          asked = λ i o owner. (let grows = next_grows s report in let was = t.asked i o owner in omega (arith, grows, was));
          opened = λ o stands. opened o (open_before s report o stands);
          lent = λ i some. lent i (t.lent i some);
          used = (let more = requests_more s.calls report in let was = t.used in omega (arith, more, was));
        },
        λ i o mark owner. waits_stays s report (λ e. refl) o (waits i o mark owner),
      )
        where
          opened : (o : ℕ) → IsOpen s o ⊎ ((asks_request report ≡ true) × ((answer_to s report).outcome ≡ outcome.Asked o) × (0 < waiting (with_call s report) o)) → 0 < owned o m.owners + stood o (Some n)
          opened o (inl old) = t.opened o old
          opened o (inr asked) = absurd (false≢true asked.0)

          lent : (i : ℕ) → IsSending s m i → IsSending (with_call s report) m i
          lent i was = (was.0, was.1, was.2, other_stays was.0 was.2 (λ e. (let some = has_owner was.0 m.owners i was.1 in let none = ap (λ o. owned o m.owners) e ∙ unowned in omega (arith, some, none))) was.3)
