-- What one more stored call makes of what requests wait for.
use Rattle.std.proofs.Common.{◌≡◌, ℕ, ◌+◌, ◌<◌, ◌≤◌, Bool, true, false, [], ◌∷◌, length, refl, sym, ap, ◌∙◌, subst, arith, inl, inr}
use Rattle.std.specs.Prelude.{◌⊎◌}
use Rattle.std.specs.List.{list_any}
use Rattle.zq_query.specs.Records.{Pending, flies, pending_count}
use Rattle.zq_machine.specs.declared.call.Call.{Call}
use Rattle.zq_machine.specs.declared.call.Outcome.TheVariants as outcome
use Rattle.zq_machine.specs.declared.call.Step.{Step}
use Rattle.zq_machine.specs.Asked.{asked_in}
use Rattle.zq_machine.specs.Calls.{is_sent}
use Rattle.zq_machine.specs.Deciding.{is_accepted}
use Rattle.zq_machine.specs.Machine.{after, state_after, step, steps}
use Rattle.zq_machine.specs.State.{State, opening_state}
use Rattle.zq_machine.specs.Waiting.{ends_entry, hands_reply}
use Rattle.zq_machine.proofs.Children.{after_both}
use Rattle.zq_shared.specs.Stored.{IsOpen, Stored, answer_to, asks_request, in_flight, next_request, standing, waiting, with_call}
use Rattle.zq_shared.proofs.Frames.{asked_more, asked_next, asked_one, asked_outcome, flying_before, flying_stays, handed_flies, lands_none, pending_before, pending_stays}
use Rattle.zq_shared.proofs.Journals.{answer_is}

abbrev state_of : Stored → State
state_of s = state_after (opening_state s.config) s.calls

pub waiting_is : (s : Stored) (n : ℕ) → waiting s n ≡ pending_count n (state_of s).core.queries.records
unfolding waiting standing
waiting_is s n = refl

pub flying_is : (s : Stored) (n k : ℕ) → in_flight s n k ≡ flies n k (state_of s).core.queries.records
unfolding in_flight standing
flying_is s n k = refl

next_is : (s : Stored) → next_request s ≡ s.config.start.requests + length (asked_in s.calls (steps s.config s.calls))
unfolding next_request
next_is s = refl

module _ (s : Stored) (c : Call) where
  abbrev new : Stored
  new = with_call s c

  waiting_new : (n : ℕ) → waiting new n ≡ pending_count n (after (state_of s) c).core.queries.records
  waiting_new n = waiting_is new n ∙ ap (λ (x : State). pending_count n x.core.queries.records) (after_both s.calls (c ∷ []) (opening_state s.config))

  flying_new : (n k : ℕ) → in_flight new n k ≡ flies n k (after (state_of s) c).core.queries.records
  flying_new n k = flying_is new n k ∙ ap (λ (x : State). flies n k x.core.queries.records) (after_both s.calls (c ∷ []) (opening_state s.config))

  -- what is pending was so before, or is of the request that the call asks
  pub waits_before : (n : ℕ) → 0 < waiting new n → (0 < waiting s n) ⊎ ((asks_request c ≡ true) × ((answer_to s c).outcome ≡ outcome.Asked n))
  waits_before n some = by (pending_before s.config s.calls c n (subst (λ x. 0 < x) (waiting_new n) some))
    where
      by : ((0 < pending_count n (state_of s).core.queries.records) ⊎ ((is_accepted (step (state_of s) c).outcome ≡ true) × (asks_request c ≡ true) × (n ≡ (state_of s).core.queries.requests))) → (0 < waiting s n) ⊎ ((asks_request c ≡ true) × ((answer_to s c).outcome ≡ outcome.Asked n))
      by (inl old) = inl (subst (λ x. 0 < x) (sym (waiting_is s n)) old)
      by (inr asked) = inr (asked.1, ap (λ (t : Step). t.outcome) (answer_is s c) ∙ (asked_outcome s.config s.calls c asked.1 asked.0 ∙ ap (λ m. outcome.Asked m) (sym asked.2)))

  -- a call that asks nothing puts in no entry
  pub waits_still : asks_request c ≡ false → (n : ℕ) → 0 < waiting new n → 0 < waiting s n
  waits_still none n some = by (waits_before n some)
    where
      by : ((0 < waiting s n) ⊎ ((asks_request c ≡ true) × ((answer_to s c).outcome ≡ outcome.Asked n))) → 0 < waiting s n
      by (inl old) = old
      by (inr asked) = let clash : ◌≡◌ {A = Bool} false true = sym none ∙ asked.0 in absurd (cc)

  -- what is pending stays, where the call ends nothing
  pub waits_stays : ((e : Pending) → ends_entry c e ≡ false) → (n : ℕ) → 0 < waiting s n → 0 < waiting new n
  waits_stays none n some = subst (λ x. 0 < x) (sym (waiting_new n)) (pending_stays s.config s.calls c none n (subst (λ x. 0 < x) (waiting_is s n) some))

  -- a reply in flight was so before, or an entry of its request was pending
  pub flies_before : (n k : ℕ) → in_flight new n k ≡ true → (in_flight s n k ≡ true) ⊎ (0 < waiting s n)
  flies_before n k flown = by (flying_before s.config s.calls c n k (sym (flying_new n k) ∙ flown))
    where
      by : ((flies n k (state_of s).core.queries.records ≡ true) ⊎ (0 < pending_count n (state_of s).core.queries.records)) → (in_flight s n k ≡ true) ⊎ (0 < waiting s n)
      by (inl old) = inl (flying_is s n k ∙ old)
      by (inr some) = inr (subst (λ x. 0 < x) (sym (waiting_is s n)) some)

  -- a reply in flight stays so, where the call reports none
  pub flies_stays : is_sent c ≡ false → (n k : ℕ) → in_flight s n k ≡ true → in_flight new n k ≡ true
  flies_stays none n k flown = flying_new n k ∙ flying_stays s.config s.calls c n k (lands_none c none k) (sym (flying_is s n k) ∙ flown)

  -- a reply that is handed is in flight, and an entry of its request was pending
  pub handed_waits : (n k : ℕ) → list_any (hands_reply n k) (answer_to s c).handed ≡ true → (in_flight new n k ≡ true) × (0 < waiting s n)
  handed_waits n k handed =
      let f = handed_flies s.config s.calls c n k (ap (λ (t : Step). list_any (hands_reply n k) t.handed) (sym (answer_is s c)) ∙ handed) in
      (flying_new n k ∙ f.0, subst (λ x. 0 < x) (sym (waiting_is s n)) f.1)

  -- an open request was open before, or is the one that the call asks
  pub open_before : (n : ℕ) → IsOpen new n → IsOpen s n ⊎ ((asks_request c ≡ true) × ((answer_to s c).outcome ≡ outcome.Asked n) × (0 < waiting new n))
  open_before n (inl some) = by (waits_before n some)
    where
      by : ((0 < waiting s n) ⊎ ((asks_request c ≡ true) × ((answer_to s c).outcome ≡ outcome.Asked n))) → IsOpen s n ⊎ ((asks_request c ≡ true) × ((answer_to s c).outcome ≡ outcome.Asked n) × (0 < waiting new n))
      by (inl old) = inl (inl old)
      by (inr asked) = inr (asked.0, asked.1, some)
  open_before n (inr flown) = by (flies_before n flown.0 flown.1)
    where
      by : ((in_flight s n flown.0 ≡ true) ⊎ (0 < waiting s n)) → IsOpen s n ⊎ ((asks_request c ≡ true) × ((answer_to s c).outcome ≡ outcome.Asked n) × (0 < waiting new n))
      by (inl old) = inl (inr (flown.0, old))
      by (inr some) = inl (inl some)

  -- the numbers of requests go up, and the next is given to the request that is asked
  pub next_grows : next_request s ≤ next_request new
  next_grows =
      let was = next_is s in let is = next_is new in let more = asked_more s.config s.calls c in
      omega (arith, was, is, more)

  pub next_given : (n : ℕ) → asks_request c ≡ true → (answer_to s c).outcome ≡ outcome.Asked n → (n ≡ next_request s) × (n < next_request new)
  next_given n asking is =
      let here = ap (λ (t : Step). t.outcome) (sym (answer_is s c)) ∙ is in
      let mine = asked_next s.config s.calls c n asking here in
      let was = next_is s in let now = next_is new in let more = asked_more s.config s.calls c in let one = asked_one s.config s.calls c n asking here in
      (mine ∙ sym was, omega (arith, mine, now, more, one))
