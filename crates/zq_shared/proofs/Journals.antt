-- A gateway beside its calls, once one more is made.
use Rattle.std.proofs.Common.{◌≡◌, ℕ, ◌+◌, ◌<◌, ◌≤◌, Bool, true, false, cond, List, [], ◌∷◌, ◌++◌, length, get_or, take, Option, Some, None, refl, sym, ap, ◌∙◌, arith}
use Rattle.std.specs.List.{cons_option, count_by, filter, filter_map}
use Rattle.std.specs.Option.{is_some}
use Rattle.std.proofs.lemmas.Bool.{false≢true}
use Rattle.std.proofs.lemmas.List.{length-take-le}
use Rattle.std.proofs.lemmas.List.Sums.{count_by-le-length, count_by_more_no, count_by_more_yes, length-filter}
use Rattle.zq_machine.specs.declared.call.Call.{Call}
use Rattle.zq_machine.specs.declared.call.Call.TheVariants as call
use Rattle.zq_machine.specs.declared.call.Refusal.{Refusal}
use Rattle.zq_machine.specs.declared.call.Step.{Step}
use Rattle.zq_machine.specs.Asked.{replies_of, reply_number}
use Rattle.zq_machine.specs.Configs.{Settings}
use Rattle.zq_machine.specs.Deciding.{is_accepted, refusal_of}
use Rattle.zq_machine.specs.Handing.{Handed}
use Rattle.zq_machine.specs.Headline.{RefusesBy}
use Rattle.zq_machine.specs.Machine.{after, refused_step, state_after, step}
use Rattle.zq_machine.specs.State.{State, opening_state}
use Rattle.zq_machine.specs.TextCalls.{read}
use Rattle.zq_machine.proofs.Children.{after_both}
use Rattle.zq_shared.specs.Stored.{IsStored, Stored, answer_to, flights, is_flying, standing}
use Rattle.zq_shared.proofs.Flights.{flights_less, flights_more, refusals}

-- ---- what the words say
pub standing_is : (s : Stored) → standing s ≡ state_after (opening_state s.config) s.calls
unfolding standing
standing_is s = refl

pub answer_is : (s : Stored) (c : Call) → answer_to s c ≡ step (state_after (opening_state s.config) s.calls) c
unfolding answer_to standing
answer_is s c = refl

-- ---- replies, counted
pub counted_more : (xs : List Handed) (i : ℕ) (d : Handed) → i < length xs → cond (is_flying (get_or xs i d)) (count_by is_flying (take i xs) + 1) (count_by is_flying (take i xs)) ≡ count_by is_flying (take (i + 1) xs)
counted_more xs i d l = by (is_flying (get_or xs i d)) refl
  where
    by : (b : Bool) → is_flying (get_or xs i d) ≡ b → cond b (count_by is_flying (take i xs) + 1) (count_by is_flying (take i xs)) ≡ count_by is_flying (take (i + 1) xs)
    by true e = sym (count_by_more_yes is_flying xs i d l e)
    by false e = sym (count_by_more_no is_flying xs i d l e)

pub few_counted : (xs : List Handed) (i : ℕ) → i ≤ length xs → count_by is_flying (take i xs) ≤ i
few_counted xs i l = let a = count_by-le-length is_flying (take i xs) in let b = length-take-le i xs l in omega (arith, a, b)

filtered : (hs : List Handed) → length (filter is_flying hs) ≡ length (filter_map reply_number hs)
filtered [] = refl
filtered (h ∷ hs) = by h.reply (filtered hs)
  where
    by : (o : Option ℕ) → length (filter is_flying hs) ≡ length (filter_map reply_number hs) → length (cond (is_some o) (h ∷ filter is_flying hs) (filter is_flying hs)) ≡ length (cons_option o (filter_map reply_number hs))
    by None ih = ih
    by (Some k) ih = omega (arith, ih)

pub all_counted : (hs : List Handed) → count_by is_flying hs ≡ length (filter_map reply_number hs)
all_counted hs = sym (length-filter is_flying hs) ∙ filtered hs

-- ---- one more call
module _ (config : Settings) (gateway : State) (calls : List Call) (flying stored capacity : ℕ) (is : IsStored config gateway calls flying stored capacity) where
  stands_more : (c : Call) (new : State) → new ≡ after gateway c → new ≡ state_after (opening_state config) (calls ++ c ∷ [])
  stands_more c new e = e ∙ (ap (λ (s : State). after s c) is.stands ∙ sym (after_both calls (c ∷ []) (opening_state config)))

  pub stored_more : (c : Call) (new : State) (more count stored' capacity' : ℕ) → new ≡ after gateway c → length (replies_of (step gateway c)) ≤ more → count ≡ length (replies_of (step gateway c))
      → stored + (flying + more + 1) ≤ capacity' → stored' ≡ stored + 1 → IsStored config new (calls ++ c ∷ []) (flying + count) stored' capacity'
  stored_more c new more count stored' capacity' e few counts room one = record {
    stands = stands_more c new e;
    flown =
        let grown = flights_more config calls c in
        let moved = ap (λ (s : State). length (flights s)) (e ∙ ap (λ (s : State). after s c) is.stands) in
        let same = ap (λ (s : State). length (flights s)) is.stands in
        let handed = ap (λ (s : State). length (replies_of (step s c))) is.stands in
        let was = is.flown in
        omega (arith, grown, moved, same, handed, was, counts);
    room = omega (arith, few, counts, room, one);
  }

  module _ (k : ℕ) where
    module _ (accepts : is_accepted (step gateway (call.Sent k)).outcome ≡ true) where
      less : length (flights (state_after (opening_state config) (calls ++ call.Sent k ∷ []))) + 1 ≤ flying
      less =
          let fewer = flights_less config calls k (ap (λ (s : State). is_accepted (step s (call.Sent k)).outcome) (sym is.stands) ∙ accepts) in
          let moved = ap (λ (s : State). length (flights s)) (after_both calls (call.Sent k ∷ []) (opening_state config)) in
          let same = ap (λ (s : State). length (flights s)) is.stands in
          let was = is.flown in
          omega (arith, fewer, moved, same, was)

      -- a reply that is reported was in flight, and there is room for the report
      pub flying_some : (0 < flying) × (stored < capacity)
      flying_some = let l = less in let r = is.room in (omega (arith, l), omega (arith, l, r))

      pub stored_less : (new : State) (flying' stored' : ℕ) → new ≡ after gateway (call.Sent k) → flying' + 1 ≡ flying → stored' ≡ stored + 1
          → IsStored config new (calls ++ call.Sent k ∷ []) flying' stored' capacity
      stored_less new flying' stored' e f one = record {
        stands = stands_more (call.Sent k) new e;
        flown = (let l = less in let moved = ap (λ (s : State). length (flights s)) (stands_more (call.Sent k) new e) in omega (arith, l, moved, f));
        room = (let r = is.room in omega (arith, r, f, one));
      }

    -- a report that is refused changes nothing
    pub stored_same : (new : State) (r : Refusal) → new ≡ after gateway (call.Sent k) → step gateway (call.Sent k) ≡ refused_step r → new ≡ gateway
    stored_same new r e refused = by (refusal_of (state_after (opening_state config) calls).core (read (state_after (opening_state config) calls) (call.Sent k))) (refusals config calls (call.Sent k))
      where
        by : (o : Option Refusal) → RefusesBy o (state_after (opening_state config) calls) (call.Sent k) → new ≡ gateway
        by None accepts = absurd (false≢true (sym (ap (λ (t : Step). is_accepted t.outcome) refused) ∙ (ap (λ (s : State). is_accepted (step s (call.Sent k)).outcome) is.stands ∙ accepts)))
        by (Some x) refuses = e ∙ (ap (λ (s : State). after s (call.Sent k)) is.stands ∙ (refuses.1 ∙ sym is.stands))
