-- How many replies are in flight: a call adds those that it hands, and a report takes its own away.
use Rattle.std.proofs.Common.{◌≡◌, ℕ, ◌+◌, ◌≤◌, Bool, true, false, cond, not, List, [], ◌∷◌, ◌++◌, length, Option, Some, None, refl, sym, ap, ◌∙◌, subst, arith, eqb-true, length-append, inl, inr}
use Rattle.std.specs.Prelude.{◌==◌, ◌||◌, ◌&&◌, ◌⊎◌}
use Rattle.std.specs.List.{AllByRecursion, cons_option, filter_map, list_any}
use Rattle.std.specs.Option.{is_some, option_map_or}
use Rattle.std.proofs.lemmas.Bool.{and_parts, and_right, eq-eqb, false≢true, or_cases, or_left, or_right, or_parts}
use Rattle.std.proofs.lemmas.List.Folds.{list_any-append}
use Rattle.zq_query.specs.Records.{Record, flies, has_reply, is_in_flight, is_reply}
use Rattle.zq_machine.specs.declared.call.Call.{Call}
use Rattle.zq_machine.specs.declared.call.Call.TheVariants as call
use Rattle.zq_machine.specs.declared.call.Refusal.{Refusal}
use Rattle.zq_machine.specs.declared.call.Refusal.TheVariants as refusal
use Rattle.zq_machine.specs.declared.call.Step.{Step}
use Rattle.zq_machine.specs.Agreeing.{all_in_flight, in_flight_of}
use Rattle.zq_machine.specs.Asked.{replies_of, reply_number}
use Rattle.zq_machine.specs.Configs.{Settings}
use Rattle.zq_machine.specs.Deciding.{is_accepted, refusal_of}
use Rattle.zq_machine.specs.Handing.{Handed}
use Rattle.zq_machine.specs.Headline.{IsFit, KeepsPromises, RefusesBy, may_hand, replies_to}
use Rattle.zq_machine.specs.Machine.{after, state_after, step}
use Rattle.zq_machine.specs.State.{State, opening_state}
use Rattle.zq_machine.specs.TextCalls.{read}
use Rattle.zq_machine.specs.Waiting.{hands_reply, is_of, lands}
use Rattle.zq_machine.proofs.Children.{after_both}
use Rattle.zq_machine.proofs.Kept.{headline}
use Rattle.zq_machine.proofs.Lists.{any_flat, count, count_more, count_none}
use Rattle.zq_shared.specs.Stored.{flights}
use Rattle.zq_shared.proofs.Distinct.{Distinct, IsWithin, fits}

-- ---- replies in flight, of some request
some_flies : (k : ℕ) (rs : List Record) → is_in_flight k rs ≡ true → (n : ℕ) × (flies n k rs ≡ true)
some_flies k [] h = absurd (false≢true h)
some_flies k (r ∷ rs) h = by (or_cases (has_reply k r) (is_in_flight k rs) h) (some_flies k rs)
  where
    by : ((has_reply k r ≡ true) ⊎ (is_in_flight k rs ≡ true)) → (is_in_flight k rs ≡ true → (n : ℕ) × (flies n k rs ≡ true)) → (n : ℕ) × (flies n k (r ∷ rs) ≡ true)
    by (inl here) ih = (r.number, (λ j. (eq-eqb r.number r.number refl j && here j) || flies r.number k rs))
    by (inr there) ih = let w = ih there in (w.0, or_right ((r.number == w.0) && has_reply k r) (flies w.0 k rs) w.1)

pub flies_in : (n k : ℕ) (rs : List Record) → flies n k rs ≡ true → is_in_flight k rs ≡ true
flies_in n k [] h = absurd (false≢true h)
flies_in n k (r ∷ rs) h = by (or_cases ((r.number == n) && has_reply k r) (flies n k rs) h) (flies_in n k rs)
  where
    by : ((((r.number == n) && has_reply k r) ≡ true) ⊎ (flies n k rs ≡ true)) → (flies n k rs ≡ true → is_in_flight k rs ≡ true) → is_in_flight k (r ∷ rs) ≡ true
    by (inl here) ih = or_left (has_reply k r) (is_in_flight k rs) (and_parts (r.number == n) (has_reply k r) here).1
    by (inr there) ih = or_right (has_reply k r) (is_in_flight k rs) (ih there)

-- a reply that is in flight stands in the list of all
pub all_have : (k : ℕ) (rs : List Record) → is_in_flight k rs ≡ list_any (is_reply k) (all_in_flight rs)
all_have k rs = any_flat (is_reply k) in_flight_of rs

-- a reply that is handed stands among the replies
pub handed_in : (n k : ℕ) (hs : List Handed) → list_any (hands_reply n k) hs ≡ true → list_any (is_reply k) (filter_map reply_number hs) ≡ true
handed_in n k [] h = absurd (false≢true h)
handed_in n k (x ∷ xs) h = by x.reply (or_cases (hands_reply n k x) (list_any (hands_reply n k) xs) h) (handed_in n k xs)
  where
    by : (o : Option ℕ) → (((is_of n x && option_map_or (is_reply k) o false) ≡ true) ⊎ (list_any (hands_reply n k) xs ≡ true))
        → (list_any (hands_reply n k) xs ≡ true → list_any (is_reply k) (filter_map reply_number xs) ≡ true) → list_any (is_reply k) (cons_option o (filter_map reply_number xs)) ≡ true
    by None (inl here) ih = absurd (false≢true (sym (and_right (is_of n x) false refl) ∙ here))
    by None (inr there) ih = ih there
    by (Some m) (inl here) ih = or_left (m == k) (list_any (is_reply k) (filter_map reply_number xs)) (and_parts (is_of n x) (m == k) here).1
    by (Some m) (inr there) ih = or_right (m == k) (list_any (is_reply k) (filter_map reply_number xs)) (ih there)

-- ---- which calls hand replies
fit_quiet : (may : _) (hs : List Handed) → AllByRecursion (IsFit may) hs → list_any replies_to hs ≡ false → filter_map reply_number hs ≡ []
fit_quiet may [] all none = refl
fit_quiet may (h ∷ hs) all none =
    let parts = or_parts (replies_to h) (list_any replies_to hs) none in
    by h.reply (all.0.flying ∙ parts.0) (fit_quiet may hs all.1 parts.1)
  where
    by : (o : Option ℕ) → is_some o ≡ false → filter_map reply_number hs ≡ [] → cons_option o (filter_map reply_number hs) ≡ []
    by None e rest = rest
    by (Some k) e rest = absurd (false≢true (sym e))

module _ (config : Settings) (calls : List Call) where
  abbrev here : State
  here = state_after (opening_state config) calls

  pub promises : (c : Call) → KeepsPromises here c
  promises c = (headline config (calls ++ c ∷ [])).each calls [] c refl

  pub refusals : (c : Call) → RefusesBy (refusal_of here.core (read here c)) here c
  refusals c = (promises c).refusals

  pub settings : here.core.config ≡ config
  settings = (headline config calls).settings

  pub once : Distinct (flights here)
  once = (headline config calls).agrees.numbered.flights

  pub quiet : (c : Call) → list_any replies_to (step here c).handed ≡ false → replies_of (step here c) ≡ []
  quiet c none = fit_quiet (may_hand c) (step here c).handed (promises c).fit none

  module _ (c : Call) where
    distinct_after : Distinct (flights (after here c))
    distinct_after = subst (λ (s : State). Distinct (flights s)) (after_both calls (c ∷ []) (opening_state config)) ((headline config (calls ++ c ∷ [])).agrees.numbered.flights)

    known : (n k : ℕ) → (((flies n k here.core.queries.records && not (lands c k)) ≡ true) ⊎ (list_any (hands_reply n k) (step here c).handed ≡ true))
        → (list_any (is_reply k) (flights here) || list_any (is_reply k) (replies_of (step here c))) ≡ true
    known n k (inl before) =
        or_left (list_any (is_reply k) (flights here)) (list_any (is_reply k) (replies_of (step here c)))
        (sym (all_have k here.core.queries.records) ∙ flies_in n k here.core.queries.records (and_parts (flies n k here.core.queries.records) (not (lands c k)) before).0)
    known n k (inr new) = or_right (list_any (is_reply k) (flights here)) (list_any (is_reply k) (replies_of (step here c))) (handed_in n k (step here c).handed new)

    added : is_accepted (step here c).outcome ≡ true → IsWithin (flights (after here c)) (flights here ++ replies_of (step here c))
    added accepts k h =
        let f = some_flies k (after here c).core.queries.records (all_have k (after here c).core.queries.records ∙ h) in
        let w = sym (((promises c).waits accepts).replies f.0 k) ∙ f.1 in
        list_any-append (is_reply k) (flights here) (replies_of (step here c))
        ∙ known f.0 k (or_cases (flies f.0 k here.core.queries.records && not (lands c k)) (list_any (hands_reply f.0 k) (step here c).handed) w)

    more_by : (o : Option Refusal) → RefusesBy o here c → length (flights (after here c)) ≤ length (flights here) + length (replies_of (step here c))
    more_by None accepts =
        let few = fits (flights (after here c)) (flights here ++ replies_of (step here c)) distinct_after (added accepts) in
        let long = length-append (flights here) (replies_of (step here c)) in
        omega (arith, few, long)
    more_by (Some r) refuses = let same = ap (λ (s : State). length (flights s)) refuses.1 in omega (arith, same)

    -- a call adds no more than it hands
    pub flights_more : length (flights (after here c)) ≤ length (flights here) + length (replies_of (step here c))
    flights_more = more_by (refusal_of here.core (read here c)) (promises c).refusals

  -- ---- a report
  module _ (k : ℕ) where
    abbrev report : Call
    report = call.Sent k

    flown : is_accepted (step here report).outcome ≡ true → is_in_flight k here.core.queries.records ≡ true
    flown accepts = by (is_in_flight k here.core.queries.records) refl (promises report).refusals
      where
        by : (b : Bool) → is_in_flight k here.core.queries.records ≡ b → RefusesBy (cond (not b) (Some refusal.NotInFlight) None) here report → b ≡ true
        by true e h = refl
        by false e h = absurd (false≢true (sym (ap (λ (t : Step). is_accepted t.outcome) h.0) ∙ accepts))

    pub none_handed : (n j : ℕ) → list_any (hands_reply n j) (step here report).handed ≡ false
    none_handed n j = by (list_any (hands_reply n j) (step here report).handed) refl
      where
        by : (b : Bool) → list_any (hands_reply n j) (step here report).handed ≡ b → b ≡ false
        by false e = refl
        by true e = absurd (false≢true (sym (ap (λ (l : List ℕ). list_any (is_reply j) l) (quiet report (promises report).replies)) ∙ handed_in n j (step here report).handed e))

    module _ (accepts : is_accepted (step here report).outcome ≡ true) where
      still : (n j : ℕ) → flies n j (after here report).core.queries.records ≡ true → (flies n j here.core.queries.records ≡ true) × (not (is_reply k j) ≡ true)
      still n j h = by (or_cases (flies n j here.core.queries.records && not (is_reply k j)) (list_any (hands_reply n j) (step here report).handed) (sym (((promises report).waits accepts).replies n j) ∙ h))
        where
          by : (((flies n j here.core.queries.records && not (is_reply k j)) ≡ true) ⊎ (list_any (hands_reply n j) (step here report).handed ≡ true))
              → (flies n j here.core.queries.records ≡ true) × (not (is_reply k j) ≡ true)
          by (inl h) = and_parts (flies n j here.core.queries.records) (not (is_reply k j)) h
          by (inr h) = absurd (false≢true (sym (none_handed n j) ∙ h))

      remains : (j : ℕ) → list_any (is_reply j) (flights (after here report)) ≡ true → (list_any (is_reply j) (flights here) ≡ true) × (not (is_reply k j) ≡ true)
      remains j h =
          let f = some_flies j (after here report).core.queries.records (all_have j (after here report).core.queries.records ∙ h) in
          let s = still f.0 j f.1 in
          (sym (all_have j here.core.queries.records) ∙ flies_in f.0 j here.core.queries.records s.0, s.1)

      within_before : IsWithin (k ∷ flights (after here report)) (flights here)
      within_before j h = by (or_cases (k == j) (list_any (is_reply j) (flights (after here report))) h)
        where
          by : (((k == j) ≡ true) ⊎ (list_any (is_reply j) (flights (after here report)) ≡ true)) → list_any (is_reply j) (flights here) ≡ true
          by (inl same) = subst (λ i. list_any (is_reply i) (flights here) ≡ true) (eqb-true k j same) (sym (all_have k here.core.queries.records) ∙ flown accepts)
          by (inr there) = (remains j there).0

      distinct_report : Distinct (flights (after here report))
      distinct_report = subst (λ (s : State). Distinct (flights s)) (after_both calls (report ∷ []) (opening_state config)) ((headline config (calls ++ report ∷ [])).agrees.numbered.flights)

      distinct_more : Distinct (k ∷ flights (after here report))
      distinct_more j = by (k == j) refl
        where
          by : (b : Bool) → (k == j) ≡ b → count (is_reply j) (k ∷ flights (after here report)) ≤ 1
          by false e =
              let more = count_more (is_reply j) k (flights (after here report)) ∙ ap (λ b. count (is_reply j) (flights (after here report)) + cond b 1 0) e in
              let one = distinct_report j in
              omega (arith, more, one)
          by true e =
              let more = count_more (is_reply j) k (flights (after here report)) ∙ ap (λ b. count (is_reply j) (flights (after here report)) + cond b 1 0) e in
              let none = count_none (is_reply j) (flights (after here report)) (gone (list_any (is_reply j) (flights (after here report))) refl) in
              omega (arith, more, none)
            where
              gone : (b : Bool) → list_any (is_reply j) (flights (after here report)) ≡ b → b ≡ false
              gone false f = refl
              gone true f = absurd (false≢true (sym (ap not (eq-eqb j k (sym (eqb-true k j e)))) ∙ (remains j f).1))

      -- takes one reply away
      pub flights_less : length (flights (after here report)) + 1 ≤ length (flights here)
      flights_less = let few = fits (k ∷ flights (after here report)) (flights here) distinct_more within_before in omega (arith, few)
