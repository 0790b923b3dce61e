-- What is pending and what is in flight, by a run's trace, is what the machine's records have.
use Rattle.std.proofs.Common.{◌≡◌, ◌∙◌, refl, sym, ap, subst, ℕ, Bool, true, false, not, List, [], ◌∷◌, ◌++◌, Option, Some, None, true≢false, eqb-true}
use Rattle.std.specs.Prelude.{◌==◌, ◌&&◌, ◌||◌, if◌then◌else◌}
use Rattle.std.specs.List.{cons_option, filter, filter_map, list_any}
use Rattle.std.specs.Option.{is_some, option_and_then, option_map, option_map_or}
use Rattle.std.proofs.lemmas.List.Folds.{list_any-append}
use Rattle.std.proofs.lemmas.Map.Views.{any-filter_same}
use Rattle.zq_message.specs.declared.message.Message.{Message}
use Rattle.zq_message.specs.declared.message.Message.TheVariants as message
use Rattle.zq_query.specs.Records.{Pending, flies, is_reply}
use Rattle.zq_machine.specs.declared.call.Call.{Call}
use Rattle.zq_machine.specs.declared.call.Call.TheVariants as call
use Rattle.zq_machine.specs.declared.call.Refusal.{Refusal}
use Rattle.zq_machine.specs.declared.call.Step.{Step}
use Rattle.zq_machine.specs.Handing.{Handed}
use Rattle.zq_machine.specs.Configs.{Settings}
use Rattle.zq_machine.specs.State.{State}
use Rattle.zq_machine.specs.Deciding.{is_accepted, refusal_of}
use Rattle.zq_machine.specs.Machine.{after, step}
use Rattle.zq_machine.specs.TextCalls.{read}
use Rattle.zq_machine.specs.Waiting.{asks_entry, ends_entry, gives, hands_reply, is_same, lands, owes, until}
use Rattle.zq_machine.specs.Headline.{KeepsPromises, RefusesBy}
use Rattle.zq_trace.specs.Faces.{Trace}
use Rattle.zq_trace.specs.Awaited.{Owed, deadline, flight, in_flight, owed, owed_by, pending}
use Rattle.zq_trace.proofs.Runs.{IsRun, call_promise, reached, run_promise, state_of}

-- ---- the tests
abbrev pub is_owed : ℕ → Pending → Owed → Bool
is_owed n e x = (x.0 == n) && is_same e x.1

abbrev pub is_flight : ℕ → ℕ → ℕ × ℕ → Bool
is_flight n k x = (x.0 == n) && is_reply k x.1

and_parts : (a b : Bool) → (a && b) ≡ true → (a ≡ true) × (b ≡ true)
and_parts true b h = (refl, h)
and_parts false b h = absurd (true≢false (sym h))

and_none : (b : Bool) → (b && false) ≡ false
and_none true = refl
and_none false = refl

-- the same entry, whatever its parts are called
pub same_is : (e p : Pending) → is_same e p ≡ true → p ≡ e
same_is e p h =
    let a = and_parts (p.face == e.face) ((p.id == e.id) && (p.deadline == e.deadline)) h in
    let b = and_parts (p.id == e.id) (p.deadline == e.deadline) a.1 in
    let face : p.face ≡ e.face = eqb-true p.face e.face a.0 in
    let id : p.id ≡ e.id = eqb-true p.id e.id b.0 in
    let moment : p.deadline ≡ e.deadline = eqb-true p.deadline e.deadline b.1 in
    λ j. record { face = face j; id = id j; deadline = moment j }

-- ---- what is handed
module _ (moment n : ℕ) (e : Pending) where
  one_given : (to : ℕ) (o : Option ℕ) (b : Bool) (m : Message) (l : List Owed)
      → list_any (is_owed n e) (cons_option (if b then option_and_then (λ k. owed_by moment to k m) o else None) l) ≡ ((option_map_or (λ k. k == n) o false && (b && asks_entry moment to e m)) || list_any (is_owed n e) l)
  one_given to None true m l = refl
  one_given to None false m l = refl
  one_given to (Some k) false m l = ap (λ b. b || list_any (is_owed n e) l) (sym (and_none (k == n)))
  one_given to (Some k) true (message.Request r) l = refl
  one_given to (Some k) true (message.Response r) l = ap (λ b. b || list_any (is_owed n e) l) (sym (and_none (k == n)))
  one_given to (Some k) true (message.ResponseFinal r) l = ap (λ b. b || list_any (is_owed n e) l) (sym (and_none (k == n)))
  one_given to (Some k) true (message.Interest r) l = ap (λ b. b || list_any (is_owed n e) l) (sym (and_none (k == n)))
  one_given to (Some k) true (message.InterestFinal r) l = ap (λ b. b || list_any (is_owed n e) l) (sym (and_none (k == n)))
  one_given to (Some k) true (message.Declare r) l = ap (λ b. b || list_any (is_owed n e) l) (sym (and_none (k == n)))

  pub given_alike : (hs : List Handed) → list_any (is_owed n e) (filter_map (owed moment) hs) ≡ list_any (gives moment n e) hs
  given_alike [] = refl
  given_alike (h ∷ hs) = one_given h.to.0 h.number (is_some h.leaves) h.message (filter_map (owed moment) hs) ∙ ap (λ b. gives moment n e h || b) (given_alike hs)

module _ (n k : ℕ) where
  one_flown : (o p : Option ℕ) (l : List (ℕ × ℕ))
      → list_any (is_flight n k) (cons_option (option_and_then (λ (m : ℕ). option_map (λ (r : ℕ). (m, r)) p) o) l) ≡ ((option_map_or (λ m. m == n) o false && option_map_or (is_reply k) p false) || list_any (is_flight n k) l)
  one_flown None p l = refl
  one_flown (Some m) None l = ap (λ b. b || list_any (is_flight n k) l) (sym (and_none (m == n)))
  one_flown (Some m) (Some r) l = refl

  pub flown_alike : (hs : List Handed) → list_any (is_flight n k) (filter_map flight hs) ≡ list_any (hands_reply n k) hs
  flown_alike [] = refl
  flown_alike (h ∷ hs) = one_flown h.number h.reply (filter_map flight hs) ∙ ap (λ b. hands_reply n k h || b) (flown_alike hs)

-- ---- a refused call changes nothing
pub refused_stays : (s : State) (c : Call) → KeepsPromises s c → is_accepted (step s c).outcome ≡ false → after s c ≡ s
refused_stays s c k h = by (refusal_of s.core (read s c)) k.refusals
  where
    by : (o : Option Refusal) → RefusesBy o s c → after s c ≡ s
    by None fine = absurd (true≢false (sym fine ∙ h))
    by (Some r) told = told.1

-- the configuration stays
pub config_stays : (config : Settings) (past : Trace) → (reached config past).core.config ≡ config
config_stays config past = ap (λ (s : State). s.core.config) (sym (state_of config past)) ∙ (run_promise config past).settings

until_is : (config : Settings) (s : State) (c : Call) → s.core.config ≡ config → until s c ≡ deadline config c
until_is config s (call.Request face r now) e = ap (λ (g : Settings). deadline g (call.Request face r now)) e
until_is config s c e = refl

-- ---- a call
module _ (config : Settings) (past : Trace) (s : State) (c : Call) (same : s.core.config ≡ config) (k : KeepsPromises s c) where
  entries_step : (n : ℕ) (e : Pending) → owes n e s.core.queries.records ≡ list_any (is_owed n e) (pending config past) → owes n e (after s c).core.queries.records ≡ list_any (is_owed n e) (pending config ((c, step s c) ∷ past))
  entries_step n e tie = by (is_accepted (step s c).outcome) refl
    where
      kept : (x : Owed) → is_owed n e x ≡ true → not (ends_entry c x.1) ≡ not (ends_entry c e)
      kept x h = ap (λ p. not (ends_entry c p)) (same_is e x.1 (and_parts (x.0 == n) (is_same e x.1) h).1)

      swapped : (a b : Bool) → (a && b) ≡ (b && a)
      swapped true true = refl
      swapped true false = refl
      swapped false true = refl
      swapped false false = refl

      by : (b : Bool) → is_accepted (step s c).outcome ≡ b
          → owes n e (after s c).core.queries.records ≡ list_any (is_owed n e) (if b then filter (λ (x : Owed). not (ends_entry c x.1)) (pending config past) ++ filter_map (owed (deadline config c)) (step s c).handed else pending config past)
      by true h =
          (k.waits h).entries n e
          ∙ ap (λ b. (b && not (ends_entry c e)) || list_any (gives (until s c) n e) (step s c).handed) tie
          ∙ ap (λ m. (list_any (is_owed n e) (pending config past) && not (ends_entry c e)) || list_any (gives m n e) (step s c).handed) (until_is config s c same)
          ∙ (λ j. (swapped (list_any (is_owed n e) (pending config past)) (not (ends_entry c e)) ∙ sym (any-filter_same (is_owed n e) (λ (x : Owed). not (ends_entry c x.1)) (not (ends_entry c e)) kept (pending config past))) j || sym (given_alike (deadline config c) n e (step s c).handed) j)
          ∙ sym (list_any-append (is_owed n e) (filter (λ (x : Owed). not (ends_entry c x.1)) (pending config past)) (filter_map (owed (deadline config c)) (step s c).handed))
      by false h = ap (λ (z : State). owes n e z.core.queries.records) (refused_stays s c k h) ∙ tie

  flights_step : (n r : ℕ) → flies n r s.core.queries.records ≡ list_any (is_flight n r) (in_flight past) → flies n r (after s c).core.queries.records ≡ list_any (is_flight n r) (in_flight ((c, step s c) ∷ past))
  flights_step n r tie = by (is_accepted (step s c).outcome) refl
    where
      kept : (x : ℕ × ℕ) → is_flight n r x ≡ true → not (lands c x.1) ≡ not (lands c r)
      kept x h = ap (λ p. not (lands c p)) (eqb-true x.1 r (and_parts (x.0 == n) (is_reply r x.1) h).1)

      swapped : (a b : Bool) → (a && b) ≡ (b && a)
      swapped true true = refl
      swapped true false = refl
      swapped false true = refl
      swapped false false = refl

      by : (b : Bool) → is_accepted (step s c).outcome ≡ b
          → flies n r (after s c).core.queries.records ≡ list_any (is_flight n r) (if b then filter (λ (x : ℕ × ℕ). not (lands c x.1)) (in_flight past) ++ filter_map flight (step s c).handed else in_flight past)
      by true h =
          (k.waits h).replies n r
          ∙ ap (λ b. (b && not (lands c r)) || list_any (hands_reply n r) (step s c).handed) tie
          ∙ (λ j. (swapped (list_any (is_flight n r) (in_flight past)) (not (lands c r)) ∙ sym (any-filter_same (is_flight n r) (λ (x : ℕ × ℕ). not (lands c x.1)) (not (lands c r)) kept (in_flight past))) j || sym (flown_alike n r (step s c).handed) j)
          ∙ sym (list_any-append (is_flight n r) (filter (λ (x : ℕ × ℕ). not (lands c x.1)) (in_flight past)) (filter_map flight (step s c).handed))
      by false h = ap (λ (z : State). flies n r z.core.queries.records) (refused_stays s c k h) ∙ tie

-- ---- runs
pub entries_alike : (config : Settings) (past : Trace) → IsRun config past → (n : ℕ) (e : Pending) → owes n e (reached config past).core.queries.records ≡ list_any (is_owed n e) (pending config past)
entries_alike config [] run n e = refl
entries_alike config (x ∷ past) run n e =
    subst (λ (t : Step). owes n e (after (reached config past) x.0).core.queries.records ≡ list_any (is_owed n e) (pending config ((x.0, t) ∷ past))) (sym run.0)
    (entries_step config past (reached config past) x.0 (config_stays config past) (call_promise config past x.0) n e (entries_alike config past run.1 n e))

pub flights_alike : (config : Settings) (past : Trace) → IsRun config past → (n r : ℕ) → flies n r (reached config past).core.queries.records ≡ list_any (is_flight n r) (in_flight past)
flights_alike config [] run n r = refl
flights_alike config (x ∷ past) run n r =
    subst (λ (t : Step). flies n r (after (reached config past) x.0).core.queries.records ≡ list_any (is_flight n r) (in_flight ((x.0, t) ∷ past))) (sym run.0)
    (flights_step config past (reached config past) x.0 (config_stays config past) (call_promise config past x.0) n r (flights_alike config past run.1 n r))
