-- The journal beside the stored calls: one call more, and some reports more.
use Rattle.std.proofs.Common.{◌≡◌, ℕ, ◌+◌, ◌≤◌, true, false, List, [], ◌∷◌, ◌++◌, length, take, drop, ◌-◌, Bool, cond, Option, Some, None, refl, sym, ap, ◌∙◌, inl, inr, arith, append_assoc, length-append}
use Rattle.std.proofs.lemmas.List.{append-nil, length-map, length-take-le, map-append, take_all}
use Rattle.std.proofs.lemmas.Bool.{false≢true}
use Rattle.zq_machine.specs.declared.call.Call.{Call}
use Rattle.zq_machine.specs.declared.call.Call.TheVariants as call
use Rattle.zq_machine.specs.declared.call.Refusal.{Refusal}
use Rattle.std.specs.Prelude.{not}
use Rattle.std.specs.List.{filter}
use Rattle.zq_machine.specs.Calls.{is_sent}
use Rattle.zq_machine.specs.Configs.{Settings}
use Rattle.zq_machine.specs.Deciding.{is_accepted, refusal_of}
use Rattle.zq_machine.specs.Handing.{Handed}
use Rattle.zq_machine.specs.Headline.{RefusesBy}
use Rattle.zq_machine.specs.Machine.{state_after, step}
use Rattle.zq_machine.specs.State.{State, opening_state}
use Rattle.zq_machine.specs.TextCalls.{read}
use Rattle.zq_machine.proofs.Children.{after_both}
use Rattle.zq_shared.specs.Stored.{Stored, flights, in_flight, standing, with_call}
use Rattle.zq_shared.specs.Ties.{Sharing}
use Rattle.zq_shared.proofs.Flights.{flights_less, refusals}
use Rattle.zq_shared.proofs.Journals.{answer_is, standing_is}
use Rattle.zq_shared.specs.declared.shared.StepRefusal.{StepRefusal}
use Rattle.zq_shared.specs.declared.shared.StepRefusal.TheVariants as refusal
use Rattle.zq_shared.specs.Sharing.{AreDue, Refuses, Settles, reports, with_reports}
use Rattle.zq_shared.proofs.Reporting.{refused_unflown}
use Rattle.zq_pass.specs.Entries.{Entry, IsJournal, calls_of, entries_by, made_in, owners_of}
use Rattle.zq_pass.specs.Stepping.{PassRefuses}

-- ---- entries
pub calls_by : (number : ℕ) (cs : List Call) → calls_of (entries_by number cs) ≡ cs
calls_by number [] = refl
calls_by number (c ∷ cs) = ap (λ (l : List Call). c ∷ l) (calls_by number cs)

pub many_by : (number : ℕ) (cs : List Call) → length (entries_by number cs) ≡ length cs
many_by number cs = length-map cs (λ (c : Call). (number, c))

pub drop_front : (xs ys : List Call) → drop (length xs) (xs ++ ys) ≡ ys
drop_front [] ys = refl
drop_front (x ∷ xs) ys = drop_front xs ys

-- ---- reports
-- a report of a reply in flight is accepted
accepted_is : (s : Stored) (k n : ℕ) → in_flight s n k ≡ true → is_accepted (step (state_after (opening_state s.config) s.calls) (call.Sent k)).outcome ≡ true
accepted_is s k n flown = by (refusal_of here.core (read here (call.Sent k))) (refusals s.config s.calls (call.Sent k))
  where
    here : State
    here = state_after (opening_state s.config) s.calls

    by : (o : Option Refusal) → RefusesBy o here (call.Sent k) → is_accepted (step here (call.Sent k)).outcome ≡ true
    by None h = h
    by (Some r) h = absurd (false≢true (sym (refused_unflown s k r (answer_is s (call.Sent k) ∙ h.0) n) ∙ flown))

-- due reports each take one reply away
pub flights_settled : (s : Stored) (ks : List ℕ) → AreDue s (reports ks) → length (flights (standing (with_reports s ks))) + length ks ≤ length (flights (standing s))
flights_settled s [] due = let same = ap (λ (l : List Call). length (flights (standing (record s { calls = l })))) (append-nil s.calls) in omega (arith, same)
flights_settled s (k ∷ ks) due =
    let h = due.0 k refl in
    let one = call.Sent k in
    let less = flights_less s.config s.calls k (accepted_is s k h.0 h.1) in
    let now = ap (λ (x : State). length (flights x)) (standing_is s) in
    let then = ap (λ (x : State). length (flights x)) (standing_is (with_call s one) ∙ after_both s.calls (one ∷ []) (opening_state s.config)) in
    let rest = flights_settled (with_call s one) ks due.1 in
    let same = ap (λ (l : List Call). length (flights (standing (record s { calls = l })))) (append_assoc s.calls (one ∷ []) (reports ks)) in
    omega (arith, less, now, then, rest, same)

-- what a settling stores
pub settles_reports : (o : Option ℕ) (s : Stored) (a : Option Handed) (new : Stored) → Settles o s a new → (ks : List ℕ) × (new ≡ with_reports s ks) × AreDue s (reports ks)
settles_reports None s a new h = ([], h.1 ∙ ap (λ (l : List Call). record s { calls = l }) (sym (append-nil s.calls)), tt)
settles_reports (Some n) s a new h = (h.0, h.1.stored, h.1.due)

-- ---- refusals
pub refuses_pass : (old : Sharing) (c : Call) (e : StepRefusal) (new : Sharing) → Refuses old c e new → PassRefuses old c e new
refuses_pass old c (refusal.Full none) new h = h
refuses_pass old c refusal.OutOfMemory new h = h.1

pub pass_refused : (old : Sharing) (c : Call) (e : StepRefusal) (new : Sharing) → PassRefuses old c e new → new.stored ≡ old.stored
pass_refused old c (refusal.Full none) new h = ap (λ (x : Sharing). x.stored) h.2
pass_refused old c refusal.OutOfMemory new (inl same) = ap (λ (x : Sharing). x.stored) same
pass_refused old c refusal.OutOfMemory new (inr h) = ap (λ (x : Sharing). x.stored) h.2

-- ---- the journal
module _ (s : Stored) (who : List ℕ) (list : List Entry) (stored capacity : ℕ) (is : IsJournal s who list stored capacity) where
  -- with more room
  pub journal_still : (new : Stored) (who' : List ℕ) (list' : List Entry) (stored' capacity' : ℕ) → new ≡ s → who' ≡ who → list' ≡ list → stored' ≡ stored → capacity ≤ capacity' → IsJournal new who' list' stored' capacity'
  journal_still new who' list' stored' capacity' same owned listed long grown = record {
    calls = ap calls_of listed ∙ (is.calls ∙ ap (λ (x : Stored). x.calls) (sym same));
    owners = ap owners_of listed ∙ (is.owners ∙ sym owned);
    long = ap (λ (l : List Entry). length l) listed ∙ (is.long ∙ sym long);
    room = (let r = is.room in let moved = ap (λ (x : Stored). length (flights (standing x))) same in omega (arith, r, moved, long, grown));
  }

  -- with these calls more, all of one pass
  journal_more : (number : ℕ) (cs : List Call) (new : Stored) (who' : List ℕ) (list' : List Entry) (stored' capacity' : ℕ) → new ≡ record s { calls = s.calls ++ cs } → who' ≡ who ++ owners_of (entries_by number cs) → list' ≡ list ++ entries_by number cs → stored' ≡ stored + length cs
      → stored' + length (flights (standing (record s { calls = s.calls ++ cs }))) ≤ capacity' → IsJournal new who' list' stored' capacity'
  journal_more number cs new who' list' stored' capacity' same owned listed long room =
      let more = entries_by number cs in record {
        calls = ap calls_of listed ∙ (map-append (λ (e : Entry). e.1) list more ∙ ((λ i. is.calls i ++ calls_by number cs i) ∙ ap (λ (x : Stored). x.calls) (sym same)));
        owners = ap owners_of listed ∙ (map-append (λ (e : Entry). e.0) list more ∙ (ap (λ (l : List ℕ). l ++ owners_of more) is.owners ∙ sym owned));
        long = (let a = ap (λ (l : List Entry). length l) listed in let b = length-append list more in let d = many_by number cs in let l = is.long in omega (arith, a, b, d, l, long));
        room = (let moved = ap (λ (x : Stored). length (flights (standing x))) same in omega (arith, room, moved));
      }

  pub journal_call : (number : ℕ) (c : Call) (new : Stored) (who' : List ℕ) (list' : List Entry) (stored' capacity' : ℕ) → new ≡ with_call s c → who' ≡ who ++ number ∷ [] → list' ≡ list ++ (number, c) ∷ [] → stored' ≡ stored + 1
      → stored' + length (flights (standing (with_call s c))) ≤ capacity' → IsJournal new who' list' stored' capacity'
  journal_call number c new who' list' stored' capacity' same owned listed long room = journal_more number (c ∷ []) new who' list' stored' capacity' same owned listed long room

  module _ (ks : List ℕ) (due : AreDue s (reports ks)) where
    many_reports : length (reports ks) ≡ length ks
    many_reports = length-map ks (λ (k : ℕ). call.Sent k)

    -- there is room for reports that are due
    pub reports_fit : stored + length (reports ks) ≤ capacity
    reports_fit = let r = is.room in let f = flights_settled s ks due in let m = many_reports in omega (arith, r, f, m)

    pub journal_reports : (number : ℕ) (new : Stored) (who' : List ℕ) (list' : List Entry) (stored' capacity' : ℕ) → new ≡ with_reports s ks → who' ≡ who ++ owners_of (entries_by number (reports ks)) → list' ≡ list ++ entries_by number (reports ks) → stored' ≡ stored + length (reports ks) → capacity' ≡ capacity
        → IsJournal new who' list' stored' capacity'
    journal_reports number new who' list' stored' capacity' same owned listed long kept =
        journal_more number (reports ks) new who' list' stored' capacity' same owned listed long (let r = is.room in let f = flights_settled s ks due in let m = many_reports in omega (arith, r, f, m, long, kept))

-- ---- what stands behind the calls that stood before
pub tail_is : (before now cs more : List Call) → before ≡ cs → now ≡ cs ++ more → take (length now - length before) (drop (length before) now) ≡ more
tail_is before now cs more e f =
    (λ i. take (length (f i) - length (e i)) (drop (length (e i)) (f i)))
    ∙ (ap (take (length (cs ++ more) - length cs)) (drop_front cs more)
    ∙ take_all (length (cs ++ more) - length cs) more (omega (arith, length-append cs more)))

-- before any call no reply is in flight
pub none_flown : (config : Settings) → length (flights (standing (record { config = config; calls = [] }))) ≡ 0
none_flown config = ap (λ (x : State). length (flights x)) (standing_is (record { config = config; calls = [] }))

pub journal_new : (config : Settings) (s : Stored) (who : List ℕ) (list : List Entry) (stored capacity : ℕ) → s ≡ record { config = config; calls = [] } → who ≡ [] → list ≡ [] → stored ≡ 0 → IsJournal s who list stored capacity
journal_new config s who list stored capacity new none empty zero_long = record {
  calls = ap calls_of empty ∙ ap (λ (x : Stored). x.calls) (sym new);
  owners = ap owners_of empty ∙ sym none;
  long = ap (λ (l : List Entry). length l) empty ∙ sym zero_long;
  room = (let idle = ap (λ (x : Stored). length (flights (standing x))) new ∙ none_flown config in omega (arith, idle, zero_long));
}

-- ---- calls that are no reports
made_most : (xs : List Call) → made_in xs ≤ length xs
made_most [] = omega arith
made_most (x ∷ xs) = by (not (is_sent x)) (made_most xs)
  where
    by : (b : Bool) → made_in xs ≤ length xs → length (cond b (x ∷ filter (λ (c : Call). not (is_sent c)) xs) (filter (λ (c : Call). not (is_sent c)) xs)) ≤ length (x ∷ xs)
    by true ih = omega (arith, ih)
    by false ih = omega (arith, ih)

pub made_few : (xs : List Call) (i : ℕ) → i ≤ length xs → made_in (take i xs) ≤ i
made_few xs i l = let a = made_most (take i xs) in let b = length-take-le i xs l in omega (arith, a, b)
