-- Stored calls whose reports are due, and which ask no more than there are slots.
use Rattle.std.proofs.Common.{◌≡◌, ℕ, ◌+◌, ◌<◌, ◌≤◌, false, true, List, [], ◌∷◌, ◌++◌, length, Option, Some, None, eqb, refl, sym, ap, ◌∙◌, subst, arith, inl, inr, append-nil, append_assoc, eq-eqb, ne_eqb}
use Rattle.std.specs.Prelude.{◌⊎◌, OnErr, OnOk, Result, Ok, Err}
use mathlib.Core.Logic.{dite}
use native.Mathlib.Decide.{ℕ_discrete}
use Rattle.std.proofs.lemmas.Bool.{false≢true}
use Rattle.zq_hold.specs.declared.slot.Mark.TheVariants.{Kept, Gone}
use Rattle.zq_hold.specs.Marks.{HasMark}
use Rattle.zq_hold.specs.Slots.{stood, times, weight}
use Rattle.zq_hold.specs.Owners.{Slotted, owned}
use Rattle.zq_machine.specs.declared.call.Call.{Call}
use Rattle.zq_machine.specs.declared.call.Call.TheVariants as call
use Rattle.zq_machine.specs.declared.call.Outcome.TheVariants as outcome
use Rattle.zq_machine.specs.Calls.{is_sent}
use Rattle.zq_machine.specs.Configs.{Settings}
use Rattle.zq_shared.specs.Stored.{IsOpen, Stored, answer_to, asks_request, in_flight, waiting, with_call}
use Rattle.zq_shared.specs.Ties.{IsTied}
use Rattle.zq_shared.proofs.Moves.{flying_is, open_before, waiting_is}
use Rattle.zq_shared.proofs.Ties.{zero_if}
use Rattle.zq_shared.specs.Sharing.{AreDue, AreOrderly, IsDue, IsSameHolds, IsShared, IsWithin, OthersAreGone, reports, with_reports}

-- ---- reports
pub due_append : (s : Stored) (xs ys : List Call) → AreDue s xs → AreDue (record s { calls = s.calls ++ xs }) ys → AreDue s (xs ++ ys)
due_append s [] ys h k = subst (λ (l : List Call). AreDue (record s { calls = l }) ys) (append-nil s.calls) k
due_append s (x ∷ xs) ys h k = (h.0, due_append (with_call s x) xs ys h.1 (subst (λ (l : List Call). AreDue (record s { calls = l }) ys) (sym (append_assoc s.calls (x ∷ []) xs)) k))

-- a call that is no report
other_due : (s : Stored) (c : Call) → is_sent c ≡ false → IsDue s c
other_due s c e = λ k sent. absurd (false≢true (sym e ∙ ap is_sent sent))

-- the reply that a call reports, if it reports one
abbrev reply_in : Call → ℕ
reply_in (call.Sent k) = k
reply_in c = 0

pub due_report : (s : Stored) (k n : ℕ) → in_flight s n k ≡ true → waiting s n ≡ 0 → AreDue s (call.Sent k ∷ [])
due_report s k n flown none = ((λ j sent. (n, subst (λ i. in_flight s n i ≡ true) (ap reply_in sent) flown, none)), tt)

-- ---- how many requests wait for something
-- how many slots requests own together
abbrev total : List ℕ → List (Option ℕ) → ℕ
total [] os = 0
total (x ∷ xs) os = owned x os + total xs os

-- how many of the requests own this slot
abbrev hits : List ℕ → Option ℕ → ℕ
hits [] o = 0
hits (x ∷ xs) o = stood x o + hits xs o

turned : (x y : ℕ) → eqb y x ≡ eqb x y
turned x y = dite (ℕ_discrete x y)
    (λ (e : x ≡ y). eq-eqb y x (sym e) ∙ sym (eq-eqb x y e))
    (λ (ne : x ≡ y → ⊥). ne_eqb y x (λ e. ne (sym e)) ∙ sym (ne_eqb x y ne))

hits_none : (ns : List ℕ) → hits ns None ≡ 0
hits_none [] = omega arith
hits_none (x ∷ xs) = let ih = hits_none xs in omega (arith, ih)

hits_times : (ns : List ℕ) (y : ℕ) → hits ns (Some y) ≡ times y ns
hits_times [] y = omega arith
hits_times (x ∷ xs) y = let ih = hits_times xs y in let same = ap weight (turned x y) in omega (arith, ih, same)

hits_few : (ns : List ℕ) (o : Option ℕ) → ((n : ℕ) → times n ns ≤ 1) → hits ns o ≤ 1
hits_few ns None once = let none = hits_none ns in omega (arith, none)
hits_few ns (Some y) once = let is = hits_times ns y in let few = once y in omega (arith, is, few)

total_none : (ns : List ℕ) → total ns [] ≡ 0
total_none [] = omega arith
total_none (x ∷ xs) = let ih = total_none xs in omega (arith, ih)

total_more : (ns : List ℕ) (o : Option ℕ) (os : List (Option ℕ)) → total ns (o ∷ os) ≡ hits ns o + total ns os
total_more [] o os = omega arith
total_more (x ∷ xs) o os = let ih = total_more xs o os in omega (arith, ih)

total_few : (ns : List ℕ) (os : List (Option ℕ)) → ((n : ℕ) → times n ns ≤ 1) → total ns os ≤ length os
total_few ns [] once = let none = total_none ns in omega (arith, none)
total_few ns (o ∷ os) once =
    let more = total_more ns o os in
    let few = hits_few ns o once in
    let ih = total_few ns os once in
    omega (arith, more, few, ih)

total_many : (ns : List ℕ) (os : List (Option ℕ)) → ((n : ℕ) → 0 < times n ns → 0 < owned n os) → length ns ≤ total ns os
total_many [] os some = omega arith
total_many (x ∷ xs) os some =
    let here = some x (let one = ap weight (eq-eqb x x refl) in omega (arith, one)) in
    let ih = total_many xs os (λ n has. some n (omega (arith, has))) in
    omega (arith, here, ih)

-- each request that waits for something owns a slot
pub tied_within : (s : Stored) (m : Slotted) → IsTied s m → length m.owners ≡ length m.keeper.marks → IsWithin (length m.keeper.marks) s
tied_within s m t wide ns once stands =
    let many = total_many ns m.owners (λ n some. (let owns = t.nearly.opened n (stands n some) in omega (arith, owns))) in
    let few = total_few ns m.owners once in
    omega (arith, many, few, wide)

-- a report opens no request
report_open : (s : Stored) (k n : ℕ) → IsOpen (with_call s (call.Sent k)) n → IsOpen s n
report_open s k n stands = by (open_before s (call.Sent k) n stands)
  where
    by : (IsOpen s n ⊎ ((asks_request (call.Sent k) ≡ true) × ((answer_to s (call.Sent k)).outcome ≡ outcome.Asked n) × (0 < waiting (with_call s (call.Sent k)) n))) → IsOpen s n
    by (inl old) = old
    by (inr asked) = absurd (false≢true asked.0)

none_open : (config : Settings) (n : ℕ) → IsOpen (record { config = config; calls = [] }) n → ⊥
none_open config n (inl some) = let none : waiting (record { config = config; calls = [] }) n ≡ 0 = waiting_is (record { config = config; calls = [] }) n in omega (arith, some, none)
none_open config n (inr flown) = false≢true (sym (flying_is (record { config = config; calls = [] }) n flown.0) ∙ flown.1)

none_within : (slots : ℕ) (config : Settings) → IsWithin slots (record { config = config; calls = [] })
none_within slots config [] once stands = omega arith
none_within slots config (n ∷ ns) once stands = absurd (none_open config n (stands n (let one = ap weight (eq-eqb n n refl) in omega (arith, one))))

-- ---- both, one call after another
pub orderly_none : (slots : ℕ) (config : Settings) (cs : List Call) → cs ≡ [] → AreOrderly slots (record { config = config; calls = [] }) cs
orderly_none slots config cs e = subst (AreOrderly slots (record { config = config; calls = [] })) (sym e) (none_within slots config)

pub orderly_append : (slots : ℕ) (s : Stored) (xs ys : List Call) → AreOrderly slots s xs → AreOrderly slots (record s { calls = s.calls ++ xs }) ys → AreOrderly slots s (xs ++ ys)
orderly_append slots s [] ys h k = subst (λ (l : List Call). AreOrderly slots (record s { calls = l }) ys) (append-nil s.calls) k
orderly_append slots s (x ∷ xs) ys h k =
    (h.0, h.1, orderly_append slots (with_call s x) xs ys h.2 (subst (λ (l : List Call). AreOrderly slots (record s { calls = l }) ys) (sym (append_assoc s.calls (x ∷ []) xs)) k))

pub orderly_end : (slots : ℕ) (s : Stored) (xs : List Call) → AreOrderly slots s xs → IsWithin slots (record s { calls = s.calls ++ xs })
orderly_end slots s [] h = subst (λ (l : List Call). IsWithin slots (record s { calls = l })) (sym (append-nil s.calls)) h
orderly_end slots s (x ∷ xs) h = subst (λ (l : List Call). IsWithin slots (record s { calls = l })) (append_assoc s.calls (x ∷ []) xs) (orderly_end slots (with_call s x) xs h.2)

pub orderly_other : (slots : ℕ) (s : Stored) (c : Call) → is_sent c ≡ false → IsWithin slots s → IsWithin slots (with_call s c) → AreOrderly slots s (c ∷ [])
orderly_other slots s c unsent before now = (before, other_due s c unsent, now)

pub orderly_reports : (slots : ℕ) (s : Stored) (ks : List ℕ) → IsWithin slots s → AreDue s (reports ks) → AreOrderly slots s (reports ks)
orderly_reports slots s [] within due = within
orderly_reports slots s (k ∷ ks) within due =
    (within, due.0, orderly_reports slots (with_call s (call.Sent k)) ks (λ ns once stands. within ns once (λ n some. report_open s k n (stands n some))) due.1)

-- ---- slots and calls together
-- an allotted slot that no open request owns
pub others_gone : (s : Stored) (m : Slotted) → IsTied s m → OthersAreGone (record { stored = s; slots = m })
others_gone s m t k allotted none = (by allotted, zero_if (times k m.keeper.lent) (λ some. (let sends = t.nearly.lent k some in none sends.0 sends.1 (inr (sends.2, sends.3)))))
  where
    by : (HasMark Kept m.keeper.marks k ⊎ HasMark Gone m.keeper.marks k) → HasMark Gone m.keeper.marks k
    by (inl kept) = let owner = t.nearly.kept k kept in absurd (none owner.0 owner.1 (inl (t.waits k owner.0 kept owner.1)))
    by (inr gone) = gone

pub shared_start : (config : Settings) (m : Slotted) → IsTied (record { config = config; calls = [] }) m → IsShared (record { config = config; calls = [] }) m
shared_start config m t = record { tied = t; orderly = none_within (length m.keeper.marks) config }

module _ (s new : Stored) (m m' : Slotted) (h : IsShared s m) (tied : IsTied new m') (same : IsSameHolds m m') where
  orderly_still : AreOrderly (length m'.keeper.marks) (record { config = s.config; calls = [] }) s.calls
  orderly_still = subst (λ n. AreOrderly n (record { config = s.config; calls = [] }) s.calls) (sym same.1) h.orderly

  with_calls : (x : Stored) → new ≡ x → AreOrderly (length m'.keeper.marks) (record { config = x.config; calls = [] }) x.calls → IsShared new m'
  with_calls x stored orderly = record { tied = tied; orderly = subst (λ (y : Stored). AreOrderly (length m'.keeper.marks) (record { config = y.config; calls = [] }) y.calls) (sym stored) orderly }

  -- nothing more is stored
  pub shared_still : new ≡ s → IsShared new m'
  shared_still stored = with_calls s stored orderly_still

  -- a call that is no report
  pub shared_call : (c : Call) → length m.owners ≡ length m.keeper.marks → is_sent c ≡ false → new ≡ with_call s c → IsShared new m'
  shared_call c wide unsent stored =
      with_calls (with_call s c) stored
      (orderly_append (length m'.keeper.marks) (record { config = s.config; calls = [] }) s.calls (c ∷ []) orderly_still
      (orderly_other (length m'.keeper.marks) s c unsent (orderly_end (length m'.keeper.marks) (record { config = s.config; calls = [] }) s.calls orderly_still)
      (subst (IsWithin (length m'.keeper.marks)) stored (tied_within new m' tied (same.2 ∙ (wide ∙ sym same.1))))))

  -- either way
  pub shared_step : {T E : Type 0} (r : Result T E) (c : Call) → length m.owners ≡ length m.keeper.marks → is_sent c ≡ false → OnOk r (new ≡ with_call s c) → OnErr r (new ≡ s) → IsShared new m'
  shared_step (Ok t) c wide unsent stored kept = shared_call c wide unsent stored
  shared_step (Err e) c wide unsent stored kept = shared_still kept

  -- due reports
  pub shared_reports : (ks : List ℕ) → new ≡ with_reports s ks → AreDue s (reports ks) → IsShared new m'
  shared_reports ks stored due =
      with_calls (with_reports s ks) stored
      (orderly_append (length m'.keeper.marks) (record { config = s.config; calls = [] }) s.calls (reports ks) orderly_still
      (orderly_reports (length m'.keeper.marks) s ks (orderly_end (length m'.keeper.marks) (record { config = s.config; calls = [] }) s.calls orderly_still) due))
