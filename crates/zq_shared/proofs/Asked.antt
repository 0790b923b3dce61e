-- A request and its slot.
use Rattle.std.proofs.Common.{◌≡◌, ◌≢◌, ℕ, ◌<◌, Bool, true, false, cond, zero, suc, List, [], ◌∷◌, length, Option, Some, None, refl, sym, ap, ◌∙◌, set, subst, arith, inl, inr, get_or-set_other, length-set}
use mathlib.Core.Logic.{dite}
use native.Mathlib.Decide.{ℕ_discrete}
use Rattle.std.specs.Prelude.{IfNone, IfSome}
use Rattle.std.specs.List.{filter, list_any}
use Rattle.std.proofs.lemmas.Bool.{false≢true}
use Rattle.std.proofs.lemmas.List.{set-set}
use Rattle.zq_hold.specs.declared.slot.Mark.{Mark}
use Rattle.zq_hold.specs.declared.slot.Mark.TheVariants.{Spare, Kept, Gone, Vacant}
use Rattle.zq_hold.specs.Marks.{AllAllotted, HasMark, IsNext}
use Rattle.zq_hold.specs.Slots.{times}
use Rattle.zq_hold.specs.Owners.{IsSlotted, Slotted, owned, owner_at, with_mark, with_owner}
use Rattle.zq_hold.proofs.Owning.{unowned}
use Rattle.zq_query.specs.Records.{is_reply}
use Rattle.zq_machine.specs.declared.call.Call.{Call}
use Rattle.zq_machine.specs.declared.call.Call.TheVariants as call
use Rattle.zq_machine.specs.declared.call.Outcome.TheVariants as outcome
use Rattle.zq_machine.specs.declared.call.Step.{Step}
use Rattle.zq_machine.specs.Calls.{is_sent}
use Rattle.zq_machine.specs.Configs.{Settings}
use Rattle.zq_machine.specs.Machine.{state_after, step}
use Rattle.zq_machine.specs.State.{opening_state}
use Rattle.zq_machine.specs.Waiting.{hands_reply}
use Rattle.zq_shared.specs.Stored.{IsOpen, Stored, answer_to, asks_request, in_flight, waiting, with_call}
use Rattle.zq_shared.specs.Ties.{IsTied, is_used}
use Rattle.zq_shared.proofs.Flights.{handed_in, promises, quiet}
use Rattle.zq_shared.proofs.Frames.{request_of}
use Rattle.zq_shared.proofs.Journals.{answer_is}
use Rattle.zq_shared.proofs.Moves.{flies_stays, flying_is, next_given, waiting_is}
use Rattle.zq_shared.proofs.Ties.{back_tied, given_tied, mark_is, other_mark, quiet_tied}
use Rattle.zq_shared.proofs.Lending.{none_last}
use Rattle.zq_shared.specs.Sharing.{AreLast, HoldsReplies, KeepsFlights}

-- ---- before any call
pub none_open : (config : Settings) (n : ℕ) → IsOpen (record { config = config; calls = [] }) n → ⊥
none_open config n (inl some) = let none = waiting_is (record { config = config; calls = [] }) n in omega (arith, some, none)
none_open config n (inr flown) = false≢true (sym (flying_is (record { config = config; calls = [] }) n flown.0) ∙ flown.1)

-- ---- marks
-- slots that are all allotted are all used
pub all_used : (marks : List Mark) → AllAllotted marks → length (filter is_used marks) ≡ length marks
all_used [] all = refl
all_used (m ∷ ms) all = by m (all.0 zero (omega arith)) (all_used ms ((λ j inside is. all.0 (suc j) (omega (arith, inside)) is), (λ j inside is. all.1 (suc j) (omega (arith, inside)) is)))
  where
    by : (w : Mark) → (w ≡ Spare → ⊥) → length (filter is_used ms) ≡ length ms → length (cond (is_used w) (w ∷ filter is_used ms) (filter is_used ms)) ≡ length (w ∷ ms)
    by Spare none ih = absurd (none refl)
    by Kept none ih = omega (arith, ih)
    by Gone none ih = omega (arith, ih)
    by Vacant none ih = omega (arith, ih)

-- where a slot is next, not all are allotted
pub next_free : (marks : List Mark) (k : ℕ) → IsNext marks k → AllAllotted marks → ⊥
next_free marks k (inl least) all = all.0 k least.0.0 least.0.1
next_free marks k (inr none) all = all.1 k none.1.0.0 none.1.0.1

pub next_inside : (marks : List Mark) (k : ℕ) → IsNext marks k → k < length marks
next_inside marks k (inl least) = least.0.0
next_inside marks k (inr none) = none.1.0.0

-- ---- replies in flight keep their slots' owners
-- while nothing is stored
pub still_flights : (s s1 : Stored) → s1 ≡ s → (m m' : Slotted) → m'.owners ≡ m.owners → KeepsFlights None (record { stored = s; slots = m }) (record { stored = s1; slots = m' })
still_flights s s1 stored m m' same k n r but owner flown = (ap (λ os. owner_at os k) same ∙ owner, ap (λ (x : Stored). in_flight x n r) stored ∙ flown)

-- once a call is stored that reports nothing, where owners stay
pub stored_flights : (s : Stored) (c : Call) (s1 : Stored) → s1 ≡ with_call s c → is_sent c ≡ false → (m m' : Slotted)
    → ((k n : ℕ) → owner_at m.owners k ≡ Some n → owner_at m'.owners k ≡ Some n) → KeepsFlights None (record { stored = s; slots = m }) (record { stored = s1; slots = m' })
stored_flights s c s1 stored unsent m m' stays k n r but owner flown = (stays k n owner, ap (λ (x : Stored). in_flight x n r) stored ∙ flies_stays s c unsent n r flown)

-- ---- a request is made
-- it hands no reply
pub asks_silently : (s : Stored) (c : Call) → asks_request c ≡ true → (n r : ℕ) → list_any (hands_reply n r) (answer_to s c).handed ≡ false
asks_silently s c asks n r = by (list_any (hands_reply n r) (answer_to s c).handed) refl
  where
    none : (face : _) (q : _) (now : ℕ) → list_any (hands_reply n r) (answer_to s (call.Request face q now)).handed ≡ true → ⊥
    none face q now h =
        let here = state_after (opening_state s.config) s.calls in
        let c = call.Request face q now in
        let at = ap (λ (t : Step). list_any (hands_reply n r) t.handed) (sym (answer_is s c)) ∙ h in
        false≢true (sym (ap (list_any (is_reply r)) (quiet s.config s.calls c (promises s.config s.calls c).replies)) ∙ handed_in n r (step here c).handed at)

    by : (b : Bool) → list_any (hands_reply n r) (answer_to s c).handed ≡ b → b ≡ false
    by false e = refl
    by true e = let q = request_of c asks in absurd (none q.0 q.1 q.2 (ap (λ (y : Call). list_any (hands_reply n r) (answer_to s y).handed) (sym q.3) ∙ e))

module _ (s : Stored) (c : Call) (m : Slotted) (tied : IsTied s m) (asks : asks_request c ≡ true) where
  -- the request that is asked owns nothing yet
  pub new_unowned : (n : ℕ) → (answer_to s c).outcome ≡ outcome.Asked n → owned n m.owners ≡ 0
  new_unowned n is = unowned n m.owners (λ k inside owner. (let next = (next_given s c n asks is).0 in let was = tied.nearly.asked k n owner in absurd (omega (arith, next, was))))

  -- it hands no reply, so the seat holds nothing
  pub asks_holds : (m' : Slotted) (held : List ℕ) → held ≡ [] → HoldsReplies (answer_to s c).handed m' held
  asks_holds m' held none = record {
    each = λ k has. absurd (false≢true (sym (asks_silently s c asks has.0 has.1) ∙ has.3));
    only = λ k some. (let zeroth = ap (times k) none in absurd (omega (arith, some, zeroth)));
    once = λ k. (let zeroth = ap (times k) none in omega (arith, zeroth));
  }

  module _ (k : ℕ) (slotted : IsSlotted m.keeper.marks m.owners) (next : IsNext m.keeper.marks k) (free : owner_at m.owners k ≡ None) (unlent : times k m.keeper.lent ≡ 0) where
    -- it waits for something, and owns the slot; or the slot is spare
    pub asked_tied : (owner : Option ℕ) (m' : Slotted) → IfSome owner (λ n. ((answer_to s c).outcome ≡ outcome.Asked n) × (0 < waiting (with_call s c) n)) → IfNone owner ((n : ℕ) → (answer_to s c).outcome ≡ outcome.Asked n → waiting (with_call s c) n ≡ 0)
        → IfSome owner (λ n. m' ≡ with_owner (with_mark m k Kept) k (Some n)) → IfNone owner (m' ≡ with_mark (with_mark m k Kept) k Spare) → IsTied (with_call s c) m'
    asked_tied None m' some none given back =
        subst (IsTied (with_call s c)) (sym back) (back_tied (with_call s c) m (quiet_tied s c m tied asks none) k (next_inside m.keeper.marks k next))
    asked_tied (Some n) m' some none given back =
        subst (IsTied (with_call s c)) (sym given) (given_tied s c m tied asks k n (next_inside m.keeper.marks k next) slotted.wide free unlent some.0 some.1)

    -- the same of what the calls made of the slots and of the stored calls
    pub asked_after : (m1 m' : Slotted) (s1 : Stored) (t : Step) (owner : Option ℕ) → m1 ≡ with_mark m k Kept → s1 ≡ with_call s c → t ≡ answer_to s c
        → IfSome owner (λ n. (t.outcome ≡ outcome.Asked n) × (0 < waiting s1 n)) → IfNone owner ((n : ℕ) → t.outcome ≡ outcome.Asked n → waiting s1 n ≡ 0)
        → IfSome owner (λ n. m' ≡ with_owner m1 k (Some n)) → IfNone owner (m' ≡ with_mark m1 k Spare) → IsTied s1 m'
    asked_after m1 m' s1 t None marked stored answered some none given back =
        subst (λ x. IsTied x m') (sym stored) (asked_tied None m' tt (λ n is. (ap (λ (x : Stored). waiting x n) (sym stored) ∙ none n (ap (λ (x : Step). x.outcome) answered ∙ is))) tt (back ∙ ap (λ (x : Slotted). with_mark x k Spare) marked))
    asked_after m1 m' s1 t (Some n) marked stored answered some none given back =
        subst (λ x. IsTied x m') (sym stored) (asked_tied (Some n) m' (ap (λ (x : Step). x.outcome) (sym answered) ∙ some.0, subst (λ x. 0 < waiting x n) stored some.1) tt (given ∙ ap (λ (x : Slotted). with_owner x k (Some n)) marked) tt)

    -- who owned a slot still does
    owners_stay : (m1 m' : Slotted) (owner : Option ℕ) → m1 ≡ with_mark m k Kept → IfSome owner (λ n. m' ≡ with_owner m1 k (Some n)) → IfNone owner (m' ≡ with_mark m1 k Spare)
        → (j n : ℕ) → owner_at m.owners j ≡ Some n → owner_at m'.owners j ≡ Some n
    owners_stay m1 m' None marked given back j n owns = ap (λ (x : Slotted). owner_at x.owners j) (back ∙ ap (λ (x : Slotted). with_mark x k Spare) marked) ∙ owns
    owners_stay m1 m' (Some o) marked given back j n owns =
        ap (λ (x : Slotted). owner_at x.owners j) (given ∙ ap (λ (x : Slotted). with_owner x k (Some o)) marked) ∙ (get_or-set_other m.owners k j (Some o) None apart ∙ owns)
      where
        apart : j ≢ k
        apart e = let clash : ◌≡◌ {A = Option ℕ} None (Some n) = sym free ∙ (ap (owner_at m.owners) (sym e) ∙ owns) in absurd (cc)

    pub asked_flights : (m1 m' : Slotted) (s1 : Stored) (owner : Option ℕ) → m1 ≡ with_mark m k Kept → s1 ≡ with_call s c
        → IfSome owner (λ n. m' ≡ with_owner m1 k (Some n)) → IfNone owner (m' ≡ with_mark m1 k Spare) → KeepsFlights None (record { stored = s; slots = m }) (record { stored = s1; slots = m' })
    asked_flights m1 m' s1 owner marked stored given back =
        stored_flights s c s1 stored (ap is_sent (request_of c asks).3) m m' (owners_stay m1 m' owner marked given back)

    -- a slot that is gone once it was given another mark was gone before
    gone_before : (marks : List Mark) (w : Mark) → k < length marks → (w ≡ Gone → ⊥) → (j : ℕ) → HasMark Gone (set marks k w) j → HasMark Gone marks j
    gone_before marks w inside other j now = dite (ℕ_discrete j k)
        (λ (e : j ≡ k). absurd (other (mark_is Gone marks k w inside (subst (HasMark Gone (set marks k w)) e now))))
        (λ (ne : j ≢ k). other_mark Gone marks k w j ne now)

    -- no slot was let go
    pub asked_last : (m1 m' : Slotted) (owner : Option ℕ) → m1 ≡ with_mark m k Kept → IfSome owner (λ n. m' ≡ with_owner m1 k (Some n)) → IfNone owner (m' ≡ with_mark m1 k Spare) → AreLast m m' []
    asked_last m1 m' None marked given back =
        let is = back ∙ ap (λ (x : Slotted). with_mark x k Spare) marked in
        let inside = next_inside m.keeper.marks k next in
        none_last m m' (ap (λ (x : Slotted). x.keeper.ended) is) (ap (λ (x : Slotted). x.keeper.vacated) is)
        (λ j now. gone_before m.keeper.marks Kept inside (λ e. cc) j
        (gone_before (set m.keeper.marks k Kept) Spare (subst (λ n. k < n) (sym (length-set m.keeper.marks k Kept)) inside) (λ e. cc) j (subst (λ (x : Slotted). HasMark Gone x.keeper.marks j) is now)))
    asked_last m1 m' (Some n) marked given back =
        let is = given ∙ ap (λ (x : Slotted). with_owner x k (Some n)) marked in
        none_last m m' (ap (λ (x : Slotted). x.keeper.ended) is) (ap (λ (x : Slotted). x.keeper.vacated) is)
        (λ j now. gone_before m.keeper.marks Kept (next_inside m.keeper.marks k next) (λ e. cc) j (subst (λ (x : Slotted). HasMark Gone x.keeper.marks j) is now))

-- a slot that was allotted in vain may be spare
pub back_is : (m : Slotted) (k : ℕ) → with_mark (with_mark m k Kept) k Spare ≡ with_mark m k Spare
back_is m k = ap (λ (l : List Mark). record m { keeper = record m.keeper { marks = l } }) (set-set m.keeper.marks k Kept Spare)
