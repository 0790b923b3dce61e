-- What a step and a settling make of a gateway beside its calls, and of the slots of its requests.
use Rattle.std.specs.Prelude.{◌≡◌, ◌⊎◌, ℕ, ◌+◌, ◌<◌, ◌≤◌, true, List, [], ◌∷◌, ◌++◌, length, map, replicate, slice_set, Option, Some, None, All}
use Rattle.std.specs.List.{cons_option, list_any}
use Rattle.std.specs.List.Sorted.{IsStrictlySortedBy}
use Rattle.std.specs.Ordering.{nat_cmp}
use Rattle.atomic_table.specs.Seated.{TableId}
use Rattle.zq_hold.specs.declared.slot.Mark.TheVariants.{Spare, Kept, Gone, Vacant}
use Rattle.zq_hold.specs.Marks.{AllAllotted, HasMark, IsNext}
use Rattle.zq_hold.specs.Seats.{Ended}
use Rattle.zq_hold.specs.Slots.{times, without}
use Rattle.zq_hold.specs.Owners.{Slotted, owner_at, with_mark}
use Rattle.zq_query.specs.Records.{is_reply}
use Rattle.zq_machine.specs.declared.call.Call.{Call}
use Rattle.zq_machine.specs.declared.call.Call.TheVariants as call
use Rattle.zq_machine.specs.Handing.{Handed}
use Rattle.zq_machine.specs.Machine.{done}
use Rattle.zq_machine.specs.Waiting.{hands_reply}
use Rattle.zq_shared.specs.Stored.{IsOpen, Stored, answer_to, asks_request, in_flight, requests_in, waiting, with_call}
use Rattle.zq_shared.specs.Ties.{IsTied, Sharing}
use Rattle.zq_shared.specs.declared.shared.StepRefusal.{StepRefusal}
use Rattle.zq_shared.specs.declared.shared.StepRefusal.TheVariants as refusal

-- the same holds, with as many slots
abbrev pub IsSameHolds : Slotted → Slotted → Type 0
IsSameHolds old new = (new.keeper.home ≡ old.keeper.home) × (length new.keeper.marks ≡ length old.keeper.marks) × (length new.owners ≡ length old.owners)

-- that many slots of these holds, each spare and without an owner, and so many seats made
abbrev pub all_spare : TableId → ℕ → ℕ → Slotted
all_spare home n seats = record { keeper = record { home = home; marks = replicate n Spare; lent = []; ended = 0; vacated = 0; made = seats; joined = 0 }; owners = replicate n None }

-- the request that owns the slot has a reply among these messages
abbrev pub HasReply : List Handed → Slotted → ℕ → Type 0
HasReply hs m k = (n : ℕ) × (r : ℕ) × (owner_at m.owners k ≡ Some n) × (list_any (hands_reply n r) hs ≡ true)

-- the slots of the requests of the replies among these messages are held, each once, and no others
pub record HoldsReplies (hs : List Handed) (m : Slotted) (held : List ℕ) : Type 0 where
  pub each : (k : ℕ) → HasReply hs m k → 0 < times k held
  pub only : (k : ℕ) → 0 < times k held → HasReply hs m k
  pub once : (k : ℕ) → times k held ≤ 1

-- a reply in flight keeps its slot's owner, and stays in flight, unless its slot is the one left out
abbrev pub KeepsFlights : Option ℕ → Sharing → Sharing → Type 0
KeepsFlights but old new = (k n r : ℕ) → (but ≡ Some k → ⊥) → owner_at old.slots.owners k ≡ Some n → in_flight old.stored n r ≡ true → (owner_at new.slots.owners k ≡ Some n) × (in_flight new.stored n r ≡ true)

-- the slots that nobody holds
abbrev pub ended_slots : List Ended → List ℕ
ended_slots ls = map (λ (l : Ended). l.slot) ls

-- these are the releases of the keeper that were last: as many as were counted, each of a slot that it held and holds no more; the slots that it let go and that are not lent are among them; and no slot was vacated
pub record AreLast (old new : Slotted) (lasts : List Ended) : Type 0 where
  pub home : All (λ (l : Ended). l.home ≡ old.keeper.home) lasts
  pub counted : length lasts + old.keeper.ended ≡ new.keeper.ended
  pub vacated : new.keeper.vacated ≡ old.keeper.vacated
  pub gone : (k : ℕ) → 0 < times k (ended_slots lasts) → HasMark Kept old.keeper.marks k × HasMark Gone new.keeper.marks k
  pub unlent : (k : ℕ) → HasMark Kept old.keeper.marks k → HasMark Gone new.keeper.marks k → times k new.keeper.lent ≡ 0 → 0 < times k (ended_slots lasts)

-- the slot is allotted
abbrev pub IsAllotted : Slotted → ℕ → Type 0
IsAllotted m k = HasMark Kept m.keeper.marks k ⊎ HasMark Gone m.keeper.marks k

-- an allotted slot that no open request owns was released by the keeper, and is not lent
abbrev pub OthersAreGone : Sharing → Type 0
OthersAreGone x = (k : ℕ) → IsAllotted x.slots k → ((n : ℕ) → owner_at x.slots.owners k ≡ Some n → IsOpen x.stored n → ⊥) → HasMark Gone x.slots.keeper.marks k × (times k x.slots.keeper.lent ≡ 0)

-- the call is a request, and every slot is allotted
abbrev pub IsFull : Sharing → Call → Type 0
IsFull x c = (asks_request c ≡ true) × AllAllotted x.slots.keeper.marks

-- all is as it was, but for the next slot, which may be spare
abbrev pub MaySpare : Sharing → Sharing → Type 0
MaySpare old new = (new ≡ old) ⊎ ((k : ℕ) × IsNext old.slots.keeper.marks k × (new ≡ record old { slots = with_mark old.slots k Spare }))

-- why a step is refused, and what it leaves: where a request finds every slot allotted, and so as many requests were made as there are slots, all is as it was; where memory is lacking, all but for a slot that may be spare
abbrev pub Refuses : Sharing → Call → StepRefusal → Sharing → Type 0
Refuses old c (refusal.Full full) new = IsFull old c × (length old.slots.keeper.marks ≤ requests_in old.stored.calls) × (new ≡ old)
Refuses old c refusal.OutOfMemory new = (IsFull old c → ⊥) × MaySpare old new

-- the reports of these replies
abbrev pub reports : List ℕ → List Call
reports ks = map (λ k. call.Sent k) ks

-- they are stored too
abbrev pub with_reports : Stored → List ℕ → Stored
with_reports s ks = record s { calls = s.calls ++ reports ks }

-- the call is no report but of a reply in flight, of a request of which no entry is pending
abbrev pub IsDue : Stored → Call → Type 0
IsDue s c = (k : ℕ) → c ≡ call.Sent k → (n : ℕ) × (in_flight s n k ≡ true) × (waiting s n ≡ 0)

-- so is each of these calls, made one after another
abbrev pub AreDue : Stored → List Call → Type 0
AreDue s [] = Unit {0}
AreDue s (c ∷ cs) = IsDue s c × AreDue (with_call s c) cs

-- no more requests wait for something than there are slots: of any different ones that do there are at most so many
abbrev pub IsWithin : ℕ → Stored → Type 0
IsWithin slots s = (ns : List ℕ) → ((n : ℕ) → times n ns ≤ 1) → ((n : ℕ) → 0 < times n ns → IsOpen s n) → length ns ≤ slots

-- so it is at each point of these calls, made one after another, each of which is no report but a due one
abbrev pub AreOrderly : ℕ → Stored → List Call → Type 0
AreOrderly slots s [] = IsWithin slots s
AreOrderly slots s (c ∷ cs) = IsWithin slots s × IsDue s c × AreOrderly slots (with_call s c) cs

-- the slots stand with the open requests, and the calls are orderly
pub record IsShared (s : Stored) (m : Slotted) : Type 0 where
  pub tied : IsTied s m
  pub orderly : AreOrderly (length m.keeper.marks) (record { config = s.config; calls = [] }) s.calls

-- what the last of these reports is answered: the final, if it comes; and nothing where nothing is reported
abbrev pub EndsIn : Stored → List ℕ → Option Handed → Type 0
EndsIn s ks answer = ((ks ≡ []) × (answer ≡ None)) ⊎ ((before : List ℕ) × (k : ℕ) × (ks ≡ before ++ k ∷ []) × (answer_to (with_reports s before) (call.Sent k) ≡ done (cons_option answer [])))

-- all replies of the request that are in flight are reported, in order of number, once no entry of it is pending
pub record Reports (s : Stored) (n : ℕ) (answer : Option Handed) (new : Stored) (ks : List ℕ) : Type 0 where
  pub due : AreDue s (reports ks)
  pub all : (k : ℕ) → in_flight s n k ≡ list_any (is_reply k) ks
  pub rising : IsStrictlySortedBy nat_cmp ks
  pub stored : new ≡ with_reports s ks
  pub ends : EndsIn s ks answer

-- the same of the request that owns a slot; nothing is reported where none does
abbrev pub Settles : Option ℕ → Stored → Option Handed → Stored → Type 0
Settles None s answer new = (answer ≡ None) × (new ≡ s)
Settles (Some n) s answer new = (ks : List ℕ) × Reports s n answer new ks

-- the slot is no longer allotted, owned or lent
abbrev pub slot_vacated : Slotted → ℕ → Slotted
slot_vacated m k = record { keeper = record m.keeper { marks = slice_set m.keeper.marks k Vacant; lent = without k m.keeper.lent; vacated = m.keeper.vacated + 1 }; owners = slice_set m.owners k None }
