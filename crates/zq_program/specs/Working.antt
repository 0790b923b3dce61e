-- What workers are given, and what they make of it.
use Rattle.std.specs.Prelude.{◌≡◌, ℕ, ◌+◌, ◌<◌, Bool, true, false, All, List, [], Option, length, take}
use Rattle.std.specs.List.{list_all}
use Rattle.atomic_table.specs.Seated.{TableId}
use Rattle.zq_hold.specs.Seats.{Holder, unused_seat}
use Rattle.zq_machine.specs.declared.call.Call.{Call}
use Rattle.zq_machine.specs.Calls.{is_sent}
use Rattle.zq_shared.specs.Stored.{requests_in}
use Rattle.zq_shared.specs.Answers.{IsListed}
use Rattle.zq_shared.specs.Tallies.{Counts, HasParts, Tallied, each, others_in}

-- a worker: its seat, what it counts, the calls that it is to make, whether it found memory for each, and whether no link failed
pub record Working : Type 0 where
  pub seat : Holder
  pub tally : Tallied
  pub calls : List Call
  pub whole : Bool
  pub sent : Bool

-- the call reports nothing, and is listed
abbrev pub MayMake : Option (List Call) → Call → Type 0
MayMake list c = (is_sent c ≡ false) × IsListed list c

-- a worker that may begin: its seat is of these holds and holds nothing, and it has some part of each ledger and calls that may be made
pub record IsReady (holds : TableId) (list : Option (List Call)) (w : Working) : Type 0 where
  pub home : w.seat.home ≡ holds
  pub free : w.seat.held ≡ []
  pub parts : HasParts w.tally
  pub calls : All (MayMake list) w.calls

-- these calls were made: each other than a request is stored, and each request is stored or found every slot allotted
pub record HasMade (cs : List Call) (old new : Counts) : Type 0 where
  pub others : new.calls ≡ old.calls + others_in cs
  pub asked : new.asks + new.full ≡ old.asks + old.full + requests_in cs

-- as many calls of each kind were made as some beginning of these has, which is not all of them
abbrev pub HasBegun : List Call → Counts → Counts → Type 0
HasBegun cs old new = (n : ℕ) × (n < length cs) × HasMade (take n cs) old new

-- a worker made its calls, if it found memory for each; otherwise as many of each kind as some beginning of them has, and not all
pub record Worked (old new : Working) : Type 0 where
  pub parts : new.tally.parts ≡ old.tally.parts
  pub made : new.whole ≡ true → HasMade old.calls old.tally.made new.tally.made
  pub begun : new.whole ≡ false → HasBegun old.calls old.tally.made new.tally.made

-- all that the workers had to send was sent
abbrev pub all_sent : List Working → Bool
all_sent ws = list_all (λ w. w.sent) ws

-- each of the workers found memory
abbrev pub all_whole : List Working → Bool
all_whole ws = list_all (λ w. w.whole) ws

-- a worker that has not begun
abbrev pub new_worker : TableId → List Call → Working
new_worker home calls = record { seat = unused_seat home; tally = record { parts = each 1; made = each 0 }; calls = calls; whole = true; sent = true }
