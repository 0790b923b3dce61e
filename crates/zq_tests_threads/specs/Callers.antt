-- What callers of a locked gateway have, and their links.
use Rattle.std.specs.Prelude.{◌≡◌, ℕ, List, [], Option}
use Rattle.atomic_table.specs.Seated.{TableId}
use Rattle.zq_hold.specs.Seats.{Holder}
use Rattle.zq_machine.specs.Handing.{Handed}
use Rattle.zq_shared.specs.Tallies.{HasParts, Tallied}

-- a caller that may begin: its seat is of these holds and holds nothing, and it has some part of each ledger
pub record IsReady (holds : TableId) (seat : Holder) (tally : Tallied) : Type 0 where
  pub home : seat.home ≡ holds
  pub free : seat.held ≡ []
  pub parts : HasParts tally

-- a link, as others see it: what it took, where it tells, and its faults
pub record Lined : Type 0 where
  pub taken : Option (List Handed)
  pub faults : ℕ
