-- What holds between two moments of a step: replies that are held, and slots that are released.
use Rattle.std.specs.Prelude.{◌≡◌, ◌⊎◌, ℕ, ◌+◌, ◌<◌, ◌≤◌, List, length, All, Some, None}
use Rattle.zq_hold.specs.declared.slot.Mark.TheVariants.{Kept, Gone}
use Rattle.zq_hold.specs.Marks.{HasMark}
use Rattle.zq_hold.specs.Seats.{Ended, Holder}
use Rattle.zq_hold.specs.Slots.{times}
use Rattle.zq_hold.specs.Owners.{Slotted, owner_at}
use Rattle.zq_machine.specs.Handing.{Handed}
use Rattle.zq_shared.specs.Stored.{Stored, waiting}
use Rattle.zq_shared.specs.Ties.{IsNearlyTied}
use Rattle.zq_shared.specs.Sharing.{HasReply, ended_slots}

-- the seat came to hold the slots of the requests of the replies among these messages, each once, and no others; nothing else of the slots changed but what is lent
pub record Lends (hs : List Handed) (m m' : Slotted) (seat seat' : Holder) : Type 0 where
  pub slots : m' ≡ record m { keeper = record m.keeper { lent = m'.keeper.lent } }
  pub lent : (k : ℕ) → 0 < times k m'.keeper.lent → (0 < times k m.keeper.lent) ⊎ HasReply hs m k
  pub home : seat'.home ≡ seat.home
  pub more : (k : ℕ) → 0 < times k seat.held → 0 < times k seat'.held
  pub each : (k : ℕ) → HasReply hs m k → 0 < times k seat'.held
  pub only : (k : ℕ) → 0 < times k seat'.held → (0 < times k seat.held) ⊎ HasReply hs m k
  pub once : ((k : ℕ) → times k seat.held ≤ 1) → (k : ℕ) → times k seat'.held ≤ 1

-- of the first slots, i in number, the keeper released those of requests that wait for nothing; what nobody holds stands in the list
pub record LetsGo (s : Stored) (m m' : Slotted) (lasts : List Ended) (i : ℕ) : Type 0 where
  pub nearly : IsNearlyTied None s m'
  pub slots : m' ≡ record m { keeper = record m.keeper { marks = m'.keeper.marks; ended = m'.keeper.ended } }
  pub wide : length m'.keeper.marks ≡ length m.keeper.marks
  pub waits : (k n : ℕ) → k < i → HasMark Kept m'.keeper.marks k → owner_at m'.owners k ≡ Some n → 0 < waiting s n
  pub few : length lasts ≤ i
  pub home : All (λ (l : Ended). l.home ≡ m.keeper.home) lasts
  pub counted : length lasts + m.keeper.ended ≡ m'.keeper.ended
  pub before : (k : ℕ) → HasMark Kept m'.keeper.marks k → HasMark Kept m.keeper.marks k
  pub gone : (k : ℕ) → 0 < times k (ended_slots lasts) → HasMark Kept m.keeper.marks k × HasMark Gone m'.keeper.marks k
  pub unlent : (k : ℕ) → HasMark Kept m.keeper.marks k → HasMark Gone m'.keeper.marks k → times k m.keeper.lent ≡ 0 → 0 < times k (ended_slots lasts)
