-- What contracts see of the keeper, a seat and a `Last`, and what holds of them between two calls.
use Rattle.std.specs.Prelude.{◌≡◌, ℕ, ◌<◌, ◌≤◌, List, [], length, Some, None}
use Rattle.atomic_table.specs.Seated.{TableId}
use Rattle.atomic_table.specs.declared.shared.Seat.{Seat}
use Rattle.atomic_table.specs.declared.shared.Shared.{Shared}
use Rattle.zq_hold.specs.declared.slot.Mark.{Mark}
use Rattle.zq_hold.specs.declared.view.HoldView.{HoldView}
use Rattle.zq_hold.specs.declared.view.Role.TheVariants as role
use Rattle.zq_hold.specs.declared.view.Counts.{Counts}
use Rattle.zq_hold.specs.Slots.{times}
use Rattle.zq_hold.specs.Views.{last_of}
use Rattle.zq_hold.specs.Marks.{AllMarked}

-- a seat: of which holds it is, the slots that it holds, and how often it released a slot last
pub record Holder : Type 0 where
  pub home : TableId
  pub held : List ℕ
  pub ended : ℕ

-- a seat that has not held anything yet
abbrev pub unused_seat : TableId → Holder
unused_seat h = record { home = h; held = []; ended = 0 }

-- seats that are still to be taken: of which holds they are, and how many
pub record Untaken : Type 0 where
  pub home : TableId
  pub count : ℕ

-- a `Last`: of which holds it is, and the slot that nobody holds
pub record Ended : Type 0 where
  pub home : TableId
  pub slot : ℕ

-- the keeper: of which holds it is, the mark of each slot, the slots that are lent, how often it released a slot last, or a seat did that joined back, how often it vacated a slot, and how many seats were made and how many joined back
pub record Keeping : Type 0 where
  pub home : TableId
  pub marks : List Mark
  pub lent : List ℕ
  pub ended : ℕ
  pub vacated : ℕ
  pub made : ℕ
  pub joined : ℕ

-- a seat at a table of words
abbrev pub TableSeat : Type 0
TableSeat = Seat (Unit {0}) HoldView

-- a table of a word for each slot
abbrev pub WordTable : Type 0
WordTable = Shared (Unit {0}) HoldView ℕ Counts

-- a seat of the table: it shows nothing and stands for nothing
pub record IsSeat (seat : TableSeat) (table : WordTable) : Type 0 where
  pub here : seat.table_id ≡ table.table_id
  pub sized : table.key ≡ table.table_id.words
  pub some : 0 < table.table_id.words
  pub out : seat.me.1 ≡ []
  pub sits : seat.me.0.role ≡ role.Seat
  pub shows : seat.me.0.shows ≡ None
  pub stands : seat.me.0.stands ≡ None
  pub within : (k : ℕ) → 0 < times k seat.me.0.held → k < table.table_id.words

-- the view of a `Last` of that slot: it stands for the slot, and has nothing else
pub record IsLast (seat : TableSeat) (slot : ℕ) : Type 0 where
  pub out : seat.me.1 ≡ []
  pub is : seat.me.0 ≡ last_of (Some slot)
  pub within : slot < seat.table_id.words

-- the keeper's seat at the table: it shows nothing, stands for nothing and pledges nothing
pub record IsKeeperSeat (seat : TableSeat) (table : WordTable) : Type 0 where
  pub here : seat.table_id ≡ table.table_id
  pub sized : table.key ≡ table.table_id.words
  pub some : 0 < table.table_id.words
  pub out : seat.me.1 ≡ []
  pub keeps : seat.me.0.role ≡ role.Keeper
  pub shows : seat.me.0.shows ≡ None
  pub stands : seat.me.0.stands ≡ None
  pub pledged : seat.me.0.pledged ≡ None

-- the keeper: its seat, and a mark for each of at most 1024 slots, which says what its view has
pub record IsKeeper (seat : TableSeat) (table : WordTable) (marks : List Mark) : Type 0 where
  pub keeper : IsKeeperSeat seat table
  pub count : length marks ≡ table.table_id.words
  pub few : table.table_id.words ≤ 1024
  pub each : AllMarked marks seat.me.0
