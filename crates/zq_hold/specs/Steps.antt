-- What a step on a slot's word tells the one that makes it: the number found, and its view afterwards.
use Rattle.std.specs.Prelude.{◌≡◌, ℕ, ◌<◌}
use Rattle.atomic_table.specs.Table.{Me, Step}
use Rattle.zq_hold.specs.declared.view.HoldView.{HoldView}
use Rattle.zq_hold.specs.Slots.{times}
use Rattle.zq_hold.specs.Views.{gained, released, opened, closed}

-- a seat's view; no seat has taken anything out of the table
abbrev pub Mine : Type 0
Mine = Me (Unit {0}) HoldView

-- plus 1: the seat has the slot
abbrev pub Gains : Step (Unit {0}) → Mine → ℕ → Mine → Type 0
Gains st m found m' = m' ≡ (gained m.0 st.word, m.1)

-- minus 1: the seat has the slot no more; the number found is how many held it, itself among them
abbrev pub Releases : Step (Unit {0}) → Mine → ℕ → Mine → Type 0
Releases st m found m' = (m' ≡ (released m.0 st.word found, m.1)) × (0 < found)

-- minus 1 by the keeper; if the slot is not lent, the keeper alone held it
abbrev pub ReleasesKept : Step (Unit {0}) → Mine → ℕ → Mine → Type 0
ReleasesKept st m found m' = (m' ≡ (released m.0 st.word found, m.1)) × (0 < found) × (times st.word m.0.lent ≡ 0 → found ≡ 1)

-- an exchange from 0 to 1 on a vacated slot: it finds 0, and the keeper has the slot
abbrev pub Opens : Step (Unit {0}) → Mine → ℕ → Mine → Type 0
Opens st m found m' = (found ≡ 0) × (m' ≡ (opened m.0 st.word, m.1))

-- a look by the keeper, which stands for the slot: it does not hold the slot, which was not vacated and is now
abbrev pub Vacates : Step (Unit {0}) → Mine → ℕ → Mine → Type 0
Vacates st m found m' = (m' ≡ (closed m.0 st.word, m.1)) × (times st.word m.0.held ≡ 0) × (0 < times st.word m.0.used)

-- a look by a seat, which stands for the slot: it does not hold the slot
abbrev pub SeesEnd : Step (Unit {0}) → Mine → ℕ → Mine → Type 0
SeesEnd st m found m' = (m' ≡ m) × (times st.word m.0.held ≡ 0)
