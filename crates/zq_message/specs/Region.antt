-- Regions and their indices.
use Rattle.std.specs.Prelude.{ℕ, ◌+◌, ◌-◌, ◌*◌, ◌/◌, ◌%◌, ◌≤◌, if◌then◌else◌, ◌==◌}
use Rattle.zq_message.specs.declared.message.Mode.{Mode}
use Rattle.zq_message.specs.declared.message.Mode.TheVariants.{Router, Peer, Client}
use Rattle.zq_message.specs.declared.message.Region.{Region}
use Rattle.zq_message.specs.declared.message.Region.TheVariants.{North, Local, South}

-- a mode's place among the three of a South id
abbrev pub mode_offset : Mode → ℕ
mode_offset Router = 0
mode_offset Peer = 1
mode_offset Client = 2

-- a South id is at most 255
abbrev pub HasIndex : Region → Type 0
HasIndex North = Unit {0}
HasIndex Local = Unit {0}
HasIndex (South id mode) = id ≤ 255

-- the index of a region: North 0, Local 1, then three for each South id, by mode
abbrev pub region_index : Region → ℕ
region_index North = 0
region_index Local = 1
region_index (South id mode) = 2 + 3 * id + mode_offset mode

-- the mode of a place
abbrev pub mode_at : ℕ → Mode
mode_at n = if n == 0 then Router else (if n == 1 then Peer else Client)

-- the region of an index
abbrev pub region_at : ℕ → Region
region_at i = if i == 0 then North else (if i == 1 then Local else South ((i - 2) / 3) (mode_at ((i - 2) % 3)))
