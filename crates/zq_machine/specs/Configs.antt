-- Configurations: which lists of entries make one, and what a gateway is made with.
use Rattle.std.specs.Prelude.{◌≡◌, ℕ, ◌==◌, Bool, true, false, nat_lt, List, [], ◌∷◌, ◌++◌, Option, Some, None, if◌then◌else◌}
use Rattle.std.specs.List.{list_any}
use Rattle.zq_message.specs.declared.message.Mode.{Mode}
use Rattle.zq_message.specs.declared.message.Mode.TheVariants as mode
use Rattle.zq_message.specs.declared.message.Region.{Region}
use Rattle.zq_message.specs.declared.message.Region.TheVariants as region
use Rattle.zq_message.specs.declared.message.Zid.{Zid}
use Rattle.zq_message.specs.Region.{region_index}
use Rattle.zq_route.specs.declared.selection.Best.{Best}
use Rattle.zq_route.specs.declared.selection.Best.TheVariants as best
use Rattle.zq_machine.specs.declared.config.Entry.{Entry}
use Rattle.zq_machine.specs.declared.config.Entry.TheVariants as entry
use Rattle.zq_machine.specs.declared.config.BadConfig.{BadConfig}
use Rattle.zq_machine.specs.declared.config.BadConfig.TheVariants as bad
use Rattle.zq_machine.specs.declared.config.ConfigRefusal.{ConfigRefusal}
use Rattle.zq_machine.specs.declared.config.ConfigRefusal.TheVariants as refusal
use Rattle.zq_machine.specs.declared.config.Counters.{Counters}
use Rattle.zq_machine.specs.declared.config.TheConstants.{SOUTH_IDS}

-- what a configuration says
pub record Settings : Type 0 where
  pub zid : Zid
  pub entries : List Entry
  pub timeout : ℕ
  pub start : Counters
  pub best : Best

-- the counters of a gateway that gave no number yet
abbrev pub no_counts : Counters
no_counts = record { faces = 0; requests = 0; replies = 0; told = 0; request_ids = 0 }

-- where the best offer is looked for, unless a configuration says it
abbrev pub usual_best : Best
usual_best = best.ByRegion

-- the region of an entry
abbrev pub region_of : Entry → Region
region_of (entry.North mode) = region.North
region_of entry.Local = region.Local
region_of (entry.South id mode) = region.South id mode

-- the entry's place among the regions
abbrev pub entry_index : Entry → ℕ
entry_index e = region_index (region_of e)

-- the two numbers are one
abbrev pub is_number : ℕ → ℕ → Bool
is_number n m = m == n

-- the region stands in a list of places
abbrev pub is_among : ℕ → List ℕ → Bool
is_among index seen = list_any (is_number index) seen

-- what is wrong with an entry behind others: its id before its repetition
abbrev pub bad_entry : List ℕ → Entry → Option BadConfig
bad_entry seen (entry.North mode) = if is_among 0 seen then Some (bad.Twice region.North) else None
bad_entry seen entry.Local = if is_among 1 seen then Some (bad.Twice region.Local) else None
bad_entry seen (entry.South id mode) =
    if nat_lt SOUTH_IDS id then Some (bad.IdAbove id)
    else (if is_among (region_index (region.South id mode)) seen then Some (bad.Twice (region.South id mode)) else None)

-- what is wrong first, and else what is wrong next
abbrev pub or_else : Option BadConfig → Option BadConfig → Option BadConfig
or_else None other = other
or_else (Some b) other = Some b

-- the first bad entry behind those that were seen; a missing North comes last
abbrev pub bad_from : List ℕ → List Entry → Option BadConfig
bad_from seen [] = if is_among 0 seen then None else Some bad.NoNorth
bad_from seen (e ∷ es) = or_else (bad_entry seen e) (bad_from (seen ++ entry_index e ∷ []) es)

-- what is wrong with a list of entries
abbrev pub bad_config : List Entry → Option BadConfig
bad_config entries = bad_from [] entries

-- the entries are refused for what is wrong with them
abbrev pub IsRefusal : ConfigRefusal → List Entry → Type 0
IsRefusal (refusal.BadConfig b) entries = bad_config entries ≡ Some b
IsRefusal refusal.OutOfMemory entries = Unit {0}

-- the mode of the entry North
abbrev pub north_of : List Entry → Mode
north_of [] = mode.Client
north_of (entry.North m ∷ es) = m
north_of (entry.Local ∷ es) = north_of es
north_of (entry.South id m ∷ es) = north_of es

-- the entry is Local
abbrev pub is_local_entry : Entry → Bool
is_local_entry (entry.North mode) = false
is_local_entry entry.Local = true
is_local_entry (entry.South id mode) = false

-- Local is an entry
abbrev pub has_local : List Entry → Bool
has_local entries = list_any is_local_entry entries

-- the entry is the region's
abbrev pub is_entry_of : Region → Entry → Bool
is_entry_of r e = entry_index e == region_index r

-- the region is an entry
abbrev pub has_region : List Entry → Region → Bool
has_region entries r = list_any (is_entry_of r) entries
