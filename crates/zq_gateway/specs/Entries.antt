-- The keys of routers' entries, let go with the last entry of a region on them.
use Rattle.std.specs.Prelude.{ℕ, List, if◌then◌else◌}
use Rattle.zq_message.specs.declared.message.Region.{Region}
use Rattle.zq_message.specs.Region.{region_index}
use Rattle.zq_strategy.specs.State.{HatState}
use Rattle.zq_tables.specs.Naming.{NamingState, without_entry_key}
use Rattle.zq_dispatcher.specs.Routers.{has_entries_in}

-- the key is let go where no router of the region has an entry on it
abbrev pub without_gone : Region → List (ℕ × HatState) → NamingState → List ℕ → NamingState
without_gone r hats s key = if has_entries_in r key hats then s else without_entry_key (region_index r) key s
