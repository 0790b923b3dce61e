-- What holds the node of a key from a call on, and how it lets it go where the call is taken back.
use Rattle.std.specs.Prelude.{ℕ, Bool, false, not, List, Option, Some, None, is_none, if◌then◌else◌}
use Rattle.zq_message.specs.declared.message.QueryableInfoType.{QueryableInfoType}
use Rattle.zq_message.specs.Region.{HasIndex, region_index}
use Rattle.zq_tables.specs.Naming.{NamingState, change_naming, face_queryables, has_entry_key, text_at, with_entry_key, with_queryable, without_entry_key, without_queryable}
use Rattle.zq_egress.specs.declared.holding.Hold.{Hold}
use Rattle.zq_egress.specs.declared.holding.Hold.TheVariants as by

-- an entry that is announced holds the node of its key; one that goes holds nothing
abbrev pub entry_held : ℕ → List ℕ → Option QueryableInfoType → NamingState → NamingState
entry_held region key (Some info) s = with_entry_key region key s
entry_held region key None s = s

-- it is announced, and routers of the region had none on the key before
abbrev pub entry_first : ℕ → List ℕ → Option QueryableInfoType → NamingState → Bool
entry_first region key (Some info) s = not (has_entry_key region key s)
entry_first region key None s = false

-- the node is held from then on
abbrev pub held : Hold → NamingState → NamingState
held (by.Queryable face id key) s = change_naming face.0 (with_queryable id key.now) s
held (by.Entry region key info) s = entry_held (region_index region) key.now info s

-- the node is held, and was not held so before
abbrev pub holds_first : Hold → NamingState → Bool
holds_first (by.Queryable face id key) s = is_none (text_at id (face_queryables face.0 s))
holds_first (by.Entry region key info) s = entry_first (region_index region) key.now info s

-- the node is let go
abbrev pub released : Hold → NamingState → NamingState
released (by.Queryable face id key) s = change_naming face.0 (without_queryable id) s
released (by.Entry region key info) s = without_entry_key (region_index region) key.now s

-- the node is let go again, where it was not held so before
abbrev pub let_go : Hold → Bool → NamingState → NamingState
let_go h fresh s = if fresh then released h s else s

-- the region of an entry is one that can be
abbrev pub CanHold : Hold → Type 0
CanHold (by.Queryable face id key) = Unit {0}
CanHold (by.Entry region key info) = HasIndex region
