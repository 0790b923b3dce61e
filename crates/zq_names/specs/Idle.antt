-- Entries that a clean would take out.
use Rattle.std.specs.Prelude.{◌≡◌, ℕ, ◌<◌, List, None, length, slice_index_or}
use Rattle.zq_names.specs.Names.{NameEntry, IsIdle, entry_of}

-- no entry is idle
abbrev pub NoneIdle : List NameEntry → Type 0
NoneIdle ns = (k : ℕ) → k < length ns → IsIdle ns k → ⊥

-- no entry is idle, but maybe that of the number i
abbrev pub IdleAt : List NameEntry → ℕ → Type 0
IdleAt ns i = (k : ℕ) → k < length ns → IsIdle ns k → (slice_index_or ns k (entry_of 0 None)).id ≡ i
