-- The administration view: who declared which key, and who asks for it, under keys of the gateway's own, and their lines.
use Rattle.std.specs.Prelude.{ℕ, Bool, ◌&&◌, List, [], ◌∷◌, ◌++◌, codes, filter, map}
use Rattle.std.specs.Cmp.Lexicographic.{slice_cmp}
use Rattle.std.specs.List.{flat_map}
use Rattle.std.specs.List.Sorted.{IsStrictlySortedBy}
use Rattle.std.specs.Map.{keys_of}
use Rattle.std.specs.Ordering.{nat_cmp}
use Rattle.zq_key.specs.Key.{intersects, is_key}
use Rattle.zq_key.specs.Space.{behind}
use Rattle.zq_io.specs.Words.{field, payload_word}
use Rattle.zq_io.specs.Values.{mode_word, zid_word, zids_word}
use Rattle.zq_hat.specs.declared.sources.Source.{Source}
use Rattle.zq_hat.specs.declared.sources.Sources.{Sources}
use Rattle.zq_hat.specs.Sources.{SourceTexts}
use Rattle.zq_hat.specs.Sourced.{all_queriers, all_queryables}
use Rattle.zq_machine.specs.Configs.{Settings, north_of}
use Rattle.zq_machine.specs.State.{State}

-- a key with the ids of those who declared it, or ask for it
abbrev pub Entry : Type 0
Entry = List ℕ × Sources

-- the gateway as one who declares: under the mode of North
abbrev pub own_source : Settings → Source
own_source config = record { zid = config.zid; mode = north_of config.entries }

-- what stands before the keys of a kind: `@/ZID/MODE/KIND`
abbrev pub front : Source → List ℕ → List ℕ
front own kind = behind (behind (behind (codes "@") (zid_word own.zid)) (mode_word own.mode)) kind

-- the entry of a key of a kind
abbrev pub entry_under : List ℕ → Entry → Entry
entry_under before e = (behind before e.0, e.1)

-- the entries of a kind
abbrev pub entries_under : List ℕ → SourceTexts → List Entry
entries_under before all = map (entry_under before) all

-- those of who asks stand before those of who declared, so that the keys of the entries are in order
abbrev pub entries_of : Source → (queriers queryables : SourceTexts) → List Entry
entries_of own queriers queryables = entries_under (front own (codes "querier")) queriers ++ entries_under (front own (codes "queryable")) queryables

-- the entries of what a gateway has
abbrev pub entries : State → List Entry
entries s = entries_of (own_source s.core.config) (all_queriers s.core.interests s.core.hats) (all_queryables (own_source s.core.config) s.core.hats)

-- the entry's key is a key, and meets the key
abbrev pub is_met : List ℕ → Entry → Bool
is_met key e = is_key e.0 && intersects key e.0

-- the entries whose keys meet the key
abbrev pub entries_met : List ℕ → State → List Entry
entries_met key s = filter (is_met key) (entries s)

-- the keys stand in the order of their bytes, each once
abbrev pub AreInOrder : List Entry → Type 0
AreInOrder es = IsStrictlySortedBy (slice_cmp nat_cmp) (keys_of es)

-- ---- their lines

-- the ids on a key
abbrev pub sources_words : Sources → List ℕ
sources_words s =
    codes "routers" ++ field (zids_word s.routers)
    ++ codes " peers" ++ field (zids_word s.peers)
    ++ codes " clients" ++ field (zids_word s.clients)

-- an entry on a line of its own
abbrev pub entry_line : Entry → List ℕ
entry_line e = payload_word e.0 ++ 32 ∷ sources_words e.1 ++ 10 ∷ []

-- entries, each on its line
abbrev pub entries_lines : List Entry → List ℕ
entries_lines es = flat_map entry_line es
