-- What the maps say of the entries whose moment has come.
use Rattle.std.specs.Prelude.{ℕ, ◌==◌, Bool, false, List, Option}
use Rattle.std.specs.List.{filter, flat_map}
use Rattle.std.specs.Option.{option_map, option_map_or}
use Rattle.std.specs.BTreeMap.Range.{entries_between}
use Rattle.std.specs.declared.ops.Bound.TheVariants.{Excluded, Unbounded}
use Rattle.zq_query.specs.declared.queries.Owed.{Owed}
use Rattle.zq_query.specs.Tables.{Place, Due, Dues, place_cmp, at_place}

-- the requests below this number, up to the last that the moment can have
abbrev pub dues_until : ℕ → ℕ → Dues → Dues
dues_until now requests es = entries_between place_cmp Unbounded (Excluded (now, requests)) es

-- the request owes the entry at the place
abbrev pub is_owed_at : List (Place × Owed) → ℕ → Place → Bool
is_owed_at pending n p = option_map_or (λ (v : Owed). v.number == n) (at_place p pending) false

-- of the places of a request those where it still owes its entry
abbrev pub live_of : List (Place × Owed) → Place × List Place → List Place
live_of pending e = filter (is_owed_at pending e.0.1) e.1

-- the places of the entries whose moment has come
abbrev pub live_until : ℕ → ℕ → List (Place × Owed) → Dues → List Place
live_until now requests pending dues = flat_map (live_of pending) (dues_until now requests dues)

-- deadline, number and face of what is owed at the place
abbrev pub due_at : List (Place × Owed) → Place → Option Due
due_at pending p = option_map (λ (v : Owed). (v.deadline, v.number, p.0)) (at_place p pending)
