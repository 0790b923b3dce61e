-- What the maps say of one face's entries, and of the requests that end with them.
use Rattle.std.specs.Prelude.{ℕ, Bool, ◌-◌, ◌^◌, ◌&&◌, ◌==◌, List, Option, Some, None, if◌then◌else◌, not}
use Rattle.std.specs.declared.cmp.Ordering.{Ordering}
use Rattle.std.specs.List.{list_any}
use Rattle.std.specs.BTreeMap.{is_at}
use Rattle.std.specs.BTreeMap.Range.{entries_between}
use Rattle.std.specs.declared.ops.Bound.TheVariants.{Included}
use Rattle.std.specs.Option.{option_and_then}
use Rattle.zq_query.specs.declared.records.Final.{Final}
use Rattle.zq_query.specs.declared.queries.Open.{Open}
use Rattle.zq_query.specs.declared.queries.Owed.{Owed}
use Rattle.zq_query.specs.Records.{is_closed}
use Rattle.zq_query.specs.Tables.{Place, place_cmp, at_number, final_at}

-- a key equal to k is among them
abbrev pub has_key : {K : Type 0} → (K → K → Ordering) → K → List K → Bool
has_key R k ks = list_any (is_at (R k)) ks

-- the entries whose places stand from the face's first to its last
abbrev pub entries_of_face : ℕ → List (Place × Owed) → List (Place × Owed)
entries_of_face face es = entries_between place_cmp (Included (face, 0)) (Included (face, 2 ^ 32 - 1)) es

-- the final of an open request with one entry and no reply in flight, whose asker is open
abbrev pub ending_by : List ℕ → ℕ → Open → Option Final
ending_by closed n o = if (o.pending == 1) && (o.in_flight == 0) && not (is_closed closed o.asker.0) then Some (final_at n o) else None

-- the same of the request with the number
abbrev pub ending : List (ℕ × Open) → List ℕ → ℕ → Option Final
ending heads closed n = option_and_then (ending_by closed n) (at_number n heads)
