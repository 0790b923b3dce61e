-- The finals that are owed under a number, and those that are handed under it.
use Rattle.std.specs.Prelude.{ℕ, ◌+◌, ◌==◌, ◌&&◌, nat_lt, not, List, length, if◌then◌else◌}
use Rattle.std.specs.List.{filter}
use Rattle.zq_query.specs.declared.records.Final.{Final}
use Rattle.zq_query.specs.Records.{QueryState, Record, is_closed}

-- how many open requests have the number and an open asker
abbrev pub owed_by : List ℕ → ℕ → List Record → ℕ
owed_by closed n rs = length (filter (λ (r : Record). (r.number == n) && not (is_closed closed r.asker.0)) rs)

-- how many finals are owed under the number: that of an open request, or of one to come
abbrev pub finals_owed : ℕ → QueryState → ℕ
finals_owed n s = owed_by s.closed n s.records + (if nat_lt n s.requests then 0 else 1)

-- how many of the finals have the number
abbrev pub finals_under : ℕ → List Final → ℕ
finals_under n fs = length (filter (λ (f : Final). f.number == n) fs)
