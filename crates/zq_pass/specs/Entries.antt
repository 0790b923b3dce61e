-- The journal: a list of entries, each the number of a pass and a call that it made.
use Rattle.std.specs.Prelude.{◌≡◌, ℕ, ◌+◌, ◌≤◌, List, length, map, not}
use Rattle.std.specs.List.{filter}
use Rattle.zq_machine.specs.declared.call.Call.{Call}
use Rattle.zq_machine.specs.Calls.{is_sent}
use Rattle.zq_shared.specs.Stored.{Stored, flights, standing}

-- who made a call, and the call
abbrev pub Entry : Type 0
Entry = ℕ × Call

-- the calls of the entries
abbrev pub calls_of : List Entry → List Call
calls_of list = map (λ (e : Entry). e.1) list

-- who made each
abbrev pub owners_of : List Entry → List ℕ
owners_of list = map (λ (e : Entry). e.0) list

-- these calls, all of one pass
abbrev pub entries_by : ℕ → List Call → List Entry
entries_by number cs = map (λ (c : Call). (number, c)) cs

-- how many of the calls are no reports
abbrev pub made_in : List Call → ℕ
made_in cs = length (filter (λ (c : Call). not (is_sent c)) cs)

-- the list has the stored calls, and who made each, as is kept beside; and there is room for the report of each reply in flight
pub record IsJournal (s : Stored) (who : List ℕ) (list : List Entry) (stored capacity : ℕ) : Type 0 where
  pub calls : calls_of list ≡ s.calls
  pub owners : owners_of list ≡ who
  pub long : length list ≡ stored
  pub room : stored + length (flights (standing s)) ≤ capacity
