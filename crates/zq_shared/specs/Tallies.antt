-- What callers count of their calls.
use Rattle.std.specs.Prelude.{ℕ, ◌+◌, ◌<◌, if◌then◌else◌, List, length, Bool, ◌&&◌, not}
use Rattle.std.specs.List.{filter}
use Rattle.zq_machine.specs.declared.call.Call.{Call}
use Rattle.zq_machine.specs.Calls.{is_sent}
use Rattle.zq_shared.specs.Stored.{asks_request}

-- of each of the three ledgers: of the stored calls other than requests and reports, of the stored requests, and of the calls that found every slot allotted
pub record Counts : Type 0 where
  pub calls : ℕ
  pub asks : ℕ
  pub full : ℕ

-- what a caller has: parts of the ledgers, and what it made
pub record Tallied : Type 0 where
  pub parts : Counts
  pub made : Counts

-- the same of each
abbrev pub each : ℕ → Counts
each n = record { calls = n; asks = n; full = n }

-- two counts together
abbrev pub plus : Counts → Counts → Counts
plus a b = record { calls = a.calls + b.calls; asks = a.asks + b.asks; full = a.full + b.full }

-- what two callers have together
abbrev pub merged : Tallied → Tallied → Tallied
merged t u = record { parts = plus t.parts u.parts; made = plus t.made u.made }

-- some part of each ledger
pub record HasParts (t : Tallied) : Type 0 where
  pub calls : 0 < t.parts.calls
  pub asks : 0 < t.parts.asks
  pub full : 0 < t.parts.full

-- one more stored call that is no request
abbrev pub with_other : Tallied → Tallied
with_other t = record t { made = record t.made { calls = t.made.calls + 1 } }

-- one more stored request
abbrev pub with_ask : Tallied → Tallied
with_ask t = record t { made = record t.made { asks = t.made.asks + 1 } }

-- one more call that found every slot allotted
abbrev pub with_full : Tallied → Tallied
with_full t = record t { made = record t.made { full = t.made.full + 1 } }

-- one more stored call, which reports nothing
abbrev pub with_stored : Call → Tallied → Tallied
with_stored c t = if asks_request c then with_ask t else with_other t

-- the call is neither a request nor a report
abbrev pub is_other : Call → Bool
is_other c = not (asks_request c) && not (is_sent c)

-- how many of the calls are neither requests nor reports
abbrev pub others_in : List Call → ℕ
others_in cs = length (filter is_other cs)
