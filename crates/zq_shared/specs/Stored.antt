-- A gateway beside the calls that it stands for.
use Rattle.std.specs.Prelude.{◌≡◌, ◌⊎◌, ℕ, ◌+◌, ◌<◌, ◌≤◌, Bool, true, false, List, [], ◌∷◌, ◌++◌, length}
use Rattle.std.specs.List.{filter}
use Rattle.std.specs.Option.{is_some}
use Rattle.zq_query.specs.Records.{flies, pending_count}
use Rattle.zq_machine.specs.declared.call.Call.{Call}
use Rattle.zq_machine.specs.declared.call.Call.TheVariants as call
use Rattle.zq_machine.specs.declared.call.Step.{Step}
use Rattle.zq_machine.specs.Agreeing.{all_in_flight}
use Rattle.zq_machine.specs.Asked.{asked_in}
use Rattle.zq_machine.specs.Configs.{Settings}
use Rattle.zq_machine.specs.Handing.{Handed}
use Rattle.zq_machine.specs.Machine.{state_after, step, steps}
use Rattle.zq_machine.specs.State.{State, opening_state}

-- a configuration, and the calls that were made on a gateway of it
pub record Stored : Type 0 where
  pub config : Settings
  pub calls : List Call

-- the gateway that stands for them
unfoldable pub standing : Stored → State
standing s = state_after (opening_state s.config) s.calls

-- what a call is answered behind them
unfoldable pub answer_to : Stored → Call → Step
answer_to s c = step (standing s) c

-- the call is stored too
abbrev pub with_call : Stored → Call → Stored
with_call s c = record s { calls = s.calls ++ c ∷ [] }

-- how many entries of the request are pending behind them
unfoldable pub waiting : Stored → ℕ → ℕ
waiting s n = pending_count n (standing s).core.queries.records

-- the reply of the request is in flight behind them
unfoldable pub in_flight : Stored → ℕ → ℕ → Bool
in_flight s n k = flies n k (standing s).core.queries.records

-- the request is open behind them: an entry of it is pending, or a reply of it is in flight
abbrev pub IsOpen : Stored → ℕ → Type 0
IsOpen s n = (0 < waiting s n) ⊎ ((k : ℕ) × (in_flight s n k ≡ true))

-- the number of the next request that is asked
unfoldable pub next_request : Stored → ℕ
next_request s = s.config.start.requests + length (asked_in s.calls (steps s.config s.calls))

-- the call asks a request
abbrev pub asks_request : Call → Bool
asks_request (call.Request face r now) = true
asks_request c = false

-- how many of the calls ask a request
abbrev pub requests_in : List Call → ℕ
requests_in cs = length (filter asks_request cs)

-- the message is a reply, which is in flight from then on
abbrev pub is_flying : Handed → Bool
is_flying h = is_some h.reply

-- the replies that are in flight
abbrev pub flights : State → List ℕ
flights s = all_in_flight s.core.queries.records

-- the gateway stands for the calls, and there is room for a report of each reply in flight, of which there are no more than were counted
pub record IsStored (config : Settings) (gateway : State) (calls : List Call) (flying stored capacity : ℕ) : Type 0 where
  pub stands : gateway ≡ state_after (opening_state config) calls
  pub flown : length (flights gateway) ≤ flying
  pub room : stored + flying ≤ capacity
