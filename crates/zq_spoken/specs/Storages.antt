-- A bus of storages that is spoken to by lines.
use Rattle.std.specs.Prelude.{◌≡◌, ℕ, List, [], Option, Some, None, Result, Ok, Err}
use Rattle.zq_machine.specs.Configs.{Settings}
use Rattle.zq_store.specs.Bus.{BusState, IsSpent, new_bus, new_refusal}
use Rattle.zq_store.specs.Outcomes.{line_after, line_outcome}
use Rattle.zq_store.specs.Printing.{outcome_words}
use Rattle.zq_store.specs.declared.bus.BusRefusal.{BusRefusal}
use Rattle.zq_store.specs.declared.bus.BusRefusal.TheVariants as bus
use Rattle.zq_store.specs.declared.lines.Line.{Line}
use Rattle.zq_store.specs.declared.outcome.LineOutcome.{LineOutcome}
use Rattle.zq_spoken.specs.Opening.{bind_config}
use Rattle.zq_spoken.specs.declared.refusal.OpenRefusal.{OpenRefusal}
use Rattle.zq_spoken.specs.declared.refusal.OpenRefusal.TheVariants as refusal

-- the bus; what came of its last line while that is not printed; and what was printed last
pub record Stocked : Type 0 where
  pub bus : BusState
  pub outcome : Option LineOutcome
  pub print : List ℕ

-- before any line
abbrev pub fresh : BusState → Stocked
fresh b = record { bus = b; outcome = None; print = [] }

-- the storages of a configuration, or why there are none
abbrev pub opened_by : Option BusRefusal → Settings → Result Stocked OpenRefusal
opened_by None config = Ok (fresh (new_bus config))
opened_by (Some bus.NoLocal) config = Err refusal.NoLocal
opened_by (Some bus.NoFreeId) config = Err refusal.NoFreeId
opened_by (Some bus.Spent) config = Err refusal.OutOfMemory
opened_by (Some bus.OutOfMemory) config = Err refusal.OutOfMemory

-- the storages of a configuration
abbrev pub opened : Settings → Result Stocked OpenRefusal
opened config = opened_by (new_refusal config) config

-- the storages that these bytes open: they are the lines of a script before its calls, and no other
abbrev pub opens : List ℕ → Result Stocked OpenRefusal
opens bytes = bind_config bytes opened

-- a line was done, and what came of it is not printed yet
pub record Did (s then : Stocked) (l : Line) : Type 0 where
  pub bus : then.bus ≡ line_after s.bus l
  pub outcome : then.outcome ≡ Some (line_outcome s.bus l)

-- no memory was found amid a line: the bus is spent by it, and what came of the line before stays, as its print does
pub record Spends (s then : Stocked) : Type 0 where
  pub bus : IsSpent s.bus then.bus
  pub outcome : then.outcome ≡ s.outcome
  pub print : then.print ≡ s.print

-- what came of a line is printed
abbrev pub printed_by : Option LineOutcome → Stocked → Stocked
printed_by None s = s
printed_by (Some o) s = record { bus = s.bus; outcome = None; print = outcome_words o }

-- what came of the last line is printed, if it was not
abbrev pub printed : Stocked → Stocked
printed s = printed_by s.outcome s

-- a line was done, and what came of it is printed
pub record DidTell (s then : Stocked) (l : Line) : Type 0 where
  pub bus : then.bus ≡ line_after s.bus l
  pub none : then.outcome ≡ None
  pub print : then.print ≡ outcome_words (line_outcome s.bus l)
