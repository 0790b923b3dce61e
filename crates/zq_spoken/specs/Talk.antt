-- A gateway that is spoken to by lines.
use Rattle.std.specs.Prelude.{◌≡◌, ℕ, List, [], Option, Some, None, Result, Ok}
use Rattle.zq_machine.specs.declared.call.Call.{Call}
use Rattle.zq_machine.specs.declared.call.Step.{Step}
use Rattle.zq_machine.specs.Configs.{Settings}
use Rattle.zq_machine.specs.Machine.{after, step}
use Rattle.zq_machine.specs.State.{State, opening_state}
use Rattle.zq_lines.specs.Steps.{step_words}
use Rattle.zq_spoken.specs.Opening.{bind_config}
use Rattle.zq_spoken.specs.declared.refusal.OpenRefusal.{OpenRefusal}

-- the gateway's state; the step of its last call while that is not printed; and what was printed last
pub record Spoken : Type 0 where
  pub state : State
  pub step : Option Step
  pub print : List ℕ

-- before any call
abbrev pub fresh : State → Spoken
fresh s = record { state = s; step = None; print = [] }

-- the gateway of a configuration
abbrev pub opened : Settings → Result Spoken OpenRefusal
opened config = Ok (fresh (opening_state config))

-- the gateway that these bytes open: they are the lines of a script before its calls, and no other
abbrev pub opens : List ℕ → Result Spoken OpenRefusal
opens bytes = bind_config bytes opened

-- a call was made, and its step is not printed yet
pub record Answered (s then : Spoken) (c : Call) : Type 0 where
  pub state : then.state ≡ after s.state c
  pub step : then.step ≡ Some (step s.state c)

-- a step is printed
abbrev pub printed_by : Option Step → Spoken → Spoken
printed_by None s = s
printed_by (Some t) s = record { state = s.state; step = None; print = step_words t }

-- the last step is printed, if it was not
abbrev pub printed : Spoken → Spoken
printed s = printed_by s.step s

-- a call was made, and its step is printed
pub record Told (s then : Spoken) (c : Call) : Type 0 where
  pub state : then.state ≡ after s.state c
  pub none : then.step ≡ None
  pub print : then.print ≡ step_words (step s.state c)
