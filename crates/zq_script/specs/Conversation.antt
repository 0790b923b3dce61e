-- A gateway that is spoken to by lines.
use Rattle.std.specs.Prelude.{ℕ, List, false, Option, Some, None, Result, Ok, Err}
use Rattle.std.specs.Option.{unwrap_or}
use Rattle.zq_machine.specs.declared.call.Call.{Call}
use Rattle.zq_machine.specs.declared.call.Step.{Step}
use Rattle.zq_machine.specs.declared.config.Counters.{Counters}
use Rattle.zq_machine.specs.declared.config.Entry.{Entry}
use Rattle.zq_machine.specs.Configs.{Settings, no_counts, usual_best}
use Rattle.zq_machine.specs.Machine.{after, step}
use Rattle.zq_machine.specs.State.{State, opening_state}
use Rattle.zq_message.specs.declared.message.Zid.{Zid}
use Rattle.zq_io.specs.Words.{◌>>=◌}
use Rattle.zq_script.specs.Head.{best_of, config_of, configured, start_of}
use Rattle.zq_script.specs.Script.{script_call}

-- what a line `config` says: the own id, the default timeout and the entries
abbrev pub Said : Type 0
Said = Zid × ℕ × List Entry

-- the gateway's state, once a line `config` was taken, what that line said, while further lines of the head may follow it, and what a line `start` said behind it
pub record Spoken : Type 0 where
  pub state : Option State
  pub said : Option Said
  pub start : Option Counters

-- before any line
abbrev pub fresh : Spoken
fresh = record { state = None; said = None; start = None }

-- what a line that is taken comes to: the step of its call, where it is a call, and what is then
abbrev pub Taken : Type 0
Taken = Option Step × Spoken

-- a gateway with these settings, which were read in a line of the head, and what later lines of it may build on
abbrev pub opened : Option Said → Option Counters → Result Settings ℕ → Option Taken
opened said start (Ok config) = Some (None, record { state = Some (opening_state config); said = said; start = start })
opened said start (Err n) = None

-- a line `config`
abbrev pub take_config : List ℕ → Option Taken
take_config line = config_of line >>= (λ c. opened (Some c) None (configured c no_counts usual_best))

-- a line that is a call, or is none
abbrev pub take_call : State → Option Call → Option Taken
take_call s None = None
take_call s (Some c) = Some (Some (step s c), record { state = Some (after s c); said = None; start = None })

-- what a line `start` comes to, where such a line may stand: directly behind `config`
abbrev pub take_start : Option Said → Option Counters → List ℕ → Option (Option Taken)
take_start None start line = None
take_start (Some c) None line = start_of line >>= (λ start. Some (opened (Some c) (Some start) (configured c start usual_best)))
take_start (Some c) (Some start) line = None

-- what a line `best` comes to, where such a line may stand: behind `config` or `start`
abbrev pub take_best : Option Said → Option Counters → List ℕ → Option (Option Taken)
take_best None start line = None
take_best (Some c) start line = best_of line >>= (λ choice. Some (opened None None (configured c (unwrap_or start no_counts) choice)))

-- a line that is a line of the head, or else is to be a call
abbrev pub or_call : State → List ℕ → Option (Option Taken) → Option Taken
or_call s line None = take_call s (script_call false line)
or_call s line (Some t) = t

-- a line that is a line `start`, or else may be a line `best`
abbrev pub or_best : Spoken → List ℕ → Option (Option Taken) → Option (Option Taken)
or_best s line None = take_best s.said s.start line
or_best s line (Some t) = Some t

-- what a further line of the head comes to
abbrev pub take_head : Spoken → List ℕ → Option (Option Taken)
take_head s line = or_best s line (take_start s.said s.start line)

-- a line, by whether a line `config` was taken
abbrev pub take_by : List ℕ → Spoken → Option State → Option Taken
take_by line s None = take_config line
take_by line s (Some state) = or_call state line (take_head s line)

-- what a line comes to: the first is `config`, the next may be `start` and then `best`, all others are calls; a line that is none of these is not taken
abbrev pub taken : Spoken → List ℕ → Option Taken
taken s line = take_by line s s.state

-- what is then: a line that is not taken changes nothing
abbrev pub then : Spoken → Option Taken → Spoken
then s None = s
then s (Some t) = t.1

-- behind a line `start` only `best` may come before the calls
abbrev pub place_from : Option Counters → ℕ
place_from None = 2
place_from (Some start) = 3

-- behind a line `config`: `start` and `best` may come, or only calls
abbrev pub place_behind : Option Counters → Option Said → ℕ
place_behind start (Some c) = place_from start
place_behind start None = 4

-- which line of a script may come next: the first, the second, the third, or a later one
abbrev pub place_by : Spoken → Option State → ℕ
place_by s None = 1
place_by s (Some state) = place_behind s.start s.said

-- which line of a script may come next
abbrev pub place : Spoken → ℕ
place s = place_by s s.state
