-- One call of the gateway, and whole runs.
use Rattle.std.specs.Prelude.{ℕ, List, [], ◌∷◌, ◌++◌, map, Option, Some, None, if◌then◌else◌}
use Rattle.zq_machine.specs.declared.call.Call.{Call}
use Rattle.zq_machine.specs.Handing.{Handed}
use Rattle.zq_machine.specs.declared.call.Outcome.TheVariants as outcome
use Rattle.zq_machine.specs.declared.call.Refusal.{Refusal}
use Rattle.zq_machine.specs.declared.call.Step.{Step}
use Rattle.zq_machine.specs.Configs.{Settings}
use Rattle.zq_machine.specs.State.{State, opening_state}
use Rattle.zq_machine.specs.Gates.{Out, leave_all}
use Rattle.zq_machine.specs.Selecting.{full_text}
use Rattle.zq_machine.specs.TextCalls.{TextCall, asking, read}
use Rattle.zq_machine.specs.Deciding.{decide, accepted, renamed, regated, is_accepted}
use Rattle.zq_machine.specs.Writing.{Finished, Told, finish, sent_final, tell, unsent, write}

-- the state after an accepted call: what decides, what stands for keys, and the gates of faces
abbrev pub accepted_state : State → TextCall → State
accepted_state s t = record { core = accepted s.core t; names = renamed s t; gates = regated s t }

-- what the call itself changes; a refused call changes nothing
abbrev pub follow : State → TextCall → State
follow s t = if is_accepted (decide s.core t).outcome then accepted_state s t else s

-- the messages of requests that the call hands
abbrev pub sending : State → TextCall → List Handed
sending s t = write s.names (decide s.core t).messages

-- what faces are told, and what stands for keys then
abbrev pub telling : State → TextCall → Told
telling s t = tell (follow s t).core (decide s.core t).told (follow s t).names

-- all that the call hands, before the gates of faces say what leaves of it
abbrev pub handing : State → TextCall → List Handed
handing s t = sending s t ++ (telling s t).handed

-- the whole text that a request is on
abbrev pub asked_text : TextCall → List ℕ
asked_text (asking face s r now) = full_text s
asked_text t = []

-- the same through the gates, which then keep what is to be known of what did not leave
abbrev pub going_out : State → TextCall → Out
going_out s t = leave_all (asked_text t) (handing s t) (follow s t).gates

-- what decides, once the requests that did not leave are released, with the finals that come of it
abbrev pub finishing : State → TextCall → Finished
finishing s t = finish (follow s t).core (unsent (going_out s t).handed)

-- what a call whose expressions are read is answered: its messages, and the finals of requests that did not leave
abbrev pub answer : State → TextCall → Step
answer s t = record { outcome = (decide s.core t).outcome; handed = (going_out s t).handed ++ map sent_final (finishing s t).finals }

-- the state after it
abbrev pub settle : State → TextCall → State
settle s t = record { core = (finishing s t).core; names = (telling s t).names; gates = (going_out s t).gates }

-- what a call is answered
abbrev pub step : State → Call → Step
step s c = answer s (read s c)

-- the state after a call
abbrev pub after : State → Call → State
after s c = settle s (read s c)

-- a call that answers nothing of its own, and hands these messages
abbrev pub done : List Handed → Step
done handed = record { outcome = outcome.Done; handed = handed }

-- the step of a refused call
abbrev pub refused_step : Refusal → Step
refused_step r = record { outcome = outcome.Refused r; handed = [] }

-- the answers to calls, one after another
abbrev pub steps_from : State → List Call → List Step
steps_from s [] = []
steps_from s (c ∷ cs) = step s c ∷ steps_from (after s c) cs

-- the answers of a new gateway to calls
abbrev pub steps : Settings → List Call → List Step
steps config calls = steps_from (opening_state config) calls

-- the state after calls
abbrev pub state_after : State → List Call → State
state_after s [] = s
state_after s (c ∷ cs) = state_after (after s c) cs

-- the answer to a call that may be none, and the state after it
abbrev pub step_of : State → Option Call → Step
step_of s None = done []
step_of s (Some c) = step s c

-- the state after a call that may be none
abbrev pub after_of : State → Option Call → State
after_of s None = s
after_of s (Some c) = after s c
