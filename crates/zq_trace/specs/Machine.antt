-- The traces of runs; what is left to others, as the machine has it; and that the trace picks and refuses as the machine does.
use Rattle.std.specs.Prelude.{◌≡◌, true, List, [], ◌∷◌}
use Rattle.std.specs.List.{AllByRecursion}
use Rattle.zq_message.specs.declared.message.FaceId.{FaceId}
use Rattle.zq_message.specs.declared.message.Request.{Request}
use Rattle.zq_machine.specs.declared.call.Call.{Call}
use Rattle.zq_machine.specs.declared.config.Entry.{Entry}
use Rattle.zq_machine.specs.Configs.{Settings, region_of}
use Rattle.zq_machine.specs.Deciding.{lacks_told, refusal_of as machine_refusal}
use Rattle.zq_machine.specs.Machine.{after, step, steps}
use Rattle.zq_machine.specs.Selecting.{select as machine_select}
use Rattle.zq_machine.specs.State.{State, is_region, opening_state}
use Rattle.zq_machine.specs.TextCalls.{asked_said, read}
use Rattle.zq_trace.specs.Faces.{Trace}
use Rattle.zq_trace.specs.Selected.{select}
use Rattle.zq_trace.specs.Refusals.{Lacks, refusal_of}
use Rattle.zq_trace.specs.Headline.{Headline}
use Rattle.zq_trace.specs.Told.{Told}

-- the state after the calls of a trace
abbrev pub reached : Settings → Trace → State
reached config [] = opening_state config
reached config (x ∷ past) = after (reached config past) x.0

-- each step of the trace is the machine's
abbrev pub IsRun : Settings → Trace → Type 0
IsRun config [] = Unit {0}
IsRun config (x ∷ past) = (x.1 ≡ step (reached config past) x.0) × IsRun config past

-- that too few ids are left for what a call has to tell, as the machine has it
abbrev pub of_machine : Settings → Lacks
of_machine config past c = lacks_told (reached config past).core (read (reached config past) c)

-- a run of these calls keeps the headline
abbrev pub RunHeadline : Settings → List Call → Type 0
RunHeadline config calls = Headline (of_machine config) config calls (steps config calls)

-- what faces are told by a run of these calls is due to them
abbrev pub RunTold : Settings → List Call → Type 0
RunTold config calls = Told config calls (steps config calls)

-- at the end of each trace of a run, the trace picks the offers that the machine selects
abbrev pub PicksAlike : Settings → Type 0
PicksAlike config = (past : Trace) → IsRun config past → (face : FaceId) (r : Request) → select config past face r ≡ machine_select (reached config past).core face (asked_said face r (reached config past)) r

-- and refuses a call by the machine's cause
abbrev pub RefusesAlike : Lacks → Settings → Type 0
RefusesAlike lacks config = (past : Trace) → IsRun config past → (c : Call) → refusal_of lacks config past c ≡ machine_refusal (reached config past).core (read (reached config past) c)

-- each region of the configuration has an id that regions have
abbrev pub AreSmall : Settings → Type 0
AreSmall config = AllByRecursion (λ (e : Entry). is_region (region_of e) ≡ true) config.entries
