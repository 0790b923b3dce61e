-- Traces that runs make.
use Rattle.std.proofs.Common.{◌≡◌, ◌∙◌, refl, sym, ap, subst, List, [], ◌∷◌, ◌++◌}
use Rattle.zq_machine.specs.declared.call.Call.{Call}
use Rattle.zq_machine.specs.declared.call.Step.{Step}
use Rattle.zq_machine.specs.Configs.{Settings}
use Rattle.zq_machine.specs.State.{State, opening_state}
use Rattle.zq_machine.specs.Machine.{after, state_after, step, steps, steps_from}
use Rattle.zq_machine.specs.Headline.{KeepsPromises, RunPromise}
use Rattle.zq_machine.proofs.Kept.{headline}
use Rattle.zq_trace.specs.Faces.{Trace}
pub use Rattle.zq_trace.specs.Machine.{IsRun, reached}

-- the calls of a trace, the first one first
abbrev pub calls_of : Trace → List Call
calls_of [] = []
calls_of (x ∷ past) = calls_of past ++ x.0 ∷ []

-- their steps
abbrev pub steps_of : Trace → List Step
steps_of [] = []
steps_of (x ∷ past) = steps_of past ++ x.1 ∷ []

state_more : (cs : List Call) (c : Call) (s : State) → state_after s (cs ++ c ∷ []) ≡ after (state_after s cs) c
state_more [] c s = refl
state_more (d ∷ cs) c s = state_more cs c (after s d)

steps_more : (cs : List Call) (c : Call) (s : State) → steps_from s (cs ++ c ∷ []) ≡ steps_from s cs ++ step (state_after s cs) c ∷ []
steps_more [] c s = refl
steps_more (d ∷ cs) c s = ap (λ l. step s d ∷ l) (steps_more cs c (after s d))

pub state_of : (config : Settings) (past : Trace) → state_after (opening_state config) (calls_of past) ≡ reached config past
state_of config [] = refl
state_of config (x ∷ past) = state_more (calls_of past) x.0 (opening_state config) ∙ ap (λ s. after s x.0) (state_of config past)

pub steps_is : (config : Settings) (past : Trace) → IsRun config past → steps config (calls_of past) ≡ steps_of past
steps_is config [] run = refl
steps_is config (x ∷ past) run =
    steps_more (calls_of past) x.0 (opening_state config)
    ∙ ap (λ l. l ++ step (state_after (opening_state config) (calls_of past)) x.0 ∷ []) (steps_is config past run.1)
    ∙ ap (λ s. steps_of past ++ step s x.0 ∷ []) (state_of config past)
    ∙ ap (λ t. steps_of past ++ t ∷ []) (sym run.0)

-- what runs promise, at the end of a trace
pub run_promise : (config : Settings) (past : Trace) → RunPromise config (calls_of past)
run_promise config past = headline config (calls_of past)

pub call_promise : (config : Settings) (past : Trace) (c : Call) → KeepsPromises (reached config past) c
call_promise config past c = subst (λ s. KeepsPromises s c) (state_of config past) ((headline config (calls_of past ++ c ∷ [])).each (calls_of past) [] c refl)
