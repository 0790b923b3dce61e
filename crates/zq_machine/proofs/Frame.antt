-- What no call changes.
use Rattle.std.proofs.Common.{◌≡◌, ◌∙◌, refl, Bool, true, false, cond, List, [], ◌∷◌}
use Rattle.zq_machine.specs.declared.call.Call.{Call}
use Rattle.zq_machine.specs.Deciding.{accepted, decide, is_accepted}
use Rattle.zq_machine.specs.Machine.{accepted_state, after, state_after}
use Rattle.zq_machine.specs.State.{Core, State}
use Rattle.zq_machine.specs.TextCalls.{TextCall, opening, read}
use Rattle.zq_machine.proofs.Writing.{settles_view}

pub accepted_config : (c : Core) (t : TextCall) → (accepted c t).config ≡ c.config
accepted_config c (opening o) = refl
accepted_config c t = refl

-- the configuration never changes
pub config_kept : (s : State) (c : Call) → (after s c).core.config ≡ s.core.config
config_kept s c = settles_view (λ (z : Core). z.config) (λ places c. refl) s (read s c) ∙ by (is_accepted (decide s.core (read s c)).outcome)
  where
    by : (b : Bool) → (cond b (accepted_state s (read s c)) s).core.config ≡ s.core.config
    by true = accepted_config s.core (read s c)
    by false = refl

pub run_config : (cs : List Call) (s : State) → (state_after s cs).core.config ≡ s.core.config
run_config [] s = refl
run_config (c ∷ cs) s = run_config cs (after s c) ∙ config_kept s c
