-- What a call gives, and what a gateway has behind it.
use Rattle.std.specs.Prelude.{◌≡◌, ◌<◌, ◌^◌, false, List, Option, Some, Result, IfOk, OnOk, OnErr}
use Rattle.zq_message.specs.declared.memory.OutOfMemory.{OutOfMemory}
use Rattle.zq_machine.specs.declared.call.Call.{Call}
use Rattle.zq_machine.specs.declared.call.Step.{Step}
use Rattle.zq_machine.specs.Configs.{Settings}
use Rattle.zq_machine.specs.Machine.{after, after_of, answer, settle, state_after, step, step_of}
use Rattle.zq_machine.specs.State.{State, opening_state}
use Rattle.zq_machine.specs.TextCalls.{TextCall}
use Rattle.zq_kept.specs.Current.{KeepsNamed}
use Rattle.zq_gateway.specs.Caching.{Cached, MayKeepAsked, has_accepted, may_change_hat}

-- this step is answered, and this state is left; where memory was lacking, nothing changed
pub record Answers (old new : State) (answered : Step) (left : State) (r : Result Step OutOfMemory) : Type 0 where
  pub step : IfOk r (λ t. t ≡ answered)
  pub after : OnOk r (new ≡ left)
  pub err : OnErr r (new ≡ old)

-- the call is made: its step is answered, and the state after it is left
abbrev pub Makes : State → State → Call → Result Step OutOfMemory → Type 0
Makes old new c r = Answers old new (step old c) (after old c) r

-- the call, if there is one, is made
abbrev pub MayMake : State → State → Option Call → Result Step OutOfMemory → Type 0
MayMake old new c r = Answers old new (step_of old c) (after_of old c) r

-- the same of a call whose expressions are read
abbrev pub Settles : State → State → TextCall → Result Step OutOfMemory → Type 0
Settles old new t r = Answers old new (answer old t) (settle old t) r

-- calls made this state of a new gateway's, whose first id is one of 32 bits
pub record IsReached (s : State) : Type 0 where
  pub config : Settings
  pub low : config.start.told < 2 ^ 32
  pub calls : List Call
  pub here : s ≡ state_after (opening_state config) calls

-- the call, if there is one, is performed: its step is answered, and the state after it is left; where memory was lacking, the state is as it was. Offers kept on texts that have a node are kept still, unless the call was accepted and changes a hat; what is offered to a request is kept from then on
pub record MayPerform (old new : Cached) (c : Option Call) (r : Result Step OutOfMemory) : Type 0 where
  pub step : IfOk r (λ t. t ≡ step_of old.state c)
  pub after : OnOk r (new.state ≡ after_of old.state c)
  pub err : OnErr r (new.state ≡ old.state)
  pub spared : may_change_hat c ≡ false → KeepsNamed old.state.names old.routes new.routes
  pub refused : has_accepted r ≡ false → KeepsNamed old.state.names old.routes new.routes
  pub asked : OnOk r (MayKeepAsked old.state new.routes c)

-- the call is performed
abbrev pub Performs : Cached → Cached → Call → Result Step OutOfMemory → Type 0
Performs old new c r = MayPerform old new (Some c) r
