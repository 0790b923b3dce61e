-- A whole run inside one namespace: no member notices.
use Rattle.std.specs.Prelude.{◌≡◌, ℕ, true, List, map}
use Rattle.zq_key.specs.Key.{is_plain}
use Rattle.zq_key.specs.Space.{behind}
use Rattle.zq_machine.specs.declared.call.Call.{Call}
use Rattle.zq_machine.specs.declared.call.Outcome.{Outcome}
use Rattle.zq_machine.specs.declared.call.Step.{Step}
use Rattle.zq_machine.specs.Configs.{Settings}
use Rattle.zq_machine.specs.Machine.{steps}
use Rattle.zq_moved.specs.Moving.{can_move, moved, moved_under}
use Rattle.zq_moved.specs.Received.{received}

-- what a call is answered
abbrev pub outcome_of : Step → Outcome
outcome_of t = t.outcome

-- the calls are answered the same in both runs, one by one, and each face has received the same
pub record IsUnnoticed (config : Settings) (n : List ℕ) (calls : List Call) : Type 0 where
  pub outcomes : map outcome_of (steps config (moved n calls)) ≡ map outcome_of (steps config calls)
  pub messages : (face : ℕ) → received face (moved n calls) (steps config (moved n calls)) ≡ received face calls (steps config calls)

-- so it is of every configuration, plain namespace and list of calls that can be moved
abbrev pub MovesUnnoticed : Type 0
MovesUnnoticed = (config : Settings) (n : List ℕ) (calls : List Call) → is_plain n ≡ true → can_move calls ≡ true → IsUnnoticed config n calls

-- calls that were moved into a namespace, and then under a prefix, were moved into the namespace behind the prefix
abbrev pub MovesTwice : Type 0
MovesTwice = (n m : List ℕ) (calls : List Call) → moved_under n (moved m calls) ≡ moved (behind n m) calls

-- a run of calls that were moved already, and the run of the same under a prefix: answers and what faces receive are the same
pub record IsNested (config : Settings) (n : List ℕ) (calls : List Call) : Type 0 where
  pub outcomes : map outcome_of (steps config (moved_under n calls)) ≡ map outcome_of (steps config calls)
  pub messages : (face : ℕ) → received face (moved_under n calls) (steps config (moved_under n calls)) ≡ received face calls (steps config calls)

-- so it is of each plain prefix, each plain namespace and all calls that can be moved
abbrev pub NestsUnnoticed : Type 0
NestsUnnoticed = (config : Settings) (n m : List ℕ) (calls : List Call) → is_plain n ≡ true → is_plain m ≡ true → can_move calls ≡ true → IsNested config n (moved m calls)
