-- What a lock round the state of callers with passes keeps, and what a call through it says.
use Rattle.std.specs.Prelude.{◌≡◌, ℕ, ◌≤◌, List, length, true, All, Option, None}
use mathlib.Core.List.{IsPrefix}
use Rattle.zq_machine.specs.declared.call.Call.{Call}
use Rattle.zq_machine.specs.declared.call.Step.{Step}
use Rattle.zq_machine.specs.Configs.{Settings}
use Rattle.zq_machine.specs.Handing.{Handed}
use Rattle.zq_shared.specs.Stored.{asks_request, requests_in}
use Rattle.zq_shared.specs.declared.shared.StepRefusal.{StepRefusal}
use Rattle.zq_shared.specs.declared.shared.StepRefusal.TheVariants as step_refusal
use Rattle.zq_shared.specs.declared.refusal.CallRefusal.{CallRefusal}
use Rattle.zq_shared.specs.declared.refusal.CallRefusal.TheVariants as refusal
use Rattle.zq_pass.specs.Entries.{Entry, calls_of, made_in, owners_of}
use Rattle.zq_pass.specs.Passes.{Journaled, PassId, Passing, home_of}
use Rattle.zq_pass.specs.Stepping.{IsMade}
use Rattle.zq_shared.specs.Refusals.{IsQuiet}
use Rattle.zq_shared.specs.Sending.{Breaks, Fails}

-- a name means this configuration and this state; the book's total is how many of the stored calls are no reports
pub record IsLocked (config : Settings) (home : PassId) (s : Journaled) (total : ℕ) : Type 0 where
  pub means : s.sharing.stored.config ≡ config
  pub here : home_of s ≡ home
  pub counted : total ≡ made_in s.sharing.stored.calls

-- what a refused step says of the call and of what the pass has seen: only a request finds every slot allotted, and only where the pass has seen as many requests as there are slots
abbrev pub StepRefuses : ℕ → Call → List Entry → StepRefusal → Type 0
StepRefuses slots c seen (step_refusal.Full none) = (asks_request c ≡ true) × (slots ≤ requests_in (calls_of seen))
StepRefuses slots c seen step_refusal.OutOfMemory = Unit {0}

-- what a refused call says: only a request finds every slot allotted; a call whose link failed is stored, and stands in what the pass has seen
abbrev pub Refuses : Settings → ℕ → ℕ → ℕ → List Entry → Call → CallRefusal → Option (List Handed) → Option (List Handed) → ℕ → ℕ → Type 0
Refuses config slots number old seen c (refusal.Full none) before now faults faults' = IsQuiet before now faults faults' × (asks_request c ≡ true) × (slots ≤ requests_in (calls_of seen))
Refuses config slots number old seen c (refusal.LinkFault outcome sent) before now faults faults' = Fails faults faults' × (place : ℕ) × (s : Step) × IsMade config number old seen c place s × (s.outcome ≡ outcome) × Breaks config None s.handed sent before now
Refuses config slots number old seen c refusal.OutOfMemory before now faults faults' = IsQuiet before now faults faults'

-- how many more calls are stored where a call is refused
abbrev pub more_stored : CallRefusal → ℕ
more_stored (refusal.Full none) = 0
more_stored (refusal.LinkFault outcome sent) = 1
more_stored refusal.OutOfMemory = 0

-- each stored call has its owner, and what each of the passes had seen is a beginning of the calls with their owners
pub record IsFinished (passes : List Passing) (who : List ℕ) (calls : List Call) : Type 0 where
  pub list : List Entry
  pub calls_are : calls_of list ≡ calls
  pub owners_are : owners_of list ≡ who
  pub seen : All (λ (p : Passing). IsPrefix p.seen list) passes
