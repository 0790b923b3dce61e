-- What a step of a caller with a pass says.
use Rattle.std.specs.Prelude.{◌≡◌, ℕ, ◌≤◌, List, length, slice_get, Some}
use Rattle.zq_machine.specs.declared.call.Call.{Call}
use Rattle.zq_machine.specs.declared.call.Step.{Step}
use Rattle.zq_machine.specs.Configs.{Settings}
use Rattle.zq_machine.specs.Machine.{steps}
use Rattle.zq_shared.specs.Stored.{requests_in}
use Rattle.zq_shared.specs.Ties.{Sharing}
use Rattle.zq_shared.specs.declared.shared.StepRefusal.{StepRefusal}
use Rattle.zq_shared.specs.declared.shared.StepRefusal.TheVariants as refusal
use Rattle.zq_shared.specs.Sharing.{IsFull, MaySpare}
use Rattle.zq_pass.specs.Entries.{Entry, calls_of}

-- why a step is refused, and what it leaves; lack of memory may come before a request is found to have no slot
abbrev pub PassRefuses : Sharing → Call → StepRefusal → Sharing → Type 0
PassRefuses old c (refusal.Full full) new = IsFull old c × (length old.slots.keeper.marks ≤ requests_in old.stored.calls) × (new ≡ old)
PassRefuses old c refusal.OutOfMemory new = MaySpare old new

-- the pass of that number made the call at that place of the list, behind a beginning of so many, and the step is what `steps` gives there
pub record IsMade (config : Settings) (number length_before : ℕ) (seen : List Entry) (c : Call) (place : ℕ) (t : Step) : Type 0 where
  pub behind : length_before ≤ place
  pub entry : slice_get seen place ≡ Some (number, c)
  pub answered : slice_get (steps config (calls_of seen)) place ≡ Some t
