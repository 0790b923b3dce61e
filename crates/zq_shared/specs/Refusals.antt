-- What a refusal says.
use Rattle.std.specs.Prelude.{◌≡◌, ℕ, true, List, Option}
use Rattle.zq_machine.specs.declared.call.Call.{Call}
use Rattle.zq_machine.specs.declared.call.Step.{Step}
use Rattle.zq_machine.specs.Configs.{Settings}
use Rattle.zq_machine.specs.Handing.{Handed}
use Rattle.zq_shared.specs.declared.shared.StepRefusal.{StepRefusal}
use Rattle.zq_shared.specs.declared.shared.StepRefusal.TheVariants as step_refusal
use Rattle.zq_shared.specs.declared.refusal.CallRefusal.{CallRefusal}
use Rattle.zq_shared.specs.declared.refusal.CallRefusal.TheVariants as refusal
use Rattle.zq_shared.specs.Stored.{asks_request}
use Rattle.zq_shared.specs.Answers.{IsAnswer, MayBeFull}
use Rattle.zq_shared.specs.Sending.{Breaks, Fails}
use Rattle.zq_shared.specs.Tallies.{Tallied, with_full, with_stored}

-- the refusal of a call whose step was refused so
abbrev pub refused : StepRefusal → CallRefusal
refused (step_refusal.Full none) = refusal.Full none
refused step_refusal.OutOfMemory = refusal.OutOfMemory

-- what the refusal of a step says of the stored calls: every slot is allotted only behind as many requests as there are slots
abbrev pub StepRefuses : Option (List Call) → ℕ → Tallied → StepRefusal → Type 0
StepRefuses list slots old (step_refusal.Full none) = MayBeFull list old.made slots
StepRefuses list slots old step_refusal.OutOfMemory = Unit {0}

-- what a caller counts where the step of a call is refused; only a request finds every slot allotted
abbrev pub StepCounts : Call → StepRefusal → Tallied → Tallied → Type 0
StepCounts c (step_refusal.Full none) old new = (asks_request c ≡ true) × (new ≡ with_full old)
StepCounts c step_refusal.OutOfMemory old new = new ≡ old

-- what a caller counts where its call is refused: a call whose link failed is stored; only a request finds every slot allotted
abbrev pub Counts : Call → CallRefusal → Tallied → Tallied → Type 0
Counts c (refusal.Full none) old new = (asks_request c ≡ true) × (new ≡ with_full old)
Counts c (refusal.LinkFault outcome sent) old new = new ≡ with_stored c old
Counts c refusal.OutOfMemory old new = new ≡ old

-- the link took nothing, and did not fail
abbrev pub IsQuiet : Option (List Handed) → Option (List Handed) → ℕ → ℕ → Type 0
IsQuiet before now faults faults' = (now ≡ before) × (faults' ≡ faults)

-- what a refusal says of the stored calls and of the link: every slot is allotted only behind as many requests as there are slots; a fault comes only where its count rose, and then it took a beginning of the messages that leave: those of the step that the call was answered, and then finals
abbrev pub Refuses : Settings → Option (List Call) → ℕ → Tallied → Call → CallRefusal → Option (List Handed) → Option (List Handed) → ℕ → ℕ → Type 0
Refuses config list slots old c (refusal.Full none) before now faults faults' = IsQuiet before now faults faults' × MayBeFull list old.made slots
Refuses config list slots old c (refusal.LinkFault outcome sent) before now faults faults' = Fails faults faults' × (s : Step) × IsAnswer config list old.made c s × (s.outcome ≡ outcome) × Breaks config list s.handed sent before now
Refuses config list slots old c refusal.OutOfMemory before now faults faults' = IsQuiet before now faults faults'
