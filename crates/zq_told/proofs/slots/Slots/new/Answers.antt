use Rattle.std.proofs.Common.{sym, subst, Option}
use Rattle.zq_index.specs.Texts.{texts_of}
use Rattle.zq_told.specs.declared.types.ToldEntry.{ToldEntry}
use Rattle.zq_told.proofs.Slotted.{Sorted, none_sorted}
use Rattle.zq_told.proofs.slots.Slots.new.Goals as goal

pub invariant_of-result : goal.invariant_of-result
invariant_of-result c = subst (λ es. Sorted (texts_of es)) (sym c.new.ensures.empty) (none_sorted (Option ToldEntry))
