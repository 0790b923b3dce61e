use Rattle.std.proofs.Common.{List, Option, ℕ, replicate, subst, sym, ap}
use Rattle.zq_hold.specs.declared.slot.Mark.{Mark}
use Rattle.zq_hold.specs.declared.slot.Mark.TheVariants.{Spare}
use Rattle.zq_hold.specs.Seats.{Keeping}
use Rattle.zq_hold.specs.Owners.{IsSlotted}
use Rattle.zq_hold.proofs.Owning.{first_slotted}
use Rattle.zq_hold.proofs.slots.Slots.new.Goals as goal

pub invariant_of-result : goal.invariant_of-result
invariant_of-result c =
    let marks = ap (λ (k : Keeping). k.marks) c.in_ok-keeper.ensures.keeper in
    subst (λ (l : List Mark). IsSlotted l c.in_ok-owners.owners.items) (sym marks)
    (subst (λ (l : List (Option ℕ)). IsSlotted (replicate c.args.slots Spare) l) (sym c.in_ok-owners.ensures) (first_slotted c.args.slots c.requires.slots.1))
