use Rattle.std.proofs.Common.{List, ℕ, None, refl, set, subst, sym, ap}
use Rattle.zq_hold.specs.declared.slot.Mark.{Mark}
use Rattle.zq_hold.specs.declared.slot.Mark.TheVariants.{Vacant}
use Rattle.zq_hold.specs.Seats.{Keeping}
use Rattle.zq_hold.specs.Owners.{IsSlotted, owner_at}
use Rattle.zq_hold.proofs.Owning.{goes_fits, slot_set}
use Rattle.zq_hold.proofs.slots.Slots.vacate.Goals as goal

pub invariant_of-self : goal.invariant_of-self
invariant_of-self c =
    let slot = c.vacate-slot.ensures.slot in
    let marks = ap (λ (k : Keeping). k.marks) c.vacate-slot.ensures.keeper in
    subst (λ (l : List Mark). IsSlotted l (set c.self.inside.owners.items c.vacate-slot.result.0 None)) (sym marks)
    (subst (λ (k : ℕ). IsSlotted (set c.self.inside.keeper.marks c.args.last.slot Vacant) (set c.self.inside.owners.items k None)) (sym slot.0)
    (slot_set c.self.inside.keeper.marks c.self.inside.owners.items c.self.invariant c.args.last.slot Vacant None slot.1.0 refl
    (goes_fits c.self.inside.owners.items (owner_at c.self.inside.owners.items c.args.last.slot) c.self.invariant.once)))
