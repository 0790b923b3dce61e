use Rattle.std.proofs.Common.{◌≡◌, Some, subst, sym}
use Rattle.zq_hold.specs.declared.slot.Mark.{Mark}
use Rattle.zq_hold.specs.declared.slot.Mark.TheVariants.{Kept}
use Rattle.zq_hold.specs.Marks.{HasMark}
use Rattle.zq_hold.specs.Owners.{MayOwn, Slotted, owned, owner_at}
use Rattle.zq_hold.proofs.Owning.{give_fits, owner_set}
use Rattle.zq_hold.proofs.slots.Slots.give.Goals as goal

pub invariant_of-self : goal.invariant_of-self
invariant_of-self c =
    let kept = subst (λ (v : Slotted). HasMark Kept v.keeper.marks c.args.slot.0) (sym c.self.view_is) c.requires.kept in
    let new = subst (λ (v : Slotted). owned c.args.number v.owners ≡ 0) (sym c.self.view_is) c.requires.new in
    owner_set c.self.inside.keeper.marks c.self.inside.owners.items c.self.invariant c.args.slot.0 (Some c.args.number) kept.0
    (subst (λ (m : Mark). MayOwn m (Some c.args.number)) (sym kept.1) tt)
    (give_fits c.args.number c.self.inside.owners.items (owner_at c.self.inside.owners.items c.args.slot.0) new c.self.invariant.once)
