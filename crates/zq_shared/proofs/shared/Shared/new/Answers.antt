use Rattle.std.proofs.Common.{ap, sym, subst}
use Rattle.zq_hold.specs.Owners.{Slotted}
use Rattle.zq_shared.specs.Stored.{Stored}
use Rattle.zq_shared.specs.Sharing.{IsShared}
use Rattle.zq_shared.proofs.Due.{shared_start}
use Rattle.zq_shared.proofs.Ties.{first_tied}
use Rattle.zq_shared.proofs.Asked.{none_open}
use Rattle.zq_shared.proofs.shared.Shared.new.Goals as goal

pub invariant_of-result : goal.invariant_of-result
invariant_of-result c =
    let all = c.in_ok-slots.ensures.slots in
    subst (λ (x : Stored). IsShared x c.in_ok-slots.slots) (sym c.in_ok-journal.ensures)
    (shared_start c.args.config.now c.in_ok-slots.slots
    (first_tied c.args.config.now c.args.slots c.in_ok-slots.slots (ap (λ (m : Slotted). m.keeper.marks) all) (ap (λ (m : Slotted). m.owners) all) (ap (λ (m : Slotted). m.keeper.lent) all) (none_open c.args.config.now)))
