use Rattle.std.proofs.Common.{◌≡◌, [], List, arith, length, subst, ◌∙◌, sym, true}
use Rattle.std.proofs.lemmas.List.{nil_from_length}
use Rattle.zq_hold.specs.declared.slot.Slot.{Slot}
use Rattle.zq_shared.specs.Holding.{AreHeld}
use Rattle.zq_shared.proofs.Holds.{all_released}
use Rattle.zq_tests_threads.proofs.seats.holds_nothing.Goals as goal

pub returns : goal.returns
returns c = λ yes.
    let none : c.args.held.now ≡ [] = nil_from_length c.args.held.now (grind (arith, sym c.is_empty.ensures ∙ yes)) in
    all_released c.args.seat.now.held (subst (λ (l : List Slot). AreHeld l c.args.seat.now.held) none c.requires)
