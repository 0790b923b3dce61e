use Rattle.std.proofs.Common.{◌∙◌, ◌++◌, ap, append-nil, sym}
use Rattle.zq_strategy.specs.declared.types.Change.TheVariants as change
use Rattle.zq_strategy.specs.Kept.{keys_of_face}
use Rattle.zq_dispatcher.proofs.Changed.{quiet_each}
use Rattle.zq_dispatcher.proofs.telling.tell_left.Goals as goal

pub returns-then-not-has_other_routing : goal.returns-then-not-has_other_routing
returns-then-not-has_other_routing c =
    let none = sym c.has_other_routing.ensures.value ∙ c.if-not-has_other_routing.true in
    sym (append-nil c.args.told.now)
    ∙ ap (λ l. c.args.told.now ++ l) (sym (quiet_each c.args.region (change.Left c.args.face) c.args.hats.now (keys_of_face c.args.face.0 c.args.hat.now) c.has_other_routing.ensures.ordered none))
