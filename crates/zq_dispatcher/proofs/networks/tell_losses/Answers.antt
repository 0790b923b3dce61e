use Rattle.std.proofs.Common.{◌∙◌, ◌++◌, ap, append-nil, sym}
use Rattle.zq_strategy.specs.declared.types.Change.TheVariants as change
use Rattle.zq_strategy.specs.Routers.{losing}
use Rattle.zq_dispatcher.proofs.Changed.{quiet_each}
use Rattle.zq_dispatcher.proofs.networks.tell_losses.Goals as goal

pub returns-then-not-has_other_routing-clause-told : goal.returns-then-not-has_other_routing-clause-told
returns-then-not-has_other_routing-clause-told c =
    let none = sym c.has_other_routing.ensures.value ∙ c.if-not-has_other_routing.true in
    sym (append-nil c.args.told.now)
    ∙ ap (λ l. c.args.told.now ++ l) (sym (quiet_each c.args.region (change.Networked c.args.net) c.args.hats.now (losing c.args.net c.args.hat.now) c.has_other_routing.ensures.ordered none))
