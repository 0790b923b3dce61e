use Rattle.std.proofs.Common.{◌≡◌, ◌∙◌, ◌++◌, ap, append-nil, subst, sym}
use Rattle.std.specs.Prelude.{OnOk}
use Rattle.zq_strategy.specs.Changes.{changed_by}
use Rattle.zq_dispatcher.proofs.Changed.{quiet, told_by_change}
use Rattle.zq_dispatcher.proofs.telling.tell_change.Goals as goal

pub returns-then-not-has_other_routing : goal.returns-then-not-has_other_routing
returns-then-not-has_other_routing c =
    let none = sym c.has_other_routing.ensures.value ∙ c.if-not-has_other_routing.true in
    sym (append-nil c.args.told.now)
    ∙ ap (λ l. c.args.told.now ++ l) (sym (quiet c.args.changed (changed_by c.args.change.now c.args.key.now) c.args.hats.now c.args.key.now c.has_other_routing.ensures.ordered none))

pub returns : goal.returns
returns c =
    subst (λ l. OnOk c.tell_on.result (c.tell_on.new.told ≡ c.args.told.now ++ l))
    (told_by_change c.args.changed c.args.change.now c.args.key.now c.args.hat.now c.args.hats.now c.has_other_routing.ensures.ordered c.requires c.info_after.result c.info_after.ensures)
    c.tell_on.ensures
