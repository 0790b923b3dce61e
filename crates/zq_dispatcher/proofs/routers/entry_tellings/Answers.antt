use Rattle.std.proofs.Common.{◌∙◌, ◌++◌, ap}
use Rattle.zq_strategy.specs.Changes.{changed_by}
use Rattle.zq_machine.specs.State.{change_hat}
use Rattle.zq_machine.specs.Trees.{own_told_on}
use Rattle.zq_dispatcher.proofs.Entered.{changed_is}
use Rattle.zq_dispatcher.proofs.routers.entry_tellings.Goals as goal

pub returns : goal.returns
returns c =
    let hats = c.args.hats.now in
    let key = c.args.key.now in
    let changed = ap (λ x. changed_by x key) c.entry_change-change.ensures ∙ changed_is c.args.router key c.args.info in
    c.in_ok-tell_change.ensures ∙ (λ j. c.in_ok-told.ensures j ++ own_told_on hats (change_hat c.args.region (changed j) hats) key)
