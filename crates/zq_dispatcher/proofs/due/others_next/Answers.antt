use Rattle.std.proofs.Common.{◌∙◌, ap, Option}
use Rattle.zq_message.specs.Region.{region_index}
use Rattle.zq_dispatcher.specs.declared.entries.NewInfo.{NewInfo}
use Rattle.zq_dispatcher.specs.Own.{own_entry_as}
use Rattle.zq_dispatcher.proofs.Nexts.{others_next}
use Rattle.zq_dispatcher.proofs.due.others_next.Goals as goal

pub returns : goal.returns
returns c =
    let place = region_index c.args.region in
    c.own_entry_as.ensures
    ∙ ap (λ (n : Option NewInfo). own_entry_as n place c.args.key.now c.args.hats.now) c.new_info-new.ensures
    ∙ others_next c.args.next.now c.args.key.now place c.args.hats.now c.iter-in_order.ensures.ordered
