use Rattle.std.proofs.Common.{◌∙◌}
use Rattle.zq_dispatcher.proofs.Given.{network_hands}
use Rattle.zq_dispatcher.proofs.networks.tree_tellings.Goals as goal

pub returns : goal.returns
returns c = c.in_ok-told.ensures ∙ c.in_ok-own.ensures ∙ network_hands c.args.region c.args.hats.now c.args.hat.now c.requires c.args.net.now
