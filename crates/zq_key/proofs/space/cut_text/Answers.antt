use Rattle.zq_key.proofs.Strips.{cut_once}
use Rattle.zq_key.proofs.space.cut_text.Goals as goal

pub returns : goal.returns
returns c = cut_once c.args.text.now c.split_once.result c.split_once.ensures.cases
