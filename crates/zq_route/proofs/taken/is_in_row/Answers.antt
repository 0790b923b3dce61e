use Rattle.std.proofs.Common.{◌∙◌, sym}
use Rattle.zq_route.proofs.Rising.{found, none_there}
use Rattle.zq_route.proofs.taken.is_in_row.Goals as goal

pub returns-then-rises : goal.returns-then-rises
returns-then-rises c = sym (none_there c.args.faces.now c.args.face (c.rises.ensures c.if-rises.true))

pub returns : goal.returns
returns c = c.is_ok.ensures.value ∙ found c.args.faces.now c.args.face c.binary_search.result c.requires c.binary_search.ensures.position
