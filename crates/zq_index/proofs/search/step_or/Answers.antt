use Rattle.std.specs.String.{string_bytes}
use Rattle.zq_index.proofs.search.step_or.Goals as goal

pub returns : goal.returns
returns c = c.farther.ensures c.args.lists.now c.args.q.now (string_bytes c.args.key.now) c.in_ok-step.ensures c.requires
