use Rattle.zq_routers.proofs.Standing.{sorted_bytes}
use Rattle.zq_routers.proofs.router_keys.list_of.Goals as goal

pub returns-clause-ordered : goal.returns-clause-ordered
returns-clause-ordered c = sorted_bytes c.args.texts.now.keys c.into_iter-text-iterator.ensures.into_iter_gives.4
