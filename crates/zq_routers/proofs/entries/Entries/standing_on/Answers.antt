use Rattle.zq_routers.proofs.Standing.{sorted_bytes}
use Rattle.zq_routers.proofs.entries.Entries.standing_on.Goals as goal

pub returns-clause-ordered : goal.returns-clause-ordered
returns-clause-ordered c = sorted_bytes c.args.keys.now.keys c.into_iter-key-iterator.ensures.into_iter_gives.4
