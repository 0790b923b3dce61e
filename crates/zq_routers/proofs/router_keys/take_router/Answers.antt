use Rattle.zq_routers.proofs.Keys.{all_gone}
use Rattle.zq_routers.proofs.router_keys.take_router.Goals as goal

pub returns-clause-left : goal.returns-clause-left
returns-clause-left c = all_gone c.args.router c.args.routers.now.entries c.remove.new.self.entries c.remove.ensures.updates.0
