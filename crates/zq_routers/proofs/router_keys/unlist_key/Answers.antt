use Rattle.zq_routers.proofs.Keys.{last_gone}
use Rattle.zq_routers.proofs.router_keys.unlist_key.Goals as goal

pub returns-then-take_key : goal.returns-then-take_key
returns-then-take_key c = last_gone c.args.router c.args.key.now c.args.routers.now.entries c.take_key.new.routers.entries c.take_router.new.routers.entries c.take_key.ensures.left c.take_router.ensures.left (c.take_key.ensures.empty c.if-take_key.true)
