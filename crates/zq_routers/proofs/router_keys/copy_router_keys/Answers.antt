use Rattle.zq_routers.proofs.Copied.{copied_alike}
use Rattle.zq_routers.proofs.router_keys.copy_router_keys.Goals as goal

pub returns : goal.returns
returns c = copied_alike c.args.routers.now.entries c.in_ok-clone.field-0.entries c.in_ok-clone.ensures.cases
