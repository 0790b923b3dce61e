use Rattle.std.proofs.Common.{subst, sym}
use Rattle.zq_strategy.specs.Entries.{Entries, IsTied}
use Rattle.zq_routers.proofs.Entering.{tied_alike}
use Rattle.zq_routers.proofs.entries.Entries.copy.Goals as goal

pub invariant_of-result : goal.invariant_of-result
invariant_of-result c =
    subst (λ (all : Entries). IsTied all c.in_ok-copy_router_keys.field-0.entries) (sym c.in_ok-copy.ensures)
    (tied_alike c.self.inside.by_key c.self.inside.by_router.entries c.self.invariant c.in_ok-copy_router_keys.field-0.entries c.in_ok-copy_router_keys.ensures)
