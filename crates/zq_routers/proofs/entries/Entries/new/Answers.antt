use Rattle.std.proofs.Common.{subst, sym, []}
use Rattle.zq_strategy.specs.Entries.{IsTied}
use Rattle.zq_routers.proofs.Entering.{tied_none}
use Rattle.zq_routers.proofs.entries.Entries.new.Goals as goal

pub invariant_of-result : goal.invariant_of-result
invariant_of-result c = subst (λ all. IsTied all c.new-2.result.entries) (sym c.new.ensures) (subst (IsTied []) (sym c.new-2.ensures.empty) tied_none)
