use Rattle.std.proofs.Common.{subst}
use Rattle.zq_strategy.specs.State.{HatState}
use Rattle.zq_hat.specs.Tied.{IsTied}
use Rattle.zq_hat.proofs.hat.Hat.declared_by_key.Goals as goal

pub returns : goal.returns
returns c = subst (λ (s : HatState). IsTied s.faces c.self.inside.index) c.self.view_is c.self.invariant.tied
