use Rattle.std.proofs.Common.{◌≡◌, sym, Some}
use Rattle.zq_strategy.specs.Offers.{offers_of}
use Rattle.zq_strategy.specs.State.{HatState}
use Rattle.zq_machine.specs.State.{hat_at}
use Rattle.zq_kept.proofs.Current.{some_of}
use Rattle.zq_kept.proofs.offers.kept_at.Goals as goal

pub returns-clause-value : goal.returns-clause-value
returns-clause-value c hats current =
    some_of (λ os. (h : HatState) → hat_at c.args.destination.now hats ≡ Some h → os ≡ offers_of h c.args.asker.now c.args.key.now (Some c.args.node)) c.get.result _ c.get.ensures
    (λ os is h at. current c.args.destination.now c.args.key.now c.args.asker.now c.args.node os (sym is) h at)
