use Rattle.std.proofs.Common.{◌∙◌, ap, subst, sym}
use Rattle.zq_strategy.specs.Entries.{IsTied, without_entry}
use Rattle.zq_routers.proofs.Entering.{take_is, tied_take}
use Rattle.zq_routers.proofs.entries.Entries.take.Goals as goal

pub invariant_of-self : goal.invariant_of-self
invariant_of-self c =
    subst (λ all. IsTied all c.unlist_key.new.routers.entries) (sym c.take.ensures)
    (tied_take c.self.inside.by_key c.self.inside.by_router.entries c.self.invariant c.args.router.0 c.args.key.now c.unlist_key.new.routers.entries c.unlist_key.ensures)

pub returns : goal.returns
returns c = c.take.ensures ∙ take_is c.args.router.0 c.args.key.now c.self.inside.by_key c.self.invariant.ordered.texts ∙ ap (without_entry c.args.router.0 c.args.key.now) c.self.view_is
