use Rattle.std.proofs.Common.{◌∙◌, ap}
use Rattle.zq_strategy.specs.Entries.{Entries, is_one_of, keys_by}
use Rattle.zq_routers.proofs.LosingKeys.{keys_are}
use Rattle.zq_routers.proofs.entries.Entries.losing.Goals as goal

pub returns-in-Ok : goal.returns-in-Ok
returns-in-Ok c =
    keys_are c.self.inside.by_key c.self.inside.by_router.entries c.self.invariant c.args.routers.now c.in-Ok.keys c.in-Ok.ensures
    ∙ ap (λ (all : Entries). keys_by (is_one_of c.args.routers.now) all) c.self.view_is
