use Rattle.std.proofs.Common.{◌≡◌, subst, true}
use Rattle.std.specs.List.{AllByRecursion}
use Rattle.zq_key.specs.Key.{is_key}
use Rattle.zq_strategy.specs.Entries.{Entries}
use Rattle.zq_routers.proofs.Copied.{all_keys}
use Rattle.zq_routers.proofs.entries.Entries.by_key.Goals as goal

pub returns-clause-keys : goal.returns-clause-keys
returns-clause-keys c = subst (λ (all : Entries). AllByRecursion (λ e. is_key e.0 ≡ true) all) c.self.view_is (all_keys c.self.inside.by_key c.self.inside.by_router.entries c.self.invariant)
