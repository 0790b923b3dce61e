use Rattle.std.proofs.Common.{◌≡◌, ◌∙◌, ap, subst, true}
use Rattle.std.specs.List.{AllByRecursion}
use Rattle.std.specs.Map.{keys_of}
use Rattle.zq_key.specs.Key.{is_key}
use Rattle.zq_strategy.specs.declared.types.Strategy.{Strategy}
use Rattle.zq_strategy.specs.Kept.{declared_keys}
use Rattle.zq_strategy.specs.Regions.{in_routers, strategy_at}
use Rattle.zq_strategy.specs.State.{HatState}
use Rattle.zq_hat.proofs.IndexKeys.{keyed_texts}
use Rattle.zq_hat.proofs.hat.Hat.add_keys.Goals as goal

pub returns-in-Router-clause-valid : goal.returns-in-Router-clause-valid
returns-in-Router-clause-valid c =
    let i = c.self.inside in
    let now = c.args.self.now in
    subst (AllByRecursion (λ k. is_key k ≡ true))
    (ap (λ (s : HatState). keys_of s.entries) c.self.view_is
    ∙ ap (λ (k : Strategy). in_routers k (keys_of now.entries) (declared_keys now.faces)) (c.in-Router.ensures ∙ ap strategy_at c.self.view_is))
    (keyed_texts i.entries c.by_key.ensures.keys)
