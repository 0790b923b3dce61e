use Rattle.std.proofs.Common.{◌≡◌, ◌∙◌, ap, filter, fold, List, map, OnOk, subst, true, ℕ}
use Rattle.std.specs.BTreeSet.{insert_key}
use Rattle.std.specs.List.{AllByRecursion}
use Rattle.std.specs.Map.{keys_of}
use Rattle.std.specs.String.{string_bytes}
use Rattle.zq_key.specs.Key.{intersects, is_key}
use Rattle.zq_index.specs.Texts.{text_cmp}
use Rattle.zq_strategy.specs.declared.types.Strategy.{Strategy}
use Rattle.zq_strategy.specs.Kept.{declared_keys}
use Rattle.zq_strategy.specs.Regions.{in_routers, strategy_at}
use Rattle.zq_strategy.specs.State.{HatState}
use Rattle.zq_hat.proofs.IndexKeys.{keyed_texts}
use Rattle.zq_hat.proofs.hat.Hat.add_met_keys.Goals as goal

pub returns-in-Router-clause-joined : goal.returns-in-Router-clause-joined
returns-in-Router-clause-joined c =
    let now = c.args.self.now in
    subst (λ (ks : List (List ℕ)). OnOk c.add_met_texts.result (map string_bytes c.add_met_texts.new.texts.keys ≡ fold (insert_key text_cmp) (map string_bytes c.args.keys.now.keys) (filter (λ k. intersects k c.args.asked.now) ks)))
    (ap keys_of c.by_key.ensures.value
    ∙ ap (λ (s : HatState). keys_of s.entries) c.self.view_is
    ∙ ap (λ (k : Strategy). in_routers k (keys_of now.entries) (declared_keys now.faces)) (c.in-Router.ensures ∙ ap strategy_at c.self.view_is))
    c.add_met_texts.ensures

pub returns-in-Router-clause-valid : goal.returns-in-Router-clause-valid
returns-in-Router-clause-valid c =
    let i = c.self.inside in
    let now = c.args.self.now in
    subst (AllByRecursion (λ k. is_key k ≡ true))
    (ap (λ (s : HatState). keys_of s.entries) c.self.view_is
    ∙ ap (λ (k : Strategy). in_routers k (keys_of now.entries) (declared_keys now.faces)) (c.in-Router.ensures ∙ ap strategy_at c.self.view_is))
    (keyed_texts i.entries c.by_key.ensures.keys)
