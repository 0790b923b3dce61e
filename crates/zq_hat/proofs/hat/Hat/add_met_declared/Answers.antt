use Rattle.std.proofs.Common.{◌≡◌, ◌∙◌, ap, filter, fold, List, map, OnOk, subst, true, ℕ}
use Rattle.std.specs.BTreeSet.{insert_key}
use Rattle.std.specs.List.{AllByRecursion}
use Rattle.std.specs.String.{string_bytes}
use Rattle.zq_key.specs.Key.{intersects, is_key}
use Rattle.zq_index.specs.Texts.{text_cmp}
use Rattle.zq_strategy.specs.Kept.{declared_keys}
use Rattle.zq_strategy.specs.State.{HatState}
use Rattle.zq_hat.proofs.IndexKeys.{all_keyed, keyed_texts, keys_are}
use Rattle.zq_hat.proofs.hat.Hat.add_met_declared.Goals as goal

pub add_met_texts-requires-clause-keys : goal.add_met_texts-requires-clause-keys
add_met_texts-requires-clause-keys c = all_keyed c.self.inside.faces.entries c.self.inside.index c.self.invariant.tied

pub returns-clause-joined : goal.returns-clause-joined
returns-clause-joined c =
    let i = c.self.inside in
    subst (λ (ks : List (List ℕ)). OnOk c.add_met_texts.result (map string_bytes c.add_met_texts.new.texts.keys ≡ fold (insert_key text_cmp) (map string_bytes c.args.keys.now.keys) (filter (λ k. intersects k c.args.asked.now) ks)))
    (keys_are i.faces.entries i.index c.self.invariant.tied ∙ ap (λ (s : HatState). declared_keys s.faces) c.self.view_is) c.add_met_texts.ensures

pub returns-clause-valid : goal.returns-clause-valid
returns-clause-valid c =
    let i = c.self.inside in
    subst (AllByRecursion (λ k. is_key k ≡ true))
    (keys_are i.faces.entries i.index c.self.invariant.tied ∙ ap (λ (s : HatState). declared_keys s.faces) c.self.view_is) (keyed_texts i.index (all_keyed i.faces.entries i.index c.self.invariant.tied))
