use Rattle.std.proofs.Common.{◌≡◌, ◌∙◌, ap, fold, List, map, OnOk, subst, true, ℕ}
use Rattle.std.specs.BTreeSet.{insert_key}
use Rattle.std.specs.List.{AllByRecursion}
use Rattle.std.specs.String.{string_bytes}
use Rattle.zq_key.specs.Key.{is_key}
use Rattle.zq_index.specs.Texts.{text_cmp}
use Rattle.zq_strategy.specs.Kept.{declared_keys}
use Rattle.zq_strategy.specs.State.{HatState}
use Rattle.zq_hat.proofs.IndexKeys.{all_keyed, keyed_texts, keys_are}
use Rattle.zq_hat.proofs.hat.Hat.add_declared.Goals as goal

pub returns-clause-joined : goal.returns-clause-joined
returns-clause-joined c =
    let i = c.self.inside in
    subst (λ (ks : List (List ℕ)). OnOk c.add_texts.result (map string_bytes c.add_texts.new.texts.keys ≡ fold (insert_key text_cmp) (map string_bytes c.args.keys.now.keys) ks))
    (keys_are i.faces.entries i.index c.self.invariant.tied ∙ ap (λ (s : HatState). declared_keys s.faces) c.self.view_is) c.add_texts.ensures

pub returns-clause-valid : goal.returns-clause-valid
returns-clause-valid c =
    let i = c.self.inside in
    subst (AllByRecursion (λ k. is_key k ≡ true))
    (keys_are i.faces.entries i.index c.self.invariant.tied ∙ ap (λ (s : HatState). declared_keys s.faces) c.self.view_is) (keyed_texts i.index (all_keyed i.faces.entries i.index c.self.invariant.tied))
