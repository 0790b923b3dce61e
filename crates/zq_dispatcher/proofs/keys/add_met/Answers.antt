use Rattle.std.proofs.Common.{◌≡◌, ◌∙◌, ap, sym, filter, fold, List, map, OnOk, subst, ℕ}
use Rattle.std.specs.BTreeSet.{insert_key}
use Rattle.std.specs.Option.{option_copied}
use Rattle.std.specs.String.{string_bytes}
use Rattle.zq_key.specs.Key.{intersects}
use Rattle.zq_index.specs.Texts.{text_cmp}
use Rattle.zq_strategy.specs.Trees.{region_keys}
use Rattle.zq_interests.specs.Interests.{meets}
use Rattle.zq_dispatcher.proofs.KeysMet.{met_by_key, met_by_none}
use Rattle.zq_dispatcher.proofs.keys.add_met.Goals as goal

pub returns-in-Some-clause-joined : goal.returns-in-Some-clause-joined
returns-in-Some-clause-joined c =
    let keys = region_keys c.args.hat.now in
    subst (λ (ks : List (List ℕ)). OnOk c.add_met_keys.result (map string_bytes c.add_met_keys.new.keys.keys ≡ fold (insert_key text_cmp) (map string_bytes c.args.keys.now.keys) ks))
    (ap (λ (q : List ℕ). filter (λ k. intersects k q) keys) c.as_str.ensures.text
    ∙ met_by_key c.in-Some.asked.now keys
    ∙ ap (λ o. filter (meets (option_copied o)) keys) (sym c.in-Some.is))
    c.add_met_keys.ensures.joined

pub returns-in-None-clause-joined : goal.returns-in-None-clause-joined
returns-in-None-clause-joined c =
    let keys = region_keys c.args.hat.now in
    subst (λ (ks : List (List ℕ)). OnOk c.add_keys.result (map string_bytes c.add_keys.new.keys.keys ≡ fold (insert_key text_cmp) (map string_bytes c.args.keys.now.keys) ks))
    (sym (ap (λ o. filter (meets (option_copied o)) keys) c.in-None.is ∙ met_by_none keys))
    c.add_keys.ensures.joined
