use Rattle.std.proofs.Common.{◌≡◌, ◌∙◌, ap, sym, subst, fold, map, ℕ, List, true}
use Rattle.std.specs.Prelude.{string_bytes, IfOk}
use Rattle.std.specs.BTreeSet.{insert_key}
use Rattle.zq_key.specs.Key.{is_key}
use Rattle.zq_index.specs.Texts.{text_cmp}
use Rattle.zq_dispatcher.specs.Dues.{AreKeys}
use Rattle.zq_dispatcher.proofs.KeysGathered.{all_in}
use Rattle.zq_dispatcher.proofs.KeysMet.{if_keys}
use Rattle.zq_dispatcher.proofs.Widened.{put_in_order}
use Rattle.zq_dispatcher.proofs.over.widened.Goals as goal

pub returns-clause-keys : goal.returns-clause-keys
returns-clause-keys c =
    let keys : List (List ℕ) = c.args.keys.now in
    subst (λ (l : List (List ℕ)). IfOk c.list_of.result (λ (ks : List (List ℕ)). ks ≡ l))
    (c.in_ok-join.ensures ∙ ap (λ ks. fold (insert_key text_cmp) ks c.args.owns.now) (c.in_ok-texts.ensures ∙ put_in_order keys c.requires.rise))
    c.list_of.ensures

pub returns-clause-valid : goal.returns-clause-valid
returns-clause-valid c =
    let keys : List (List ℕ) = c.args.keys.now in
    let is = c.in_ok-join.ensures ∙ ap (λ ks. fold (insert_key text_cmp) ks c.args.owns.now) (c.in_ok-texts.ensures ∙ put_in_order keys c.requires.rise) in
    if_keys c.list_of.result (map string_bytes c.join.new.texts.keys) c.list_of.ensures
    (subst AreKeys (sym is) (all_in text_cmp (λ key. is_key key ≡ true) c.args.owns.now keys c.requires.keys c.requires.owns))
