use Rattle.std.proofs.Common.{◌≡◌, ◌∙◌, sym, subst, ℕ, List, [], IfOk, fold, true}
use Rattle.std.specs.BTreeSet.{insert_key}
use Rattle.std.specs.List.{AllByRecursion}
use Rattle.std.specs.List.Sorted.{IsStrictlySortedBy}
use Rattle.zq_key.specs.Key.{is_key}
use Rattle.zq_index.specs.Texts.{text_cmp}
use Rattle.zq_told.specs.declared.types.FaceUpdate.{FaceUpdate}
use Rattle.zq_machine.specs.Neighbours.{looked_over}
use Rattle.zq_dispatcher.specs.Dues.{AreKeys, IsBeside, hats_next}
use Rattle.zq_dispatcher.proofs.KeysGathered.{all_in}
use Rattle.zq_dispatcher.proofs.KeysMet.{all_rise, none_rise}
use Rattle.zq_dispatcher.proofs.changes.dues_on_all.Goals as goal

pub dues_over-requires-clause-keys : goal.dues_over-requires-clause-keys
dues_over-requires-clause-keys c =
    let is : c.as_slice.result.now ≡ fold (insert_key text_cmp) [] c.args.keys.now = c.as_slice.ensures ∙ c.in_ok-keys.ensures in
    subst AreKeys (sym is) (all_in text_cmp (λ (key : List ℕ). is_key key ≡ true) c.args.keys.now [] tt c.requires.keys)

pub dues_over-requires-clause-rise : goal.dues_over-requires-clause-rise
dues_over-requires-clause-rise c =
    let is : c.as_slice.result.now ≡ fold (insert_key text_cmp) [] c.args.keys.now = c.as_slice.ensures ∙ c.in_ok-keys.ensures in
    subst (IsStrictlySortedBy text_cmp) (sym is) (all_rise c.args.keys.now [] none_rise)

pub returns : goal.returns
returns c core faces hats beside =
    let is : c.as_slice.result.now ≡ fold (insert_key text_cmp) [] c.args.keys.now = c.as_slice.ensures ∙ c.in_ok-keys.ensures in
    let P : List ℕ → Type 0 = λ key. hats_next c.args.next.now key c.args.hats.now ≡ core.hats in
    subst (λ (ks : List (List ℕ)). IfOk c.dues_over.result (λ (ds : List FaceUpdate). ds ≡ looked_over core c.args.interests.now ks)) is
    (c.dues_over.ensures core faces (record { after = subst (AllByRecursion P) (sym is) (all_in text_cmp P c.args.keys.now [] tt hats); beside = subst (IsBeside core c.args.hats.now) (sym is) beside }))
