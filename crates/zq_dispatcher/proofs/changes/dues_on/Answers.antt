use Rattle.std.proofs.Common.{◌≡◌, sym, subst, rules, ℕ, List, [], ◌∷◌, IfOk, Some}
use Rattle.std.specs.List.{AllByRecursion}
use Rattle.std.specs.List.Sorted.{IsStrictlySortedBy}
use Rattle.zq_index.specs.Texts.{text_cmp}
use Rattle.zq_told.specs.declared.types.FaceUpdate.{FaceUpdate}
use Rattle.zq_machine.specs.Neighbours.{looked_over}
use Rattle.zq_dispatcher.specs.Dues.{AreKeys, IsBeside, hats_after}
use Rattle.zq_dispatcher.proofs.Widened.{one_rises}
use Rattle.zq_dispatcher.proofs.changes.dues_on.Goals as goal

pub dues_over-requires-clause-keys : goal.dues_over-requires-clause-keys
dues_over-requires-clause-keys c =
    let is : c.as_slice.result.now ≡ c.args.key.now ∷ [] = search rules in
    subst AreKeys (sym is) (c.requires.key, tt)

pub dues_over-requires-clause-rise : goal.dues_over-requires-clause-rise
dues_over-requires-clause-rise c =
    let is : c.as_slice.result.now ≡ c.args.key.now ∷ [] = search rules in
    subst (IsStrictlySortedBy text_cmp) (sym is) (one_rises c.args.key.now)

pub returns : goal.returns
returns c core faces hats beside =
    let is : c.as_slice.result.now ≡ c.args.key.now ∷ [] = search rules in
    subst (λ (ks : List (List ℕ)). IfOk c.dues_over.result (λ (ds : List FaceUpdate). ds ≡ looked_over core c.args.interests.now ks)) is
    (c.dues_over.ensures core faces (record {
      after =
          subst (AllByRecursion (λ (key : List ℕ). hats_after (Some (record { region = c.args.region; change = c.args.change })) key c.args.hats.now ≡ core.hats)) (sym is)
          (hats, tt);
      beside = subst (IsBeside core c.args.hats.now) (sym is) beside;
    }))
