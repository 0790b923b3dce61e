use Rattle.std.proofs.Common.{◌≡◌, ◌∙◌, sym, subst, ℕ, List, [], ◌∷◌, IfOk, fold}
use Rattle.std.specs.BTreeSet.{insert_key}
use Rattle.std.specs.List.{AllByRecursion}
use Rattle.zq_index.specs.Texts.{text_cmp}
use Rattle.zq_strategy.specs.declared.types.Change.TheVariants as change
use Rattle.zq_told.specs.declared.types.FaceUpdate.{FaceUpdate}
use Rattle.zq_machine.specs.Neighbours.{looked_over}
use Rattle.zq_dispatcher.specs.Dues.{AreKeys, IsBeside, hats_next}
use Rattle.zq_dispatcher.proofs.changes.dues_left.Goals as goal

-- what holds of every key holds of each of some
all_of : (P : List ℕ → Type 0) → ((key : List ℕ) → P key) → (ks : List (List ℕ)) → AllByRecursion P ks
all_of P each [] = tt
all_of P each (k ∷ ks) = (each k, all_of P each ks)

pub dues_on_all-requires-clause-keys : goal.dues_on_all-requires-clause-keys
dues_on_all-requires-clause-keys c = subst AreKeys (sym c.as_slice.ensures) c.in_ok-keys.ensures.valid

pub returns : goal.returns
returns c core faces hats beside =
    let keys = c.as_slice.ensures ∙ c.in_ok-keys.ensures.keys in
    subst (λ (ks : List (List ℕ)). IfOk c.dues_on_all.result (λ (ds : List FaceUpdate). ds ≡ looked_over core c.args.interests.now (fold (insert_key text_cmp) [] ks))) keys
    (c.dues_on_all.ensures core faces (all_of (λ (key : List ℕ). hats_next (record { region = c.args.region; change = change.Left c.args.face }) key c.args.hats.now ≡ core.hats) (λ key. hats) c.as_slice.result.now)
    (subst (λ (ks : List (List ℕ)). IsBeside core c.args.hats.now (fold (insert_key text_cmp) [] ks)) (sym keys) beside))
