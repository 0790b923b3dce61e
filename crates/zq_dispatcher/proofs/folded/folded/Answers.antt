use Rattle.std.proofs.Common.{◌∙◌, sym, ap, subst, fold, map, ℕ, List, Option, None}
use Rattle.std.specs.Prelude.{string_bytes}
use Rattle.std.specs.Option.{option_copied}
use Rattle.zq_message.specs.declared.message.Region.{Region}
use Rattle.zq_strategy.specs.State.{HatState}
use Rattle.zq_dispatcher.specs.declared.types.RegionChange.{RegionChange}
use Rattle.zq_dispatcher.specs.Parts.{AreGathered, Folds, with_heard}
use Rattle.zq_dispatcher.proofs.Gathering.{found_gathered, gathered_fold, more_gathered, nothing_fold}
use Rattle.zq_dispatcher.proofs.folded.folded.Goals as goal

pub returns-in_default-clause-folded : goal.returns-in_default-clause-folded
returns-in_default-clause-folded c =
    nothing_fold (option_copied c.args.next) (map string_bytes c.args.touched.now.keys) c.args.hats.now c.args.face.0 c.args.opened (sym c.hat_at.ensures ∙ ap option_copied c.in_default.is) c.args.key.now

-- what was gathered before
pub returns-in-Some-fold_at-clause-folded : goal.returns-in-Some-fold_at-clause-folded
returns-in-Some-fold_at-clause-folded c =
    let next : Option RegionChange = option_copied c.args.next in
    let touched : List (List ℕ) = map string_bytes c.args.touched.now.keys in
    let hats : List (ℕ × HatState) = c.args.hats.now in
    let hat : HatState = c.in-Some.hat.now in
    let key : List ℕ = c.args.key.now in
    let are = c.as_slice.ensures ∙ found_gathered next touched hats c.args.opened.region key c.in-Some-fold_at.parts.now c.args.folds.now.entries c.requires.gathered (sym c.in-Some-fold_at.ensures) in
    c.heard_over.ensures
    ∙ (λ j. fold (with_heard hat (c.change_of-change.ensures j) c.args.face.0) None (are j))
    ∙ gathered_fold next touched hats c.args.face.0 c.args.opened hat (sym c.in-Some.ensures) key

-- what is gathered now
pub returns-in_ok-put_fold-in-None-clause-folded : goal.returns-in_ok-put_fold-in-None-clause-folded
returns-in_ok-put_fold-in-None-clause-folded c =
    let next : Option RegionChange = option_copied c.args.next in
    let touched : List (List ℕ) = map string_bytes c.args.touched.now.keys in
    let hats : List (ℕ × HatState) = c.args.hats.now in
    let hat : HatState = c.in-Some.hat.now in
    let are = c.as_slice-in-None.ensures ∙ c.in_ok-parts-in-None.ensures in
    c.heard_over-heard.ensures
    ∙ (λ j. fold (with_heard hat (c.change_of-change.ensures j) c.args.face.0) None (are j))
    ∙ gathered_fold next touched hats c.args.face.0 c.args.opened hat (sym c.in-Some.ensures) c.args.key.now

pub returns-in_ok-put_fold-in-None-clause-gathered : goal.returns-in_ok-put_fold-in-None-clause-gathered
returns-in_ok-put_fold-in-None-clause-gathered c =
    let next : Option RegionChange = option_copied c.args.next in
    let touched : List (List ℕ) = map string_bytes c.args.touched.now.keys in
    let hats : List (ℕ × HatState) = c.args.hats.now in
    let region : Region = c.args.opened.region in
    let folds : Folds = c.args.folds.now.entries in
    subst (AreGathered next touched hats) (sym c.in_ok-put_fold-in-None.ensures)
    (more_gathered next touched hats region c.args.key.now c.in_ok-parts-in-None.parts folds c.requires.gathered c.in_ok-parts-in-None.ensures)
