use Rattle.std.proofs.Common.{◌∙◌, ap, subst, sym, fold, List}
use Rattle.std.proofs.lemmas.Result.{on_ok_weaker}
use Rattle.zq_interests.specs.declared.types.FaceKey.{FaceKey}
use Rattle.zq_index.specs.Texts.{has_text}
use Rattle.zq_dispatcher.specs.Owns.{AllKeys, Owns, owns_of, with_folder}
use Rattle.zq_dispatcher.proofs.Owning.{all_keys, has_met}
use Rattle.zq_dispatcher.proofs.owns.put_met.Goals as goal

pub returns-clause-met : goal.returns-clause-met
returns-clause-met c =
    let fs : List FaceKey = c.in_ok-folders.folders in
    let owns : Owns = c.args.owns.now.entries in
    on_ok_weaker c.put_folders.result
    (λ put. λ face own.
    ap (λ (es : Owns). has_text own (owns_of face es)) (put ∙ ap (fold with_folder owns) c.as_slice.ensures)
    ∙ has_met face own c.args.key.now c.args.interests.now fs owns c.in_ok-folders.ensures.found)
    c.put_folders.ensures

pub returns-clause-valid : goal.returns-clause-valid
returns-clause-valid c all =
    let fs : List FaceKey = c.in_ok-folders.folders in
    let owns : Owns = c.args.owns.now.entries in
    on_ok_weaker c.put_folders.result
    (λ put. subst AllKeys (sym (put ∙ ap (fold with_folder owns) c.as_slice.ensures)) (all_keys fs owns c.in_ok-folders.ensures.valid all))
    c.put_folders.ensures
