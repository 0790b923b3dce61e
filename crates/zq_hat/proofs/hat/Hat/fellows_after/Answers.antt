use Rattle.std.proofs.Common.{◌∙◌, ap, sym, Option, Some}
use Rattle.std.specs.Option.{option_copied}
use Rattle.zq_strategy.specs.declared.types.Change.{Change}
use Rattle.zq_strategy.specs.Changes.{changed_if}
use Rattle.zq_strategy.specs.Fellows.{fellow_info}
use Rattle.zq_hat.proofs.Afterwards.{nothing_changed}
use Rattle.zq_hat.proofs.hat.Hat.fellows_after.Goals as goal

pub returns-in-Some : goal.returns-in-Some
returns-in-Some c =
    c.declared_after.ensures
    ∙ ap (λ (x : Option Change). fellow_info c.args.face.0 c.args.key.now (changed_if x c.args.key.now c.args.self.now)) (sym (ap option_copied c.in-Some.is))

pub returns-in-None : goal.returns-in-None
returns-in-None c =
    let i = c.self.inside in
    let n = c.args.face.0 in
    let key = c.args.key.now in
    c.merged_but.ensures
    ∙ nothing_changed i.faces.entries i.index c.self.invariant.tied key (Some c.args.face)
    ∙ ap (fellow_info n key) c.self.view_is
    ∙ ap (λ (x : Option Change). fellow_info n key (changed_if x key c.args.self.now)) (sym (ap option_copied c.in-None.is))
