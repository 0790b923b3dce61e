use Rattle.std.proofs.Common.{◌∙◌, sym, ap, fold, None, Option}
use Rattle.std.specs.Option.{option_copied, option_map_or}
use Rattle.zq_index.specs.Holders.{Holdings, with_held}
use Rattle.zq_strategy.specs.Kept.{faces_info}
use Rattle.zq_strategy.specs.State.{HatState}
use Rattle.zq_hat.proofs.Reading.{merged_is}
use Rattle.zq_hat.proofs.hat.Hat.declared_info.Goals as goal

pub returns-in-Some : goal.returns-in-Some
returns-in-Some c =
    let i = c.self.inside in
    c.merged.ensures
    ∙ ap (λ (o : Option Holdings). option_map_or (fold with_held None) o None) c.in-Some.ensures
    ∙ merged_is i.faces.entries i.index c.self.invariant.tied c.args.key.now
    ∙ ap (λ (s : HatState). faces_info c.args.key.now s.faces) c.self.view_is

pub returns-in-None : goal.returns-in-None
returns-in-None c =
    let i = c.self.inside in
    ap (λ (o : Option Holdings). option_map_or (fold with_held None) o None) (sym (ap option_copied c.in-None.is) ∙ c.get.ensures)
    ∙ merged_is i.faces.entries i.index c.self.invariant.tied c.args.key.now
    ∙ ap (λ (s : HatState). faces_info c.args.key.now s.faces) c.self.view_is
