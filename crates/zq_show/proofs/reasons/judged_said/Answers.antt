use Rattle.std.proofs.Common.{◌≡◌, ◌∙◌, subst, sym}
use Rattle.std.specs.Prelude.{IfOk}
use Rattle.zq_egress.specs.Askers.{asker_of}
use Rattle.zq_show.specs.declared.reasons.Judgement.{Judgement}
use Rattle.zq_show.proofs.Judged.{judged_is}
use Rattle.zq_show.proofs.reasons.judged_said.Goals as goal

pub returns : goal.returns
returns c =
    subst (λ (x : Judgement). IfOk c.judged_on.result (λ (j : Judgement). j ≡ x))
    (judged_is c.args.hats.now c.args.asked.now.seen.now c.args.best (asker_of c.args.asked.now.asker) c.args.target c.args.said.now c.first_panel-panel.result c.full_text-key.result.now
    (sym c.says_key.ensures ∙ c.if-not-says_key.false) c.first_panel-panel.ensures c.full_text-key.ensures)
    c.judged_on.ensures
