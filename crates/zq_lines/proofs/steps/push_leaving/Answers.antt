use Rattle.std.proofs.Common.{◌∙◌, ◌++◌, sym, ap, append-nil}
use Rattle.zq_machine.specs.Handing.{left}
use Rattle.zq_lines.specs.Steps.{leaving_words}
use Rattle.zq_lines.proofs.Sameness.{says_nothing}
use Rattle.zq_lines.proofs.steps.push_leaving.Goals as goal

pub returns-in-Same : goal.returns-in-Same
returns-in-Same c =
    let out = c.args.out.now.items in
    let m = c.args.message.now in
    sym (append-nil out) ∙ ap (λ l. out ++ l) (sym (says_nothing m)) ∙ ap (λ x. out ++ leaving_words m (left m x)) (sym c.in-Same.is)
