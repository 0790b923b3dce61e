use Rattle.std.proofs.Common.{sym, ◌∙◌}
use Rattle.zq_index.proofs.Listed.{none_after, first_after}
use Rattle.zq_index.proofs.text_set.first_after.Goals as goal

pub returns-in-Some : goal.returns-in-Some
returns-in-Some c = first_after c.args.text.now c.in-Some.first.now c.args.texts.now.keys c.next.new.self c.range-later.ensures.ordered (sym (c.range-later.ensures.between tt) ∙ c.in-Some.ensures.steps)

pub returns-in-None : goal.returns-in-None
returns-in-None c = none_after c.args.text.now c.args.texts.now.keys (sym (c.range-later.ensures.between tt) ∙ c.in-None.ensures.steps.0)
