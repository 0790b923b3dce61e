use Rattle.std.proofs.Common.{◌∙◌, ap, [], ◌∷◌, ◌++◌}
use Rattle.zq_admin.specs.Answering.{first_asked}
use Rattle.zq_admin.proofs.Called.{some_answered}
use Rattle.zq_admin.proofs.admin.answer_step.Goals as goal

pub returns-in-Some : goal.returns-in-Some
returns-in-Some c =
    some_answered c.args.own (first_asked c.args.own c.args.step.handed) c.in-Some.rid c.in-Some.found c.put_step.new.steps.items c.args.step c.args.gateway.now.state c.answer.new.gateway.state c.answer.result c.in-Some.ensures.some (c.put_step.ensures.items ∙ ap (λ l. l ++ c.args.step ∷ []) c.requires.steps) c.answer.ensures
