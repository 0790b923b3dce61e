use Rattle.std.proofs.Common.{◌∙◌, ap}
use Rattle.std.specs.Option.{option_copied}
use Rattle.zq_egress.specs.Neighbours.{asked_back}
use Rattle.zq_egress.proofs.Held.{asked_out}
use Rattle.zq_egress.proofs.answers.hold_and_answer.Goals as goal

pub returns-in-Err-answer_all-clause-err : goal.returns-in-Err-answer_all-clause-err
returns-in-Err-answer_all-clause-err g c =
    c.let_go.ensures
    ∙ ap (asked_back c.args.face.0 c.args.id c.in-Ok.fresh) (c.in-Err-answer_all.ensures.err ∙ c.in-Ok.ensures.ok)
    ∙ asked_out c.args.face.0 c.args.id (option_copied c.args.key) c.in-Ok.fresh c.args.names.now c.in-Ok.ensures.fresh
