use Rattle.std.proofs.Common.{refl}
use Rattle.zq_admin.specs.Answering.{going_on}
use Rattle.zq_admin.proofs.Ended.{none_cut}
use Rattle.zq_admin.proofs.answering.answer.Goals as goal

pub returns-in_default : goal.returns-in_default
returns-in_default c = λ all found.
    none_cut c.args.asked.own c.args.asked.rid (going_on c.args.begun.steps.items c.args.gateway.now.state) all c.args.begun.steps.items c.ended-steps.result c.args.gateway.now.state c.ended-steps.new.gateway.state (record { steps = refl; state = refl }) c.ended-steps.ensures.steps c.ended-steps.ensures.after
