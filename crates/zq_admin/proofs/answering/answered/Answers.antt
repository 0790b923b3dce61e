use Rattle.zq_admin.specs.Answering.{going_on, with_replies}
use Rattle.zq_admin.proofs.Ended.{err_map, final_cut, final_made, ok_map}
use Rattle.zq_admin.proofs.answering.answered.Goals as goal

pub returns-clause-ok : goal.returns-clause-ok
returns-clause-ok c =
    ok_map c.replies-all.result _ _
    (λ k. final_made c.args.asked.own c.args.asked.rid (with_replies c.args.asked.own c.args.asked.rid (going_on c.args.begun.steps.items c.args.gateway.now.state) c.args.entries) _ _ _ _ k c.ended-steps.ensures.steps c.ended-steps.ensures.after)
    c.replies-all.ensures.ok

pub returns-clause-cut : goal.returns-clause-cut
returns-clause-cut c =
    err_map c.replies-all.result _ _
    (λ k. final_cut c.args.asked.own c.args.asked.rid (going_on c.args.begun.steps.items c.args.gateway.now.state) c.args.entries _ _ _ _ k c.ended-steps.ensures.steps c.ended-steps.ensures.after)
    c.replies-all.ensures.cut
