use Rattle.std.proofs.Common.{◌∙◌, sym, ap, arith, take}
use Rattle.zq_shared.specs.Links.{leaving, with_taken}
use Rattle.zq_shared.proofs.Sends.{begins, few_leave}
use Rattle.zq_shared.proofs.link.send_all.Goals as goal

pub returns-in_default-clause-few : goal.returns-in_default-clause-few
returns-in_default-clause-few g c = let s = c.messages.invariant.2 in let b = begins c.args.handed.now c.messages.message-index in let few = b.1 in omega (arith, s, few)

pub returns-in_default-clause-front : goal.returns-in_default-clause-front
returns-in_default-clause-front g c =
    let i = c.messages.invariant in
    let b = begins c.args.handed.now c.messages.message-index in
    c.in_default.ensures.kept.same ∙ (i.1 ∙ ap (with_taken (g.L.Link.taken c.args.link.now)) (sym (ap (λ k. take k (leaving c.args.handed.now)) i.2 ∙ b.0)))

pub overflow_add-sent : goal.overflow_add-sent
overflow_add-sent g c = let s = c.messages.invariant.2 in let f = few_leave c.args.handed.now c.messages.message-index c.messages-test.true in let t = c.messages-test.true in omega (arith, s, f, t)
