use Rattle.std.proofs.Common.{List, length, refl, sym, ap, subst, Ok, None}
use Rattle.zq_pass.specs.Entries.{Entry}
use Rattle.zq_pass.specs.Passes.{Passing}
use Rattle.zq_pass.specs.Stepping.{IsMade}
use Rattle.zq_shared.specs.Sending.{Mail}
use Rattle.zq_shared.proofs.Mails.{breaks_at, sends_all}
use Rattle.zq_pass.proofs.Locks.{sent_step}
use Rattle.zq_pass.proofs.lock.PassLock.call.Goals as goal

pub returns-in-Ok-clause-sends : goal.returns-in-Ok-clause-sends
returns-in-Ok-clause-sends g c =
    let a : Mail = record { taken = g.L.Link.taken c.args.link.now; faults = g.L.Link.faults c.args.link.now; sent = Ok 0 } in
    let b : Mail = record { taken = g.L.Link.taken c.send_on-sent.new.link; faults = g.L.Link.faults c.send_on-sent.new.link; sent = c.send_on-sent.result } in
    let e : Mail = record { taken = g.L.Link.taken c.settle_rest-sent.new.link; faults = g.L.Link.faults c.settle_rest-sent.new.link; sent = c.settle_rest-sent.result } in
    let z : Mail = record { taken = g.L.Link.taken c.release_all-sent.new.link; faults = g.L.Link.faults c.release_all-sent.new.link; sent = c.release_all-sent.result } in
    let all = sent_step g.H.PassHome.config c.in_ok-step.field-0.step.handed c.as_slice.result.now a b e z c.as_slice.ensures c.send_on-sent.ensures c.settle_rest-sent.ensures c.release_all-sent.ensures.sends in
    (sends_all g.H.PassHome.config None c.in_ok-step.field-0.step.handed a z refl c.in-Ok.field-0 c.in-Ok.is all).0

pub returns-in-Err-clause-refused : goal.returns-in-Err-clause-refused
returns-in-Err-clause-refused g c =
    let a : Mail = record { taken = g.L.Link.taken c.args.link.now; faults = g.L.Link.faults c.args.link.now; sent = Ok 0 } in
    let b : Mail = record { taken = g.L.Link.taken c.send_on-sent.new.link; faults = g.L.Link.faults c.send_on-sent.new.link; sent = c.send_on-sent.result } in
    let e : Mail = record { taken = g.L.Link.taken c.settle_rest-sent.new.link; faults = g.L.Link.faults c.settle_rest-sent.new.link; sent = c.settle_rest-sent.result } in
    let z : Mail = record { taken = g.L.Link.taken c.release_all-sent.new.link; faults = g.L.Link.faults c.release_all-sent.new.link; sent = c.release_all-sent.result } in
    let all = sent_step g.H.PassHome.config c.in_ok-step.field-0.step.handed c.as_slice.result.now a b e z c.as_slice.ensures c.send_on-sent.ensures c.settle_rest-sent.ensures c.release_all-sent.ensures.sends in
    let broke = breaks_at g.H.PassHome.config None c.in_ok-step.field-0.step.handed a z refl c.in-Err.sent c.in-Err.is all in
    let made = subst (λ (l : List Entry). IsMade g.H.PassHome.config c.args.pass.now.number (length c.args.pass.now.seen) l c.args.call c.in_ok-step.field-0.place c.in_ok-step.field-0.step) (sym (ap (λ (p : Passing). p.seen) c.release_all-sent.ensures.pass)) c.in_ok-step.ensures.made in
    (broke.0, c.in_ok-step.field-0.place, c.in_ok-step.field-0.step, made, refl, broke.1)
