use Rattle.std.proofs.Common.{refl, Ok}
use Rattle.zq_shared.specs.Sending.{Mail}
use Rattle.zq_shared.proofs.Mails.{breaks_at, sends_all, went}
use Rattle.zq_shared.proofs.lock.TablesLock.call.Goals as goal

pub returns-in-Ok-clause-sends : goal.returns-in-Ok-clause-sends
returns-in-Ok-clause-sends g c =
    let a : Mail = record { taken = g.L.Link.taken c.args.link.now; faults = g.L.Link.faults c.args.link.now; sent = Ok 0 } in
    let b : Mail = record { taken = g.L.Link.taken c.send_on-sent.new.link; faults = g.L.Link.faults c.send_on-sent.new.link; sent = c.send_on-sent.result } in
    let d : Mail = record { taken = g.L.Link.taken c.send_on-sent-2.new.link; faults = g.L.Link.faults c.send_on-sent-2.new.link; sent = c.send_on-sent-2.result } in
    let e : Mail = record { taken = g.L.Link.taken c.settle_rest-sent.new.link; faults = g.L.Link.faults c.settle_rest-sent.new.link; sent = c.settle_rest-sent.result } in
    let z : Mail = record { taken = g.L.Link.taken c.release_all-sent.new.link; faults = g.L.Link.faults c.release_all-sent.new.link; sent = c.release_all-sent.result } in
    let all = went g.H.Home.config g.H.Home.list c.in_ok-step.field-0.step.handed c.in_ok-step.field-0.finals.items c.as_slice.result.now c.as_slice-2.result.now a b d e z c.as_slice.ensures c.as_slice-2.ensures.value c.send_on-sent.ensures c.in_ok-step.ensures.finals c.send_on-sent-2.ensures c.settle_rest-sent.ensures c.release_all-sent.ensures.sends in
    (sends_all g.H.Home.config g.H.Home.list c.in_ok-step.field-0.step.handed a z refl c.in-Ok.field-0 c.in-Ok.is all).0

pub returns-in-Err-clause-refused : goal.returns-in-Err-clause-refused
returns-in-Err-clause-refused g c =
    let a : Mail = record { taken = g.L.Link.taken c.args.link.now; faults = g.L.Link.faults c.args.link.now; sent = Ok 0 } in
    let b : Mail = record { taken = g.L.Link.taken c.send_on-sent.new.link; faults = g.L.Link.faults c.send_on-sent.new.link; sent = c.send_on-sent.result } in
    let d : Mail = record { taken = g.L.Link.taken c.send_on-sent-2.new.link; faults = g.L.Link.faults c.send_on-sent-2.new.link; sent = c.send_on-sent-2.result } in
    let e : Mail = record { taken = g.L.Link.taken c.settle_rest-sent.new.link; faults = g.L.Link.faults c.settle_rest-sent.new.link; sent = c.settle_rest-sent.result } in
    let z : Mail = record { taken = g.L.Link.taken c.release_all-sent.new.link; faults = g.L.Link.faults c.release_all-sent.new.link; sent = c.release_all-sent.result } in
    let all = went g.H.Home.config g.H.Home.list c.in_ok-step.field-0.step.handed c.in_ok-step.field-0.finals.items c.as_slice.result.now c.as_slice-2.result.now a b d e z c.as_slice.ensures c.as_slice-2.ensures.value c.send_on-sent.ensures c.in_ok-step.ensures.finals c.send_on-sent-2.ensures c.settle_rest-sent.ensures c.release_all-sent.ensures.sends in
    let broke = breaks_at g.H.Home.config g.H.Home.list c.in_ok-step.field-0.step.handed a z refl c.in-Err.sent c.in-Err.is all in
    (broke.0, c.in_ok-step.field-0.step, c.in_ok-step.ensures.step, refl, broke.1)
