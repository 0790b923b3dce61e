use Rattle.std.proofs.Common.{◌+◌, List, sym, subst, arith}
use Rattle.zq_machine.specs.Gates.{Gates}
use Rattle.zq_egress.specs.declared.exits.Exit.{Exit}
use Rattle.zq_egress.proofs.Going.{Reached, reached_more}
use Rattle.zq_egress.proofs.through.let_each.Goals as goal

pub loop-message-preserved : goal.loop-message-preserved
loop-message-preserved c =
    let text = c.args.text.now in
    let hs = c.args.handed.now in
    let old : Gates = c.args.gates.now.entries in
    let later : Gates = c.let_one.new.gates.entries in
    let i = c.loop-message.message-index in
    let one = c.in_ok-let_one.ensures in
    let room = c.loop-message.invariant.room in
    let same = c.push_reserved.ensures.capacity in
    record {
      reached =
          subst (λ (l : List Exit). Reached text hs old l later (i + 1)) (sym {A = List Exit} c.push_reserved.ensures.items)
          (reached_more text hs old c.loop-message.exits.items c.loop-message.gates.entries i c.message-item.result c.in_ok-let_one.field-0 later c.loop-message-test.true c.message-item.is one.out one.gates one.back c.loop-message.invariant.reached);
      room = omega (arith, room, same);
    }
