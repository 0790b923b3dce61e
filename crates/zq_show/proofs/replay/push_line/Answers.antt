use Rattle.std.proofs.Common.{◌≡◌, Some, false, rules}
use Rattle.zq_script.specs.Script.{script_call}
use Rattle.zq_show.proofs.Replayed.{adds}
use Rattle.zq_show.proofs.replay.push_line.Goals as goal

pub returns-in_ok-push-in-Some-clause-called : goal.returns-in_ok-push-in-Some-clause-called
returns-in_ok-push-in-Some-clause-called c = λ _.
    let is : Some c.in-Some.call ≡ script_call false c.args.line.now = first_of ((cc), (search rules)) in
    adds c.args.number c.args.line.now c.args.machine.now c.args.seen.now c.entry_of.new.machine c.entry_of.new.seen c.args.entries.now c.push.new.self c.in-Some.call c.in_ok-entry-in-Some.entry is c.in_ok-entry-in-Some.ensures.after c.in_ok-entry-in-Some.ensures.seen c.in_ok-entry-in-Some.ensures.entry c.in_ok-push-in-Some.ensures.ok
