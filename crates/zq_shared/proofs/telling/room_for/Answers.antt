use Rattle.std.proofs.Common.{arith}
use Rattle.zq_shared.specs.Stored.{answer_to}
use Rattle.zq_shared.proofs.Journals.{all_counted}
use Rattle.zq_shared.proofs.telling.room_for.Goals as goal

pub returns-clause-held : goal.returns-clause-held
returns-clause-held c =
    let counts = all_counted (answer_to c.args.journal.now c.args.call.now).handed in
    let most = c.in_ok-most_replies.ensures in
    let capacity = c.in_ok-held.ensures.capacity in
    (c.in_ok-held.ensures.items, omega (arith, counts, most, capacity))
