use Rattle.std.proofs.Common.{arith}
use Rattle.zq_hold.proofs.Owning.{unowned}
use Rattle.zq_hold.proofs.find.place_of.Goals as goal

pub returns-clause-none : goal.returns-clause-none
returns-clause-none c = unowned c.args.number c.args.owners.now (λ k h. c.owners.invariant k (let e = c.owners-test.false in omega arith))
