use Rattle.zq_shared.proofs.Holding.{place_here, places_none}
use Rattle.zq_shared.proofs.hold.is_held.Goals as goal

pub returns-then-held-i-clause-yes : goal.returns-then-held-i-clause-yes
returns-then-held-i-clause-yes c = (λ e. place_here c.args.slot.0 c.args.held.now c.slots.i _ c.slots-test.true c.if-held-i.true)

pub slots-preserved : goal.slots-preserved
slots-preserved c = places_none c.args.slot.0 c.args.held.now c.slots.i _ c.slots-test.true c.if-held-i.false c.slots.invariant
