use Rattle.zq_tables.proofs.Emptied.{held_none}
use Rattle.zq_tables.proofs.naming.Naming.new.Goals as goal

pub invariant_of-result : goal.invariant_of-result
invariant_of-result c = rw (c.new-2.ensures.empty, c.new-3.ensures.empty) (held_none c.in_ok-new.field-0 c.in_ok-new.ensures.root c.in_ok-new.ensures.unheld)
