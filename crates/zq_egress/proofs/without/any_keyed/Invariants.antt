use Rattle.std.proofs.Common.{◌≡◌}
use Rattle.std.specs.List.{list_any}
use Rattle.zq_interests.specs.Interests.{wants_keyed}
use Rattle.zq_interests.proofs.Besides.{other}
use Rattle.zq_egress.proofs.without.any_keyed.Given as goal

abbrev pub invariant-loop-other : goal.invariant-loop-other
invariant-loop-other l = list_any (other (wants_keyed l.key) l.id) l.other-iterator ≡ list_any (other (wants_keyed l.key) l.id) l.entries.entries
