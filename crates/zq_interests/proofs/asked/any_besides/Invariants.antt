use Rattle.std.proofs.Common.{◌≡◌}
use Rattle.std.specs.List.{list_any}
use Rattle.zq_interests.specs.Interests.{is_passing}
use Rattle.zq_interests.proofs.Besides.{other}
use Rattle.zq_interests.proofs.asked.any_besides.Given as goal

abbrev pub invariant-loop-other : goal.invariant-loop-other
invariant-loop-other l = list_any (other (is_passing l.test l.key) l.id) l.other-iterator ≡ list_any (other (is_passing l.test l.key) l.id) l.entries.entries
