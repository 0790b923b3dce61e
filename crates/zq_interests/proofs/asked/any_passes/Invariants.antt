use Rattle.std.proofs.Common.{◌≡◌}
use Rattle.std.specs.List.{list_any}
use Rattle.zq_interests.specs.Interests.{is_passing}
use Rattle.zq_interests.proofs.asked.any_passes.Given as goal

abbrev pub invariant-loop-entry : goal.invariant-loop-entry
invariant-loop-entry l = list_any (is_passing l.test l.key) l.entry-iterator ≡ list_any (is_passing l.test l.key) l.entries.entries
