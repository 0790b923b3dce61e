use Rattle.std.proofs.Common.{◌≡◌}
use Rattle.std.specs.List.{list_any}
use Rattle.zq_dispatcher.specs.Asking.{wants_plainly}
use Rattle.zq_dispatcher.proofs.asking.any_plainly.Given as goal

abbrev pub invariant-loop-entry : goal.invariant-loop-entry
invariant-loop-entry l = list_any (wants_plainly l.key) l.entry-iterator ≡ list_any (wants_plainly l.key) l.entries.entries
