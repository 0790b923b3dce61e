use Rattle.std.proofs.Common.{◌≡◌, ◌++◌}
use Rattle.zq_query.proofs.queries.listed.Given as goal

abbrev pub invariant-loop-member : goal.invariant-loop-member
invariant-loop-member g l = l.list.items ++ l.member-iterator ≡ l.set.keys
