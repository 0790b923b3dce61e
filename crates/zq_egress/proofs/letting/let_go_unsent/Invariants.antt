use Rattle.std.proofs.Common.{◌≡◌, false, take}
use Rattle.zq_query.specs.Records.{any_over, letting_go_all}
use Rattle.zq_machine.specs.Writing.{unsent}
use Rattle.zq_egress.proofs.letting.let_go_unsent.Given as goal

abbrev pub invariant-loop-message : goal.invariant-loop-message
invariant-loop-message l = any_over l.fn.queries.records ≡ false → l.queries ≡ record l.fn.queries { records = letting_go_all l.fn.queries.records (unsent (take l.message-index l.handed)) }
