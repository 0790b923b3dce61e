use Rattle.std.proofs.Common.{◌≡◌, ◌++◌, take}
use Rattle.zq_program.specs.Printing.{calls_words}
use Rattle.zq_program.proofs.printing.push_calls.Given as goal

abbrev pub invariant-loop-call : goal.invariant-loop-call
invariant-loop-call l = l.out.items ≡ l.fn.out.items ++ calls_words (take l.call-index l.calls)
