use Rattle.std.proofs.Common.{◌≡◌, ◌++◌}
use Rattle.percent_encoding.specs.Iter.{encoded_text}
use Rattle.zq_lines.specs.Why.{printed}
use Rattle.zq_lines.proofs.why.push_printed.Given as goal

abbrev pub invariant-pieces : goal.invariant-pieces
invariant-pieces l = l.out.items ++ encoded_text l.piece-iterator ≡ l.fn.out.items ++ printed l.bytes
