use Rattle.std.proofs.Common.{◌≡◌, ◌++◌}
use Rattle.percent_encoding.specs.Iter.{encoded_text}
use Rattle.percent_encoding.specs.Percent.{percent_encode}
use Rattle.zq_io.specs.declared.words.TheConstants.{ESCAPED}
use Rattle.zq_io.proofs.words.push_escaped.Given as goal

abbrev pub invariant-pieces : goal.invariant-pieces
invariant-pieces l = l.out.items ++ encoded_text l.piece-iterator ≡ l.fn.out.items ++ percent_encode ESCAPED l.bytes
