use Rattle.std.proofs.Common.{◌≡◌, ◌++◌}
use Rattle.percent_encoding.specs.Iter.{encoded_text}
use Rattle.zq_show.specs.Escape.{shown}
use Rattle.zq_show.proofs.escape.push_shown.Given as goal

abbrev pub invariant-pieces : goal.invariant-pieces
invariant-pieces l = l.out.items ++ encoded_text l.piece-iterator ≡ l.fn.out.items ++ shown l.bytes
