use Rattle.std.proofs.Common.{◌≡◌, length}
use Rattle.zq_io.specs.Words.{read_each, pieces, put_all}
use Rattle.zq_io.proofs.words.read_each.Given as goal

abbrev pub invariant-pieces : goal.invariant-pieces
invariant-pieces g l = put_all l.items (read_each g.T.Word.of (pieces l.byte l.left)) ≡ read_each g.T.Word.of (pieces l.byte l.word)

abbrev pub decreases-pieces : goal.decreases-pieces
decreases-pieces g l = length l.left
