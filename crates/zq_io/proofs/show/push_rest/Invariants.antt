use Rattle.std.proofs.Common.{◌≡◌, ◌++◌, take}
use Rattle.zq_io.specs.Words.{rest_word}
use Rattle.zq_io.proofs.show.push_rest.Given as goal

abbrev pub invariant-loop-item : goal.invariant-loop-item
invariant-loop-item g l = l.out.items ≡ l.fn.out.items ++ rest_word l.byte g.T.Shown.word (take l.item-index l.items)
