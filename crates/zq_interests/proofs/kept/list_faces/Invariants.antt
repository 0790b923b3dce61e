use Rattle.std.proofs.Common.{◌≡◌, ◌++◌, map}
use Rattle.zq_interests.specs.Kept.{numbered}
use Rattle.zq_interests.proofs.kept.list_faces.Given as goal

abbrev pub invariant-loop-number : goal.invariant-loop-number
invariant-loop-number l = l.faces ++ map numbered l.number-iterator ≡ map numbered l.numbers.keys
