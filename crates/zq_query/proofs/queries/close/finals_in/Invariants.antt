use Rattle.std.proofs.Common.{◌≡◌, take}
use Rattle.std.specs.List.{filter_map}
use Rattle.zq_query.specs.FaceEntries.{ending}
use Rattle.zq_query.specs.Closing.{closed_with}
use Rattle.zq_query.proofs.queries.close.finals_in.Given as goal

abbrev pub invariant-loop-number : goal.invariant-loop-number
invariant-loop-number l = l.finals ≡ filter_map (ending l.heads.entries (closed_with l.fn.face l.closed.keys)) (take l.number-index l.numbers)
