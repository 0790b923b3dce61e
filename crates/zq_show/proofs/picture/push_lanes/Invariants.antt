use Rattle.std.proofs.Common.{◌≡◌, ◌++◌, drop}
use Rattle.zq_show.specs.Numbered.{numbered}
use Rattle.zq_show.specs.Picture.{face_words, lanes_words}
use Rattle.zq_show.proofs.picture.push_lanes.Given as goal

abbrev pub invariant-loop-i : goal.invariant-loop-i
invariant-loop-i l = l.out.items ++ numbered (face_words l.height) l.i (drop l.i l.lanes) ≡ l.fn.out.items ++ lanes_words l.height l.lanes
