use Rattle.std.proofs.Common.{◌≡◌, map, take}
use Rattle.std.specs.Prelude.{filter}
use Rattle.zq_interests.specs.Kept.{folder_at, is_folding}
use Rattle.zq_interests.proofs.kept.list_folders.Given as goal

abbrev pub invariant-loop-spot : goal.invariant-loop-spot
invariant-loop-spot l = l.folders ≡ map folder_at (filter (is_folding l.faces.entries) (take l.spot-index l.spots))
