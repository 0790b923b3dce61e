use Rattle.std.proofs.Common.{◌≡◌, ◌++◌, map}
use Rattle.zq_routers.specs.Told.{telling_of}
use Rattle.zq_routers.proofs.tellings.Tellings.into_list.Given as goal

abbrev pub invariant-loop-face : goal.invariant-loop-face
invariant-loop-face l = l.list ++ map telling_of l.face-iterator ≡ l.fn.self
