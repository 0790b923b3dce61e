use Rattle.std.proofs.Common.{◌≡◌, fold, take, None}
use Rattle.std.specs.Option.{option_copied}
use Rattle.zq_dispatcher.specs.Parts.{with_heard}
use Rattle.zq_dispatcher.proofs.folded.heard_over.Given as goal

abbrev pub invariant-loop-part : goal.invariant-loop-part
invariant-loop-part l = l.merged ≡ fold (with_heard l.hat (option_copied l.change) l.face.0) None (take l.part-index l.parts)
