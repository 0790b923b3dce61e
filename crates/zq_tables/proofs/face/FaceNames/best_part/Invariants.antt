use Rattle.std.proofs.Common.{◌≡◌}
use Rattle.zq_tables.specs.FaceTexts.{best_part, best_to, texts_of}
use Rattle.zq_tables.proofs.face.FaceNames.best_part.Given as goal

abbrev pub invariant-loop-k : goal.invariant-loop-k
invariant-loop-k l = best_part (texts_of l.names l.self) l.text ≡ best_to (texts_of l.names l.self) l.text l.k
