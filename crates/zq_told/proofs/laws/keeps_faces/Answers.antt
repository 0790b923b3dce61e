use Rattle.zq_told.proofs.Faces.{keeps_faces}
use Rattle.zq_told.proofs.laws.keeps_faces.Goals as goal

pub returns : goal.returns
returns c = keeps_faces
