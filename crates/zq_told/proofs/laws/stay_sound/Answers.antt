use Rattle.zq_told.proofs.Faces.{stay_sound}
use Rattle.zq_told.proofs.laws.stay_sound.Goals as goal

pub returns : goal.returns
returns c = stay_sound
