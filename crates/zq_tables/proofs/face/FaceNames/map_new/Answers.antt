use Rattle.zq_tables.proofs.IdLemmas.{IsFace-with_theirs}
use Rattle.zq_tables.proofs.face.FaceNames.map_new.Goals as goal

pub invariant_of-self-2 : goal.invariant_of-self-2
invariant_of-self-2 c = rw c.in_ok-put_made.ensures.put (IsFace-with_theirs c.self.inside.theirs c.self.inside.ours c.self.inside.free c.args.id c.in_ok-put_made.field-0.0 c.requires.positive c.self.invariant)
