use Rattle.std.proofs.Common.{◌≡◌, ◌∙◌, Some, sym}
use Rattle.zq_tables.specs.FaceIds.{of_id}
use Rattle.zq_tables.proofs.IdLemmas.{IsFace-without_ours, IsFace-without_theirs}
use Rattle.zq_tables.proofs.face.FaceNames.take.Goals.{in-Sender, in-Receiver}
use Rattle.zq_tables.proofs.face.FaceNames.take.Goals as goal

pub invariant_of-self-2 : goal.invariant_of-self-2
invariant_of-self-2 c =
    let face = c.self.inside in
    elim c.match-mapping.branch [
      | in-Sender w ↦
          let node : of_id face.theirs c.args.id ≡ Some c.in-Some.node = sym w.take-found.ensures.node ∙ sym w.found-is ∙ c.in-Some.is in
          rw (c.min-self-inside.ensures, w.self-inside-is, w.take-found.ensures.entries) (IsFace-without_theirs face.theirs face.ours face.free c.args.id c.in-Some.node node c.self.invariant)
      | in-Receiver w ↦
          let node : of_id face.ours c.args.id ≡ Some c.in-Some.node = sym w.take-found-in-Receiver.ensures.node ∙ sym w.found-is ∙ c.in-Some.is in
          rw (c.min-self-inside.ensures, w.self-inside-is, w.take-found-in-Receiver.ensures.entries) (IsFace-without_ours face.theirs face.ours face.free c.args.id c.in-Some.node node c.self.invariant)
    ]
