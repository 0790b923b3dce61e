use Rattle.std.proofs.Common.{◌∙◌, ap}
use Rattle.zq_tables.specs.Naming.{closed_naming, face_keys, no_keys}
use Rattle.zq_tables.proofs.Emptied.{emptied_face, changed_closed, closed, closed_texts}
use Rattle.zq_tables.proofs.naming.Naming.close.Goals as goal

pub invariant_of-self : goal.invariant_of-self
invariant_of-self c =
    let face = c.args.face.0 in
    closed c.self.inside.names c.self.inside.faces.entries c.remove.new.self.entries c.self.inside.rows.entries face c.self.invariant
    (ap (face_keys face) (c.self.view_is ∙ c.give_up.ensures) ∙ emptied_face c.args.self.now face) c.remove.ensures.entries

pub returns : goal.returns
returns c =
    let face = c.args.face.0 in
    closed_texts c.self.inside.names c.self.inside.faces.entries c.remove.new.self.entries c.self.inside.rows.entries face c.remove.ensures.entries
    ∙ ap (closed_naming face) (c.self.view_is ∙ c.give_up.ensures)
    ∙ changed_closed face (λ _. no_keys) c.args.self.now
