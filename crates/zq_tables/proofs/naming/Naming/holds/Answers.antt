use Rattle.std.proofs.Common.{◌∙◌, ℕ, ap, sym}
use Rattle.std.specs.Option.{is_some}
use Rattle.zq_names.specs.declared.node.ResourceId.{ResourceId}
use Rattle.zq_names.specs.Names.{entry_at}
use Rattle.zq_tables.specs.Holding.{held_keys}
use Rattle.zq_tables.specs.Naming.{NamingState, face_keys, text_at}
use Rattle.zq_tables.proofs.Emptied.{some_map}
use Rattle.zq_tables.proofs.Faces.{node_text}
use Rattle.zq_tables.proofs.naming.Naming.holds.Goals as goal

pub returns : goal.returns
returns c =
    let names = c.self.inside.names in
    let face = c.args.face.0 in
    let h = c.args.holder in
    let text = λ (n : ℕ). (entry_at names n).text in
    c.is_some.ensures
    ∙ sym (some_map (λ (r : ResourceId). r.0) c.node_at.result)
    ∙ ap is_some c.node_at.ensures
    ∙ sym (some_map text _)
    ∙ ap is_some (node_text h names c.self.inside.faces.entries c.self.inside.rows.entries face c.args.id)
    ∙ ap (λ (s : NamingState). is_some (text_at c.args.id (held_keys h (face_keys face s)))) c.self.view_is
