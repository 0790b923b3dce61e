use Rattle.std.proofs.Common.{◌∙◌, ℕ, Some, ap, sym}
use Rattle.std.specs.Prelude.{option_map}
use Rattle.zq_names.specs.Names.{entry_at}
use Rattle.zq_message.specs.declared.message.Mapping.TheVariants.{Sender}
use Rattle.zq_tables.specs.declared.holder.Holder.TheVariants.{Number}
use Rattle.zq_tables.specs.Naming.{NamingState, face_naming, text_at}
use Rattle.zq_tables.proofs.Faces.{node_live, node_text}
use Rattle.zq_tables.proofs.naming.Naming.standing.Goals as goal

pub expr-requires : goal.expr-requires
expr-requires c = node_live (Number Sender) c.self.inside.names c.self.inside.faces.entries c.self.inside.rows.entries c.args.face.0 c.args.id c.in-Some.node.0 c.self.invariant (sym c.in-Some.ensures)

pub returns-in-Some : goal.returns-in-Some
returns-in-Some c =
    let names = c.self.inside.names in
    let face = c.args.face.0 in
    ap Some c.expr.ensures
    ∙ ap (option_map (λ (n : ℕ). (entry_at names n).text)) c.in-Some.ensures
    ∙ node_text (Number Sender) names c.self.inside.faces.entries c.self.inside.rows.entries face c.args.id
    ∙ ap (λ (s : NamingState). text_at c.args.id (face_naming face s).theirs) c.self.view_is

pub returns-in-None : goal.returns-in-None
returns-in-None c =
    let names = c.self.inside.names in
    let face = c.args.face.0 in
    ap (option_map (λ (n : ℕ). (entry_at names n).text)) c.in-None.ensures
    ∙ node_text (Number Sender) names c.self.inside.faces.entries c.self.inside.rows.entries face c.args.id
    ∙ ap (λ (s : NamingState). text_at c.args.id (face_naming face s).theirs) c.self.view_is
