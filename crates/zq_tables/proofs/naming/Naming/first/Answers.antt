use Rattle.std.proofs.Common.{◌∙◌, ap, sym}
use Rattle.std.specs.Prelude.{slice_get}
use Rattle.std.specs.Map.{keys_of}
use Rattle.zq_tables.specs.Holding.{held_keys, texts_by}
use Rattle.zq_tables.specs.Naming.{NamingState, face_keys}
use Rattle.zq_tables.proofs.Emptied.{first_same, no_first, none_then}
use Rattle.zq_tables.proofs.naming.Naming.first.Goals as goal

pub returns-clause-first : goal.returns-clause-first
returns-clause-first c =
    let face = c.args.face.0 in
    let h = c.args.holder in
    c.first_at.ensures
    ∙ first_same h c.self.inside.names c.self.inside.faces.entries c.self.inside.rows.entries face
    ∙ ap (λ (s : NamingState). slice_get (keys_of (held_keys h (face_keys face s))) 0) c.self.view_is

pub returns-clause-none : goal.returns-clause-none
returns-clause-none c =
    let face = c.args.face.0 in
    let h = c.args.holder in
    let is = c.first_at.ensures ∙ first_same h c.self.inside.names c.self.inside.faces.entries c.self.inside.rows.entries face in
    none_then c.first_at.result _ is (λ none. ap (λ (s : NamingState). held_keys h (face_keys face s)) (sym c.self.view_is) ∙ no_first (held_keys h (face_keys face (texts_by c.self.inside.names c.self.inside.faces.entries c.self.inside.rows.entries))) (sym none))
