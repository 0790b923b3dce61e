use Rattle.std.proofs.Common.{◌≡◌, ◌∙◌, ap, sym, subst, IfOk}
use Rattle.zq_tables.specs.FaceIds.{FaceIds, AreLive, no_ids}
use Rattle.zq_tables.specs.FaceTexts.{best_key, texts_of}
use Rattle.zq_tables.specs.Naming.{FaceNaming, face_naming, best}
use Rattle.zq_tables.proofs.Holds.{live_at}
use Rattle.zq_tables.proofs.Faces.{face_there, face_closed}
use Rattle.zq_tables.proofs.Reading.{best_none}
use Rattle.zq_tables.proofs.naming.Naming.best_of.Goals as goal

pub best-requires : goal.best-requires
best-requires c =
    let L : FaceIds → Type 0 = AreLive c.self.inside.names in
    subst L (sym c.numbers-numbers.ensures) (live_at c.self.inside.names c.self.inside.faces.entries c.self.inside.rows.entries c.args.face.0 c.in-Some.nodes.now c.self.invariant (sym c.in-Some.ensures.value))

-- a face without numbers
pub returns-then-is_empty : goal.returns-then-is_empty
returns-then-is_empty c =
    let face = c.args.face.0 in
    let text = c.args.text.now in
    let names = c.self.inside.names in
    let faces = c.self.inside.faces.entries in
    let rows = c.self.inside.rows.entries in
    let nodes = c.in-Some.nodes.now in
    let none : nodes.numbers ≡ no_ids = sym c.numbers-numbers.ensures ∙ c.is_empty.ensures.0 c.if-is_empty.true in
    let S : FaceNaming → Type 0 = λ (n : FaceNaming). IfOk c.plain.result (λ w. w ≡ best n text) in
    let P = λ (w : _). IfOk c.plain.result (λ v. v ≡ w) in
    subst S (sym (ap (texts_of names) none) ∙ sym (face_there names faces rows face nodes (sym c.in-Some.ensures.value)) ∙ ap (face_naming face) c.self.view_is) (subst P (sym (best_none text)) c.plain.ensures)

pub returns-else-is_empty : goal.returns-else-is_empty
returns-else-is_empty c =
    let face = c.args.face.0 in
    let names = c.self.inside.names in
    let faces = c.self.inside.faces.entries in
    let rows = c.self.inside.rows.entries in
    let nodes = c.in-Some.nodes.now in
    let text = c.args.text.now in
    let S : FaceNaming → Type 0 = λ (n : FaceNaming). IfOk c.best.result (λ w. w ≡ best n text) in
    let B : FaceIds → Type 0 = λ (f : FaceIds). IfOk c.best.result (λ w. w ≡ best_key (texts_of names f) text) in
    subst S (sym (face_there names faces rows face nodes (sym c.in-Some.ensures.value)) ∙ ap (face_naming face) c.self.view_is) (subst B c.numbers-numbers.ensures c.best.ensures.best)

pub returns-in-None : goal.returns-in-None
returns-in-None c =
    let face = c.args.face.0 in
    let text = c.args.text.now in
    let S : FaceNaming → Type 0 = λ (n : FaceNaming). IfOk c.plain-in-None.result (λ w. w ≡ best n text) in
    let P = λ (w : _). IfOk c.plain-in-None.result (λ v. v ≡ w) in
    subst S (sym (face_closed c.self.inside.names c.self.inside.faces.entries c.self.inside.rows.entries face (sym c.in-None.ensures.value)) ∙ ap (face_naming face) c.self.view_is) (subst P (sym (best_none text)) c.plain-in-None.ensures)
