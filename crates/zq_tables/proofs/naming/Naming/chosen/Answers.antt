use Rattle.std.proofs.Common.{◌≡◌, ◌∙◌, List, [], refl, ap, sym, subst, IfOk}
use Rattle.zq_names.specs.Names.{NameEntry}
use Rattle.zq_tables.specs.FaceIds.{FaceIds, AreLive}
use Rattle.zq_tables.specs.FaceTexts.{declared_key, texts_of}
use Rattle.zq_tables.specs.Naming.{FaceNaming, face_naming, no_names}
use Rattle.zq_tables.proofs.Holds.{live_at}
use Rattle.zq_tables.proofs.Faces.{face_there, face_closed}
use Rattle.zq_tables.proofs.naming.Naming.chosen.Goals as goal

pub chosen_key-requires : goal.chosen_key-requires
chosen_key-requires c =
    let L : FaceIds → Type 0 = AreLive c.self.inside.names in
    subst L (sym c.numbers.ensures) (live_at c.self.inside.names c.self.inside.faces.entries c.self.inside.rows.entries c.args.face.0 c.in-Some.nodes.now c.self.invariant (sym c.in-Some.ensures.value))

pub returns-in-Some : goal.returns-in-Some
returns-in-Some c =
    let face = c.args.face.0 in
    let names = c.self.inside.names in
    let nodes = c.in-Some.nodes.now in
    let S : FaceNaming → Type 0 = λ (n : FaceNaming). IfOk c.chosen_key.result (λ d. d ≡ declared_key n c.args.local c.args.may c.args.text.now) in
    let B : FaceIds → Type 0 = λ (f : FaceIds). IfOk c.chosen_key.result (λ d. d ≡ declared_key (texts_of names f) c.args.local c.args.may c.args.text.now) in
    subst S (sym (face_there names c.self.inside.faces.entries c.self.inside.rows.entries face nodes (sym c.in-Some.ensures.value)) ∙ ap (face_naming face) c.self.view_is) (subst B c.numbers.ensures c.chosen_key.ensures)

empty_texts : (names : List NameEntry) (f : FaceIds) → f.theirs ≡ [] → f.ours ≡ [] → texts_of names f ≡ no_names
empty_texts names f theirs ours = rw (theirs, ours) refl

-- a face that is not open
pub returns-in-None : goal.returns-in-None
returns-in-None c =
    let face = c.args.face.0 in
    let names = c.self.inside.names in
    let S : FaceNaming → Type 0 = λ (n : FaceNaming). IfOk c.chosen_key-in-None.result (λ d. d ≡ declared_key n c.args.local c.args.may c.args.text.now) in
    subst S (empty_texts names c.new-none.result c.new-none.ensures.theirs c.new-none.ensures.ours ∙ sym (face_closed names c.self.inside.faces.entries c.self.inside.rows.entries face (sym c.in-None.ensures.value)) ∙ ap (face_naming face) c.self.view_is) c.chosen_key-in-None.ensures
