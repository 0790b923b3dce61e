use Rattle.std.proofs.Common.{◌≡◌, ◌∙◌, ap, sym, subst, eqb, false, arith, IfOk}
use Rattle.std.proofs.lemmas.Bool.Decides.{nat_tests}
use Rattle.zq_tables.specs.FaceIds.{FaceIds, AreLive}
use Rattle.zq_tables.specs.FaceTexts.{texts_of}
use Rattle.zq_tables.specs.Naming.{FaceNaming, face_naming, said_of}
use Rattle.zq_tables.specs.declared.resolved.Resolved.TheVariants as said
use Rattle.zq_tables.proofs.Holds.{live_at}
use Rattle.zq_tables.proofs.Faces.{face_there, face_closed}
use Rattle.zq_tables.proofs.Reading.{said_none}
use Rattle.zq_tables.proofs.naming.Naming.said.Goals as goal

pub said_under-requires-clause-live : goal.said_under-requires-clause-live
said_under-requires-clause-live c =
    let L : FaceIds → Type 0 = AreLive c.self.inside.names in
    subst L (sym c.numbers.ensures) (live_at c.self.inside.names c.self.inside.faces.entries c.self.inside.rows.entries c.args.face.0 c.in-Some.nodes.now c.self.invariant (sym c.in-Some.ensures.value))

pub returns-in-Some : goal.returns-in-Some
returns-in-Some c =
    let face = c.args.face.0 in
    let S : FaceNaming → Type 0 = λ (n : FaceNaming). IfOk c.said_under.result (λ s. s ≡ said_of n c.args.wire.now) in
    let N : FaceIds → Type 0 = λ (f : FaceIds). IfOk c.said_under.result (λ s. s ≡ said_of (texts_of c.self.inside.names f) c.args.wire.now) in
    subst S (sym (face_there c.self.inside.names c.self.inside.faces.entries c.self.inside.rows.entries face c.in-Some.nodes.now (sym c.in-Some.ensures.value)) ∙ ap (face_naming face) c.self.view_is) (subst N c.numbers.ensures c.said_under.ensures)

pub returns-in-None : goal.returns-in-None
returns-in-None c =
    let face = c.args.face.0 in
    let other : eqb c.args.wire.now.scope 0 ≡ false = let some = c.if-wire-eq0.false in grind (arith, nat_tests) in
    let S : FaceNaming → Type 0 = λ (n : FaceNaming). said.Unscoped ≡ said_of n c.args.wire.now in
    subst S (sym (face_closed c.self.inside.names c.self.inside.faces.entries c.self.inside.rows.entries face (sym c.in-None.ensures.value)) ∙ ap (face_naming face) c.self.view_is) (said_none c.args.wire.now other)
