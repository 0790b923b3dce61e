use Rattle.std.proofs.Common.{◌≡◌, ◌∙◌, ap, sym, subst}
use Rattle.zq_tables.specs.Naming.{NamingState, change_naming}
use Rattle.zq_tables.specs.Holding.{Faces, IsHeld, texts_by, without_key}
use Rattle.zq_tables.proofs.Letting.{in_hand_held, in_hand_live, left, left_texts, id_freed, id_freed_texts}
use Rattle.zq_tables.proofs.Emptied.{freed_idle}
use Rattle.zq_tables.proofs.naming.Naming.release.Goals as goal

pub invariant_of-self : goal.invariant_of-self
invariant_of-self c =
    let H : Faces → Type 0 = λ (fs : Faces). IsHeld c.self.inside.names fs c.self.inside.rows.entries in
    subst H (sym c.in_default.ensures.absent) c.self.invariant

pub returns-in_default : goal.returns-in_default
returns-in_default c =
    let face = c.args.face.0 in
    let S : NamingState → Type 0 = λ (s : NamingState). s ≡ change_naming face (without_key c.args.holder c.args.id) s in
    ap (λ (fs : Faces). texts_by c.self.inside.names fs c.self.inside.rows.entries) c.in_default.ensures.absent
    ∙ c.self.view_is
    ∙ subst S c.self.view_is (freed_idle c.args.holder c.self.inside.names c.self.inside.faces.entries c.self.inside.rows.entries face c.args.id (sym c.in_default.ensures.node))

pub let_go-requires-clause-live : goal.let_go-requires-clause-live
let_go-requires-clause-live c =
    in_hand_live _ _ _ _ (id_freed c.args.holder c.self.inside.names c.self.inside.faces.entries c.take_at.new.faces.entries c.self.inside.rows.entries c.args.face.0 c.args.id c.in-Some.node.0 (sym c.in-Some.ensures.node) c.take_at.ensures.faces c.self.invariant)

pub let_go-requires-clause-held : goal.let_go-requires-clause-held
let_go-requires-clause-held c =
    in_hand_held _ _ _ _ (id_freed c.args.holder c.self.inside.names c.self.inside.faces.entries c.take_at.new.faces.entries c.self.inside.rows.entries c.args.face.0 c.args.id c.in-Some.node.0 (sym c.in-Some.ensures.node) c.take_at.ensures.faces c.self.invariant)

pub invariant_of-self-2 : goal.invariant_of-self-2
invariant_of-self-2 c =
    left _ _ _ _ _ (id_freed c.args.holder c.self.inside.names c.self.inside.faces.entries c.take_at.new.faces.entries c.self.inside.rows.entries c.args.face.0 c.args.id c.in-Some.node.0 (sym c.in-Some.ensures.node) c.take_at.ensures.faces c.self.invariant) c.let_go.ensures

pub returns : goal.returns
returns c =
    let names = c.self.inside.names in
    let faces = c.self.inside.faces.entries in
    let rows = c.self.inside.rows.entries in
    let freed = id_freed c.args.holder names faces c.take_at.new.faces.entries rows c.args.face.0 c.args.id c.in-Some.node.0 (sym c.in-Some.ensures.node) c.take_at.ensures.faces c.self.invariant in
    left_texts _ _ _ _ _ freed c.let_go.ensures
    ∙ id_freed_texts c.args.holder names faces c.take_at.new.faces.entries rows c.args.face.0 c.args.id c.in-Some.node.0 (sym c.in-Some.ensures.node) c.take_at.ensures.faces
    ∙ ap (change_naming c.args.face.0 (without_key c.args.holder c.args.id)) c.self.view_is
