use Rattle.std.proofs.Common.{◌≡◌, ◌∙◌, ◌<◌, ◌^◌, ℕ, List, length, ap, sym, subst, false, IfSome, arith}
use Rattle.zq_message.specs.declared.message.Mapping.TheVariants.{Sender}
use Rattle.zq_tables.specs.declared.holder.Holder.TheVariants.{Number}
use Rattle.zq_tables.specs.Naming.{NamingState, face_naming, text_at, change_naming, with_name}
use Rattle.zq_tables.specs.Holding.{texts_by, settled_at}
use Rattle.zq_tables.proofs.Declared.{room, declared, declared_texts, settled_texts}
use Rattle.zq_tables.proofs.naming.Naming.put_number.Goals as goal

pub returns-then-is_settled-clause-ok : goal.returns-then-is_settled-clause-ok
returns-then-is_settled-clause-ok c =
    let face = c.args.face.0 in
    let id = c.args.id in
    let text = c.args.text.now in
    let F : NamingState → Type 0 = λ (s : NamingState). IfSome (text_at id (face_naming face s).theirs) (λ u. u ≡ text) in
    let S : NamingState → Type 0 = λ (s : NamingState). s ≡ change_naming face (with_name id text) s in
    subst S c.self.view_is (settled_texts c.self.inside.names c.self.inside.faces.entries c.self.inside.rows.entries face id text c.self.invariant (sym c.is_settled.ensures ∙ c.if-is_settled.true) (subst F (sym c.self.view_is) c.requires.free))

pub hold-requires-clause-room : goal.hold-requires-clause-room
hold-requires-clause-room c =
    let new : settled_at (Number Sender) c.args.face.0 c.args.id c.self.inside.faces.entries ≡ false = sym c.is_settled.ensures ∙ c.if-is_settled.false in
    let few : length c.self.inside.faces.entries < 2 ^ 63 = omega (arith, c.len-open.ensures.len, c.len-open.ensures.small) in
    room c.self.inside.names c.declare_at.new.names c.self.inside.faces.entries c.declare_at.new.faces.entries c.self.inside.rows.entries c.args.face.0 c.args.id c.in_ok-node.node.0 c.whole-wire.result.suffix c.self.invariant new c.in_ok-node.ensures.ok few

pub invariant_of-self-2 : goal.invariant_of-self-2
invariant_of-self-2 c =
    let new : settled_at (Number Sender) c.args.face.0 c.args.id c.self.inside.faces.entries ≡ false = sym c.is_settled.ensures ∙ c.if-is_settled.false in
    declared c.self.inside.names c.declare_at.new.names c.self.inside.faces.entries c.declare_at.new.faces.entries c.self.inside.rows.entries c.args.face.0 c.args.id c.in_ok-node.node.0 c.whole-wire.result.suffix c.self.invariant new c.in_ok-node.ensures.ok
    c.hold.new.self c.hold.ensures.entries c.hold.ensures.all c.requires.number (omega arith)

pub returns-clause-ok : goal.returns-clause-ok
returns-clause-ok c =
    let face = c.args.face.0 in
    let id = c.args.id in
    let new : settled_at (Number Sender) face id c.self.inside.faces.entries ≡ false = sym c.is_settled.ensures ∙ c.if-is_settled.false in
    let text : c.whole-wire.result.suffix ≡ c.args.text.now = ap (λ w. w.suffix) c.whole-wire.ensures ∙ c.in_ok-new.ensures in
    declared_texts c.self.inside.names c.declare_at.new.names c.self.inside.faces.entries c.declare_at.new.faces.entries c.self.inside.rows.entries face id c.in_ok-node.node.0 c.whole-wire.result.suffix c.self.invariant new c.in_ok-node.ensures.ok
    c.hold.new.self c.hold.ensures.entries c.hold.ensures.all c.requires.number (omega arith)
    ∙ ap (λ (t : List ℕ). change_naming face (with_name id t) (texts_by c.self.inside.names c.self.inside.faces.entries c.self.inside.rows.entries)) text
    ∙ ap (change_naming face (with_name id c.args.text.now)) c.self.view_is
