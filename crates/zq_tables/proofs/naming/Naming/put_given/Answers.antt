use Rattle.std.proofs.Common.{◌≡◌, ◌∙◌, ◌<◌, ◌≤◌, ◌^◌, length, ap, Some, sym, subst, false, arith}
use Rattle.zq_message.specs.declared.message.Mapping.TheVariants.{Receiver}
use Rattle.zq_tables.specs.FaceIds.{next_id}
use Rattle.zq_tables.proofs.IdLemmas.{free_from-least}
use Rattle.zq_tables.specs.declared.holder.Holder.TheVariants.{Number}
use Rattle.zq_tables.specs.Naming.{NamingState, change_naming, face_naming}
use Rattle.zq_tables.specs.Holding.{Faces, IsHeld, settled_at, texts_by, with_key}
use Rattle.zq_tables.proofs.Letting.{in_hand_held, in_hand_live, left, left_texts, room_held, taken, taken_texts}
use Rattle.zq_tables.proofs.Putting.{new_held, new_held_texts, next_open, settled_given}
use Rattle.zq_tables.proofs.naming.Naming.put_given.Goals as goal

pub returns-then-is_settled-clause-ok : goal.returns-then-is_settled-clause-ok
returns-then-is_settled-clause-ok c =
    let face = c.args.face.0 in
    let names = c.self.inside.names in
    let faces = c.self.inside.faces.entries in
    let rows = c.self.inside.rows.entries in
    let change = with_key (Number Receiver) c.args.id c.args.key.now in
    let N : NamingState → Type 0 = λ (s : NamingState). next_id (face_naming face s).theirs (face_naming face s).ours ≡ Some c.args.id in
    let S : NamingState → Type 0 = λ (s : NamingState). s ≡ change_naming face change s in
    subst S c.self.view_is (settled_given names faces rows face c.args.id change (subst N (sym c.self.view_is) c.requires.next) (sym c.is_settled.ensures ∙ c.if-is_settled.true))

pub put_given-requires : goal.put_given-requires
put_given-requires c f at =
    let face = c.args.face.0 in
    let N : NamingState → Type 0 = λ (s : NamingState). next_id (face_naming face s).theirs (face_naming face s).ours ≡ Some c.args.id in
    next_open c.self.inside.names c.self.inside.faces.entries c.self.inside.rows.entries face c.args.id f (subst N (sym c.self.view_is) c.requires.next) at

pub take_hold-requires-clause-room : goal.take_hold-requires-clause-room
take_hold-requires-clause-room c =
    let few : length c.self.inside.faces.entries < 2 ^ 63 = omega (arith, c.len-open.ensures.len, c.len-open.ensures.small) in
    room_held c.self.inside.names c.self.inside.faces.entries c.self.inside.rows.entries c.self.invariant few

pub invariant_of-self-in-Ok : goal.invariant_of-self-in-Ok
invariant_of-self-in-Ok c =
    let new : settled_at (Number Receiver) c.args.face.0 c.args.id c.self.inside.faces.entries ≡ false = sym c.is_settled.ensures ∙ c.if-is_settled.false in
    let takes = c.in_ok-node.ensures.ok in
    let hand = taken c.self.inside.names c.take_hold.new.names c.self.inside.faces.entries c.self.inside.rows.entries c.args.key.now c.in_ok-node.node.0 c.self.invariant takes in
    let n = face_naming c.args.face.0 c.args.self.now in
    let above : 1 ≤ c.args.id = (free_from-least n.theirs n.ours 65535 1 c.args.id c.requires.next).0 in
    new_held (Number Receiver) c.take_hold.new.names c.self.inside.faces.entries c.put_given.new.faces.entries c.self.inside.rows.entries c.args.face.0 c.args.id c.in_ok-node.node.0 new c.in-Ok.ensures.ok hand above (omega arith)

pub returns-in-Ok-clause-ok : goal.returns-in-Ok-clause-ok
returns-in-Ok-clause-ok c =
    let new : settled_at (Number Receiver) c.args.face.0 c.args.id c.self.inside.faces.entries ≡ false = sym c.is_settled.ensures ∙ c.if-is_settled.false in
    let takes = c.in_ok-node.ensures.ok in
    new_held_texts (Number Receiver) c.take_hold.new.names c.self.inside.faces.entries c.put_given.new.faces.entries c.self.inside.rows.entries c.args.face.0 c.args.id c.in_ok-node.node.0 new c.in-Ok.ensures.ok c.args.key.now takes.text
    ∙ ap (change_naming c.args.face.0 (with_key (Number Receiver) c.args.id c.args.key.now))
    (taken_texts c.self.inside.names c.take_hold.new.names c.self.inside.faces.entries c.self.inside.rows.entries c.args.key.now c.in_ok-node.node.0 c.self.invariant takes ∙ c.self.view_is)

pub let_go-requires-clause-live : goal.let_go-requires-clause-live
let_go-requires-clause-live c =
    in_hand_live _ _ _ _ (taken c.self.inside.names c.take_hold.new.names c.self.inside.faces.entries c.self.inside.rows.entries c.args.key.now c.in_ok-node.node.0 c.self.invariant c.in_ok-node.ensures.ok)

pub let_go-requires-clause-held : goal.let_go-requires-clause-held
let_go-requires-clause-held c =
    in_hand_held _ _ _ _ (taken c.self.inside.names c.take_hold.new.names c.self.inside.faces.entries c.self.inside.rows.entries c.args.key.now c.in_ok-node.node.0 c.self.invariant c.in_ok-node.ensures.ok)

pub invariant_of-self-in-Err : goal.invariant_of-self-in-Err
invariant_of-self-in-Err c =
    let hand = taken c.self.inside.names c.take_hold.new.names c.self.inside.faces.entries c.self.inside.rows.entries c.args.key.now c.in_ok-node.node.0 c.self.invariant c.in_ok-node.ensures.ok in
    let H : Faces → Type 0 = λ (fs : Faces). IsHeld c.let_go.new.names fs c.self.inside.rows.entries in
    subst H (sym c.in-Err.ensures.err) (left _ _ _ _ _ hand c.let_go.ensures)

pub returns-in-Err-clause-err : goal.returns-in-Err-clause-err
returns-in-Err-clause-err c =
    let names = c.self.inside.names in
    let faces = c.self.inside.faces.entries in
    let rows = c.self.inside.rows.entries in
    let takes = c.in_ok-node.ensures.ok in
    let hand = taken names c.take_hold.new.names faces rows c.args.key.now c.in_ok-node.node.0 c.self.invariant takes in
    ap (λ (fs : Faces). texts_by c.let_go.new.names fs c.self.inside.rows.entries) c.in-Err.ensures.err
    ∙ left_texts _ _ _ _ _ hand c.let_go.ensures
    ∙ taken_texts names c.take_hold.new.names faces rows c.args.key.now c.in_ok-node.node.0 c.self.invariant takes
    ∙ c.self.view_is
