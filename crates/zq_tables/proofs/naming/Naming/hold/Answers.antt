use Rattle.std.proofs.Common.{◌≡◌, ◌∙◌, ℕ, ◌<◌, ◌≤◌, ◌^◌, length, ap, sym, subst, false, arith}
use Rattle.std.proofs.lemmas.Bool.{false≢true}
use Rattle.zq_tables.specs.declared.holder.Holder.{Holder}
use Rattle.zq_tables.specs.declared.holder.Holder.TheVariants.{Number, Queryable, Interest}
use Rattle.zq_tables.specs.Naming.{NamingState, change_naming}
use Rattle.zq_tables.specs.Holding.{Faces, IsHeld, are_numbers, least, limit, settled_at, texts_by, with_first_key}
use Rattle.zq_tables.proofs.Letting.{in_hand_held, in_hand_live, left, left_texts, room_held, taken, taken_texts}
use Rattle.zq_tables.proofs.Putting.{first_held_texts, new_held, settled_first}
use Rattle.zq_tables.proofs.naming.Naming.hold.Goals as goal

from_least : (h : Holder) (id : ℕ) → are_numbers h ≡ false → least h ≤ id
from_least (Number m) id none = absurd (false≢true (sym none))
from_least Queryable id none = omega arith
from_least Interest id none = omega arith

below_limit : (h : Holder) (id : ℕ) → are_numbers h ≡ false → id < 4294967296 → id < limit h
below_limit (Number m) id none small = absurd (false≢true (sym none))
below_limit Queryable id none small = small
below_limit Interest id none small = small

pub returns-then-is_settled-clause-ok : goal.returns-then-is_settled-clause-ok
returns-then-is_settled-clause-ok c =
    let face = c.args.face.0 in
    let key = c.args.key.now in
    let S : NamingState → Type 0 = λ (s : NamingState). s ≡ change_naming face (with_first_key c.args.holder c.args.id key) s in
    subst S c.self.view_is (settled_first c.args.holder c.self.inside.names c.self.inside.faces.entries c.self.inside.rows.entries face c.args.id key (sym c.is_settled.ensures ∙ c.if-is_settled.true))

pub take_hold-requires-clause-room : goal.take_hold-requires-clause-room
take_hold-requires-clause-room c =
    let few : length c.self.inside.faces.entries < 2 ^ 63 = omega (arith, c.len-open.ensures.len, c.len-open.ensures.small) in
    room_held c.self.inside.names c.self.inside.faces.entries c.self.inside.rows.entries c.self.invariant few

pub invariant_of-self-in-Ok : goal.invariant_of-self-in-Ok
invariant_of-self-in-Ok c =
    let new : settled_at c.args.holder c.args.face.0 c.args.id c.self.inside.faces.entries ≡ false = sym c.is_settled.ensures ∙ c.if-is_settled.false in
    let takes = c.in_ok-node.ensures.ok in
    let hand = taken c.self.inside.names c.take_hold.new.names c.self.inside.faces.entries c.self.inside.rows.entries c.as_str.result.now c.in_ok-node.node.0 c.self.invariant takes in
    new_held c.args.holder c.take_hold.new.names c.self.inside.faces.entries c.put_at.new.faces.entries c.self.inside.rows.entries c.args.face.0 c.args.id c.in_ok-node.node.0 new c.in-Ok.ensures.ok hand (from_least c.args.holder c.args.id c.requires.unnumbered) (below_limit c.args.holder c.args.id c.requires.unnumbered (omega arith))

pub returns-in-Ok-clause-ok : goal.returns-in-Ok-clause-ok
returns-in-Ok-clause-ok c =
    let new : settled_at c.args.holder c.args.face.0 c.args.id c.self.inside.faces.entries ≡ false = sym c.is_settled.ensures ∙ c.if-is_settled.false in
    let takes = c.in_ok-node.ensures.ok in
    first_held_texts c.args.holder c.take_hold.new.names c.self.inside.faces.entries c.put_at.new.faces.entries c.self.inside.rows.entries c.args.face.0 c.args.id c.in_ok-node.node.0 new c.in-Ok.ensures.ok c.args.key.now (takes.text ∙ c.as_str.ensures.text)
    ∙ ap (change_naming c.args.face.0 (with_first_key c.args.holder c.args.id c.args.key.now))
    (taken_texts c.self.inside.names c.take_hold.new.names c.self.inside.faces.entries c.self.inside.rows.entries c.as_str.result.now c.in_ok-node.node.0 c.self.invariant takes ∙ c.self.view_is)

pub let_go-requires-clause-live : goal.let_go-requires-clause-live
let_go-requires-clause-live c =
    in_hand_live _ _ _ _ (taken c.self.inside.names c.take_hold.new.names c.self.inside.faces.entries c.self.inside.rows.entries c.as_str.result.now c.in_ok-node.node.0 c.self.invariant c.in_ok-node.ensures.ok)

pub let_go-requires-clause-held : goal.let_go-requires-clause-held
let_go-requires-clause-held c =
    in_hand_held _ _ _ _ (taken c.self.inside.names c.take_hold.new.names c.self.inside.faces.entries c.self.inside.rows.entries c.as_str.result.now c.in_ok-node.node.0 c.self.invariant c.in_ok-node.ensures.ok)

pub invariant_of-self-in-Err : goal.invariant_of-self-in-Err
invariant_of-self-in-Err c =
    let hand = taken c.self.inside.names c.take_hold.new.names c.self.inside.faces.entries c.self.inside.rows.entries c.as_str.result.now c.in_ok-node.node.0 c.self.invariant c.in_ok-node.ensures.ok in
    let H : Faces → Type 0 = λ (fs : Faces). IsHeld c.let_go.new.names fs c.self.inside.rows.entries in
    subst H (sym c.in-Err.ensures.err) (left _ _ _ _ _ hand c.let_go.ensures)

pub returns-in-Err-clause-err : goal.returns-in-Err-clause-err
returns-in-Err-clause-err c =
    let names = c.self.inside.names in
    let faces = c.self.inside.faces.entries in
    let rows = c.self.inside.rows.entries in
    let takes = c.in_ok-node.ensures.ok in
    let hand = taken names c.take_hold.new.names faces rows c.as_str.result.now c.in_ok-node.node.0 c.self.invariant takes in
    ap (λ (fs : Faces). texts_by c.let_go.new.names fs c.self.inside.rows.entries) c.in-Err.ensures.err
    ∙ left_texts _ _ _ _ _ hand c.let_go.ensures
    ∙ taken_texts names c.take_hold.new.names faces rows c.as_str.result.now c.in_ok-node.node.0 c.self.invariant takes
    ∙ c.self.view_is
