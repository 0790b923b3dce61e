use Rattle.std.proofs.Common.{◌≡◌, ◌∙◌, ◌<◌, ◌^◌, ℕ, List, length, not, refl, ap, sym, subst, arith}
use Rattle.zq_tables.specs.Naming.{has_entry_key, with_entry_key}
use Rattle.zq_tables.specs.Holding.{EntryNodes, IsHeld, texts_by}
use Rattle.zq_tables.proofs.Entered.{entered, entered_texts, goes_still, key_absent, key_there, rows_seen, same_change, stays_held}
use Rattle.zq_tables.proofs.EntryRows.{row_lives, row_rises}
use Rattle.zq_tables.proofs.Letting.{in_hand_held, in_hand_live, left, left_texts, room_held, taken, taken_rows, taken_texts}
use Rattle.zq_tables.proofs.naming.Naming.hold_entry.Goals as goal

pub find-requires-clause-live : goal.find-requires-clause-live
find-requires-clause-live c = row_lives c.self.inside.names c.self.inside.rows.entries c.region_to_index-index.result (λ i some. c.self.invariant.live i (omega (arith, some)))

pub find-requires-clause-rise : goal.find-requires-clause-rise
find-requires-clause-rise c = row_rises c.self.inside.names c.self.inside.rows.entries c.region_to_index-index.result c.self.invariant.order

-- the key is there
pub returns-in_default-clause-fresh : goal.returns-in_default-clause-fresh
returns-in_default-clause-fresh c =
    let region = c.region_to_index-index.result in
    let text = c.as_str-text.result.now in
    let names = c.self.inside.names in
    let faces = c.self.inside.faces.entries in
    let rows = c.self.inside.rows.entries in
    sym (ap not (
    sym (same_change has_entry_key region _ text _ (texts_by names faces rows) _ c.region_to_index-index.ensures.index c.as_str-text.ensures.text c.self.view_is)
    ∙ key_there names faces rows region text c.in_default.field-0 c.in_default.ensures.found
    ))

pub returns-in_default-clause-ok : goal.returns-in_default-clause-ok
returns-in_default-clause-ok c =
    let region = c.region_to_index-index.result in
    let text = c.as_str-text.result.now in
    let names = c.self.inside.names in
    let faces = c.self.inside.faces.entries in
    let rows = c.self.inside.rows.entries in
    sym c.self.view_is
    ∙ stays_held names faces rows region text c.in_default.field-0 c.self.invariant c.in_default.ensures.found
    ∙ same_change with_entry_key region _ text _ (texts_by names faces rows) _ c.region_to_index-index.ensures.index c.as_str-text.ensures.text c.self.view_is

pub returns-in_default-clause-rows : goal.returns-in_default-clause-rows
returns-in_default-clause-rows c = rows_seen c.self.inside.names c.self.inside.faces.entries c.self.inside.rows.entries c.args.self.now c.self.invariant c.self.view_is

-- the node is taken
pub take_hold-requires-clause-room : goal.take_hold-requires-clause-room
take_hold-requires-clause-room c =
    let few : length c.self.inside.faces.entries < 2 ^ 63 = omega (arith, c.len-open.ensures.len, c.len-open.ensures.small) in
    room_held c.self.inside.names c.self.inside.faces.entries c.self.inside.rows.entries c.self.invariant few

pub returns-in_err-node-clause-rows : goal.returns-in_err-node-clause-rows
returns-in_err-node-clause-rows c = rows_seen c.self.inside.names c.self.inside.faces.entries c.self.inside.rows.entries c.args.self.now c.self.invariant c.self.view_is

-- it stands in the row
pub invariant_of-self-in-Ok : goal.invariant_of-self-in-Ok
invariant_of-self-in-Ok c =
    let region = c.region_to_index-index.result in
    let text = c.as_str-text.result.now in
    let names = c.self.inside.names in
    let names' = c.take_hold.new.names in
    let faces = c.self.inside.faces.entries in
    let rows = c.self.inside.rows.entries in
    let node = c.in_ok-node.node.0 in
    let takes = c.in_ok-node.ensures.ok in
    let hand = taken names names' faces rows text node c.self.invariant takes in
    let goes = goes_still names names' rows region text c.in-Err.at (taken_rows names names' faces rows text node c.self.invariant takes) c.in-Err.ensures.absent in
    entered names' faces rows c.put.new.rows.entries region text c.in-Err.at node takes.text goes c.in-Ok.ensures.ok hand c.region_to_index-index.ensures.bound

pub returns-in-Ok-clause-fresh : goal.returns-in-Ok-clause-fresh
returns-in-Ok-clause-fresh c =
    let region = c.region_to_index-index.result in
    let text = c.as_str-text.result.now in
    let names = c.self.inside.names in
    let faces = c.self.inside.faces.entries in
    let rows = c.self.inside.rows.entries in
    sym (ap not (
    sym (same_change has_entry_key region _ text _ (texts_by names faces rows) _ c.region_to_index-index.ensures.index c.as_str-text.ensures.text c.self.view_is)
    ∙ key_absent names faces rows region text c.in-Err.at c.in-Err.ensures.absent
    ))

pub returns-in-Ok-clause-ok : goal.returns-in-Ok-clause-ok
returns-in-Ok-clause-ok c =
    let region = c.region_to_index-index.result in
    let text = c.as_str-text.result.now in
    let names = c.self.inside.names in
    let names' = c.take_hold.new.names in
    let faces = c.self.inside.faces.entries in
    let rows = c.self.inside.rows.entries in
    let node = c.in_ok-node.node.0 in
    let takes = c.in_ok-node.ensures.ok in
    let goes = goes_still names names' rows region text c.in-Err.at (taken_rows names names' faces rows text node c.self.invariant takes) c.in-Err.ensures.absent in
    entered_texts names' faces rows c.put.new.rows.entries region text c.in-Err.at node takes.text goes c.in-Ok.ensures.ok
    ∙ same_change with_entry_key region _ text _ (texts_by names' faces rows) _ c.region_to_index-index.ensures.index c.as_str-text.ensures.text
    (taken_texts names names' faces rows text node c.self.invariant takes ∙ c.self.view_is)

pub returns-in-Ok-clause-rows : goal.returns-in-Ok-clause-rows
returns-in-Ok-clause-rows c = rows_seen c.self.inside.names c.self.inside.faces.entries c.self.inside.rows.entries c.args.self.now c.self.invariant c.self.view_is

-- the row has no room, and the node is let go
pub let_go-requires-clause-live : goal.let_go-requires-clause-live
let_go-requires-clause-live c =
    in_hand_live _ _ _ _ (taken c.self.inside.names c.take_hold.new.names c.self.inside.faces.entries c.self.inside.rows.entries c.as_str-text.result.now c.in_ok-node.node.0 c.self.invariant c.in_ok-node.ensures.ok)

pub let_go-requires-clause-held : goal.let_go-requires-clause-held
let_go-requires-clause-held c =
    in_hand_held _ _ _ _ (taken c.self.inside.names c.take_hold.new.names c.self.inside.faces.entries c.self.inside.rows.entries c.as_str-text.result.now c.in_ok-node.node.0 c.self.invariant c.in_ok-node.ensures.ok)

pub invariant_of-self-in-Err-put : goal.invariant_of-self-in-Err-put
invariant_of-self-in-Err-put c =
    let hand = taken c.self.inside.names c.take_hold.new.names c.self.inside.faces.entries c.self.inside.rows.entries c.as_str-text.result.now c.in_ok-node.node.0 c.self.invariant c.in_ok-node.ensures.ok in
    let H : EntryNodes → Type 0 = IsHeld c.let_go.new.names c.self.inside.faces.entries in
    subst H (sym c.in-Err-put.ensures.err) (left _ _ _ _ _ hand c.let_go.ensures)

pub returns-in-Err-put-clause-err : goal.returns-in-Err-put-clause-err
returns-in-Err-put-clause-err c =
    let names = c.self.inside.names in
    let faces = c.self.inside.faces.entries in
    let rows = c.self.inside.rows.entries in
    let takes = c.in_ok-node.ensures.ok in
    let hand = taken names c.take_hold.new.names faces rows c.as_str-text.result.now c.in_ok-node.node.0 c.self.invariant takes in
    ap (texts_by c.let_go.new.names faces) c.in-Err-put.ensures.err
    ∙ left_texts _ _ _ _ _ hand c.let_go.ensures
    ∙ taken_texts names c.take_hold.new.names faces rows c.as_str-text.result.now c.in_ok-node.node.0 c.self.invariant takes
    ∙ c.self.view_is

pub returns-in-Err-put-clause-rows : goal.returns-in-Err-put-clause-rows
returns-in-Err-put-clause-rows c = rows_seen c.self.inside.names c.self.inside.faces.entries c.self.inside.rows.entries c.args.self.now c.self.invariant c.self.view_is
