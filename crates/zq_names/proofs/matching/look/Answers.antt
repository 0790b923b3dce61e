use Rattle.std.proofs.Common.{◌≡◌, ◌<◌, ◌+◌, ◌++◌, ◌∷◌, ◌&&◌, [], ℕ, List, Option, Bool, true, false, length, map, take, drop, filter, get_or, subst, sym, ap, ◌∙◌, refl, arith, None, Some}
use Rattle.std.proofs.lemmas.Bool.Decides.{nat_tests}
use Rattle.std.proofs.lemmas.List.{append-nil, map_push, get_or_default, nil_from_length}
use Rattle.zq_key.specs.Key.{is_key, intersects}
use Rattle.zq_names.specs.declared.node.Node.{Node}
use Rattle.zq_names.specs.Names.{NameEntry, IsTable, slot, rows, row, ids, text_at, entry_of, slot_context, slot_text}
use Rattle.zq_names.specs.Matching.{is_match, meets_key, number}
use Rattle.zq_key.specs.Apart.{IsApartAt}
use Rattle.zq_names.proofs.Rows.{length-rows, text_there, row_at}
use Rattle.zq_names.proofs.Pruning.{one_look, jump, no_meeting, key_there, empty_no_key}
use Rattle.zq_names.proofs.matching.look.Goals as goal

-- the entry at a place is that of the node that was read there
entry_there : (nodes : List (Option Node)) (order : List ℕ) (i : ℕ) (node : Node) → i < length order → slot nodes (get_or order i 0) ≡ Some node → get_or (rows nodes order) i (entry_of 0 None) ≡ entry_of (get_or order i 0) (Some node)
entry_there nodes order i node lt is = row_at nodes order i (get_or order i 0) lt (get_or_default order i 0 _ lt) ∙ ap (entry_of (get_or order i 0)) is

there : (nodes : List (Option Node)) (order : List ℕ) (i : ℕ) (node : Node) → i < length order → slot nodes (get_or order i 0) ≡ Some node → node.text ≡ text_at (rows nodes order) i
there nodes order i node lt is = text_there nodes order i (get_or order i 0) node lt (get_or_default order i 0 _ lt) is

-- an entry that is no match adds nothing
passed_over : (nodes : List (Option Node)) (order : List ℕ) (i : ℕ) (node : Node) (key xs : List ℕ) → i < length order → slot nodes (get_or order i 0) ≡ Some node → is_match key (entry_of (get_or order i 0) (Some node)) ≡ false
    → xs ≡ xs ++ ids (filter (is_match key) (drop i (take (i + 1) (rows nodes order))))
passed_over nodes order i node key xs lt is miss =
    let here = entry_there nodes order i node lt is in
    rw (one_look key (rows nodes order) i (entry_of 0 None) false (omega (arith, length-rows nodes order, lt)) (ap (is_match key) here ∙ miss)) (sym (append-nil xs))

key_of_node : (nodes : List (Option Node)) (order : List ℕ) (i : ℕ) (node : Node) → IsTable nodes order → i < length order → slot nodes (get_or order i 0) ≡ Some node → 0 < length node.text → is_key node.text ≡ true
key_of_node nodes order i node table lt is some =
    let same = there nodes order i node lt is in
    ap is_key same ∙ key_there nodes order i table lt (omega (arith, some, ap length same))

no_context : (c m : Bool) → c ≡ false → (c && m) ≡ false
no_context c m e = rw e

misses : (c m : Bool) → m ≡ false → (c && m) ≡ false
misses true m e = e
misses false m e = refl

jumped : (nodes : List (Option Node)) (order : List ℕ) (i j k : ℕ) (node : Node) (bytes key key_bytes : List ℕ) → IsTable nodes order → i < length order → slot nodes (get_or order i 0) ≡ Some node → bytes ≡ node.text → key_bytes ≡ key
    → IsApartAt bytes key_bytes k → Rattle.zq_names.specs.Names.SplitsAt (rows nodes order) (take k bytes ++ (get_or bytes k 0 + 1) ∷ []) j
    → (i < j) × (filter (is_match key) (drop i (take j (rows nodes order))) ≡ [])
jumped nodes order i j k node bytes key key_bytes table lt is text same apart split =
    let A : List ℕ → Type 0 = λ (q : List ℕ). IsApartAt bytes q k in
    jump key (rows nodes order) bytes (take k bytes) i j k table.names.rising split (omega (arith, length-rows nodes order, lt)) (text ∙ there nodes order i node lt is) refl (subst A same apart)

pub returns-in-Some-clause-bounds : goal.returns-in-Some-clause-bounds
returns-in-Some-clause-bounds c =
    let n = length-rows c.args.nodes.now.slots c.args.order.now in
    let both = jumped c.args.nodes.now.slots c.args.order.now c.args.i c.after_run.result c.in-Some.k c.index-node.result.now c.as_bytes-bytes.result.now c.args.key.now c.as_bytes.result.now c.requires.table c.requires.in_range (ap (slot c.args.nodes.now.slots) (sym c.get-id.ensures.number) ∙ c.index-node.ensures) (c.as_bytes-bytes.ensures.value ∙ c.as_str-text.ensures) c.as_bytes.ensures.value c.in-Some.ensures c.after_run.ensures in
    (both.0, omega (arith, n, c.after_run.ensures.in_range))

pub returns-in-Some-clause-found : goal.returns-in-Some-clause-found
returns-in-Some-clause-found c =
    let both = jumped c.args.nodes.now.slots c.args.order.now c.args.i c.after_run.result c.in-Some.k c.index-node.result.now c.as_bytes-bytes.result.now c.args.key.now c.as_bytes.result.now c.requires.table c.requires.in_range (ap (slot c.args.nodes.now.slots) (sym c.get-id.ensures.number) ∙ c.index-node.ensures) (c.as_bytes-bytes.ensures.value ∙ c.as_str-text.ensures) c.as_bytes.ensures.value c.in-Some.ensures c.after_run.ensures in
    rw both.1 (sym (append-nil (map number c.args.found.now.items)))

pub returns-then-not-node-clause-found : goal.returns-then-not-node-clause-found
returns-then-not-node-clause-found c =
    let node = c.index-node.result.now in
    passed_over c.args.nodes.now.slots c.args.order.now c.args.i node c.args.key.now (map number c.args.found.now.items) c.requires.in_range (ap (slot c.args.nodes.now.slots) (sym c.get-id.ensures.number) ∙ c.index-node.ensures) (no_context node.context (meets_key c.args.key.now node.text) c.if-not-node.true)

pub returns-then-is_empty-clause-found : goal.returns-then-is_empty-clause-found
returns-then-is_empty-clause-found c =
    let node = c.index-node.result.now in
    let key = c.args.key.now in
    let none : length c.as_str-text.result.now ≡ 0 = grind (arith, nat_tests, c.if-is_empty.ensures) in
    let empty : node.text ≡ [] = sym c.as_str-text.ensures ∙ nil_from_length c.as_str-text.result.now none in
    let miss : meets_key key node.text ≡ false = rw (empty, empty_no_key) in
    passed_over c.args.nodes.now.slots c.args.order.now c.args.i node key (map number c.args.found.now.items) c.requires.in_range (ap (slot c.args.nodes.now.slots) (sym c.get-id.ensures.number) ∙ c.index-node.ensures) (misses node.context (meets_key key node.text) miss)

pub intersects-requires-clause-first : goal.intersects-requires-clause-first
intersects-requires-clause-first c =
    let node = c.index-node.result.now in
    let some : 0 < length c.as_str-text.result.now = grind (arith, nat_tests, c.if-is_empty.ensures) in
    ap is_key c.as_str-text.ensures ∙ key_of_node c.args.nodes.now.slots c.args.order.now c.args.i node c.requires.table c.requires.in_range (ap (slot c.args.nodes.now.slots) (sym c.get-id.ensures.number) ∙ c.index-node.ensures) (omega (arith, some, ap length c.as_str-text.ensures))

pub returns-then-not-intersects-clause-found : goal.returns-then-not-intersects-clause-found
returns-then-not-intersects-clause-found c =
    let node = c.index-node.result.now in
    let key = c.args.key.now in
    let miss : intersects node.text key ≡ false = ap (λ (t : List ℕ). intersects t key) (sym c.as_str-text.ensures) ∙ sym c.if-not-intersects.ensures.bytes in
    passed_over c.args.nodes.now.slots c.args.order.now c.args.i node key (map number c.args.found.now.items) c.requires.in_range (ap (slot c.args.nodes.now.slots) (sym c.get-id.ensures.number) ∙ c.index-node.ensures) (misses node.context (meets_key key node.text) (no_meeting key node.text miss))

pub returns-in-Ok-clause-found : goal.returns-in-Ok-clause-found
returns-in-Ok-clause-found c =
    let nodes = c.args.nodes.now.slots in
    let order = c.args.order.now in
    let i = c.args.i in
    let node = c.index-node.result.now in
    let key = c.args.key.now in
    let lt = c.requires.in_range in
    let some : 0 < length c.as_str-text.result.now = grind (arith, nat_tests, c.if-is_empty.ensures) in
    let is_a_key = key_of_node nodes order i node c.requires.table lt (ap (slot c.args.nodes.now.slots) (sym c.get-id.ensures.number) ∙ c.index-node.ensures) (omega (arith, some, ap length c.as_str-text.ensures)) in
    let hit : intersects node.text key ≡ true = ap (λ (t : List ℕ). intersects t key) (sym c.as_str-text.ensures) ∙ sym c.if-not-intersects.ensures.bytes in
    let here = entry_there nodes order i node lt (ap (slot c.args.nodes.now.slots) (sym c.get-id.ensures.number) ∙ c.index-node.ensures) in
    let match : is_match key (get_or (rows nodes order) i (entry_of 0 None)) ≡ true = ap (is_match key) here ∙ rw (c.if-not-node.false, is_a_key, hit) in
    rw (c.in-Ok.ensures.items, c.get-id.ensures.number, map_push number, one_look key (rows nodes order) i (entry_of 0 None) true (omega (arith, length-rows nodes order, lt)) match, here)
