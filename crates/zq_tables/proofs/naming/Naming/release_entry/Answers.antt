use Rattle.std.proofs.Common.{◌≡◌, ◌∙◌, ◌<◌, ℕ, sym, ap, refl, arith}
use Rattle.zq_tables.specs.Naming.{without_entry_key}
use Rattle.zq_tables.specs.Holding.{texts_by}
use Rattle.zq_tables.proofs.Entered.{departed, departed_texts, same_change, stays_released}
use Rattle.zq_tables.proofs.EntryRows.{row_lives, row_rises}
use Rattle.zq_tables.proofs.Letting.{in_hand_held, in_hand_live, left, left_texts}
use Rattle.zq_tables.proofs.naming.Naming.release_entry.Goals as goal

pub find-requires-clause-live : goal.find-requires-clause-live
find-requires-clause-live c = row_lives c.self.inside.names c.self.inside.rows.entries c.region_to_index-index.result (λ i some. c.self.invariant.live i (omega (arith, some)))

pub find-requires-clause-rise : goal.find-requires-clause-rise
find-requires-clause-rise c = row_rises c.self.inside.names c.self.inside.rows.entries c.region_to_index-index.result c.self.invariant.order

-- the key is not there
pub returns-in_default : goal.returns-in_default
returns-in_default c =
    let region = c.region_to_index-index.result in
    let key = c.args.key.now in
    let names = c.self.inside.names in
    let faces = c.self.inside.faces.entries in
    let rows = c.self.inside.rows.entries in
    sym c.self.view_is
    ∙ stays_released names faces rows region key c.in_default.field-0 c.self.invariant c.in_default.ensures.absent
    ∙ same_change without_entry_key region _ key _ (texts_by names faces rows) _ c.region_to_index-index.ensures.index refl c.self.view_is

-- its node leaves the row, and is let go
pub let_go-requires-clause-live : goal.let_go-requires-clause-live
let_go-requires-clause-live c =
    in_hand_live _ _ _ _ (departed c.self.inside.names c.self.inside.faces.entries c.self.inside.rows.entries c.take-node.new.rows.entries c.region_to_index-index.result c.args.key.now c.in-Ok.at c.take-node.result.0 c.take-node.ensures.node c.in-Ok.ensures.found c.take-node.ensures.rows c.self.invariant c.region_to_index-index.ensures.bound)

pub let_go-requires-clause-held : goal.let_go-requires-clause-held
let_go-requires-clause-held c =
    in_hand_held _ _ _ _ (departed c.self.inside.names c.self.inside.faces.entries c.self.inside.rows.entries c.take-node.new.rows.entries c.region_to_index-index.result c.args.key.now c.in-Ok.at c.take-node.result.0 c.take-node.ensures.node c.in-Ok.ensures.found c.take-node.ensures.rows c.self.invariant c.region_to_index-index.ensures.bound)

pub invariant_of-self : goal.invariant_of-self
invariant_of-self c =
    left _ _ _ _ _ (departed c.self.inside.names c.self.inside.faces.entries c.self.inside.rows.entries c.take-node.new.rows.entries c.region_to_index-index.result c.args.key.now c.in-Ok.at c.take-node.result.0 c.take-node.ensures.node c.in-Ok.ensures.found c.take-node.ensures.rows c.self.invariant c.region_to_index-index.ensures.bound) c.let_go.ensures

pub returns : goal.returns
returns c =
    let region = c.region_to_index-index.result in
    let key = c.args.key.now in
    let names = c.self.inside.names in
    let faces = c.self.inside.faces.entries in
    let rows = c.self.inside.rows.entries in
    let hand = departed names faces rows c.take-node.new.rows.entries region key c.in-Ok.at c.take-node.result.0 c.take-node.ensures.node c.in-Ok.ensures.found c.take-node.ensures.rows c.self.invariant c.region_to_index-index.ensures.bound in
    left_texts _ _ _ _ _ hand c.let_go.ensures
    ∙ departed_texts names faces rows c.take-node.new.rows.entries region key c.in-Ok.at c.take-node.result.0 c.take-node.ensures.node c.in-Ok.ensures.found c.take-node.ensures.rows
    ∙ same_change without_entry_key region _ key _ (texts_by names faces rows) _ c.region_to_index-index.ensures.index refl c.self.view_is
