use Rattle.std.proofs.Common.{◌≡◌, ◌∙◌, ◌<◌, ℕ, sym, ap, refl, arith}
use Rattle.zq_tables.specs.Naming.{has_entry_key}
use Rattle.zq_tables.specs.Holding.{texts_by}
use Rattle.zq_tables.proofs.Entered.{key_found, same_change}
use Rattle.zq_tables.proofs.EntryRows.{row_lives, row_rises}
use Rattle.zq_tables.proofs.naming.Naming.holds_entry.Goals as goal

pub find-requires-clause-live : goal.find-requires-clause-live
find-requires-clause-live c = row_lives c.self.inside.names c.self.inside.rows.entries c.region_to_index.result (λ i some. c.self.invariant.live i (omega (arith, some)))

pub find-requires-clause-rise : goal.find-requires-clause-rise
find-requires-clause-rise c = row_rises c.self.inside.names c.self.inside.rows.entries c.region_to_index.result c.self.invariant.order

pub returns : goal.returns
returns c =
    let names = c.self.inside.names in
    let faces = c.self.inside.faces.entries in
    let rows = c.self.inside.rows.entries in
    c.is_ok.ensures.value
    ∙ key_found names faces rows c.region_to_index.result c.args.key.now c.find.result c.find.ensures.found c.find.ensures.absent
    ∙ same_change has_entry_key c.region_to_index.result _ c.args.key.now _ (texts_by names faces rows) _ c.region_to_index.ensures.index refl c.self.view_is
