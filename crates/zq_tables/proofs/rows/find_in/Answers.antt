use Rattle.std.proofs.Common.{◌≡◌, ◌∙◌, ◌<◌, ◌==◌, length, slice_index, true, sym, arith}
use Rattle.zq_tables.proofs.RowPlaces.{found_at, missed_at, missed_end}
use Rattle.zq_tables.proofs.rows.find_in.Goals as goal

pub returns-then-at-len-clause-absent : goal.returns-then-at-len-clause-absent
returns-then-at-len-clause-absent c = missed_end _ _ _ _ c.requires.rise c.place_of-at.ensures (omega arith)

pub returns-then-is_key_at-clause-found : goal.returns-then-is_key_at-clause-found
returns-then-is_key_at-clause-found c = found_at _ _ _ _ c.requires.rise c.place_of-at.ensures (omega arith) (sym c.is_key_at.ensures ∙ c.if-is_key_at.true)

pub returns-clause-absent : goal.returns-clause-absent
returns-clause-absent c = missed_at _ _ _ _ c.requires.rise c.place_of-at.ensures (omega arith) (sym c.is_key_at.ensures ∙ c.if-is_key_at.false)
