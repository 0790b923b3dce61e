use Rattle.std.proofs.Common.{◌∙◌, sym, subst}
use Rattle.std.proofs.lemmas.List.Elements.{All-get_or}
use Rattle.zq_told.specs.Rooms.{IsRoomy, has_room}
use Rattle.zq_told.specs.Telling.{Row}
use Rattle.zq_told.proofs.Shown.{weaker}
use Rattle.zq_told.proofs.book.set_all.Goals as goal

pub set_row-requires : goal.set_row-requires
set_row-requires c =
    let row : Row = c.row-item.result in
    let all = weaker (IsRoomy (has_room c.args.slots.now)) (IsRoomy (has_room c.loop-row.slots)) row c.args.rows.now (λ r p h. c.loop-row.invariant.rooms r.0 ∙ p h) c.requires in
    subst (IsRoomy (has_room c.loop-row.slots)) (sym c.row-item.is) (All-get_or (IsRoomy (has_room c.loop-row.slots)) c.args.rows.now c.loop-row.row-index row c.loop-row-test.true all)
