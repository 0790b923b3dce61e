use Rattle.std.proofs.Common.{◌≡◌, vec_len, vec_capacity, All}
use Rattle.std.specs.Arc.{arc_value}
use Rattle.zq_hold.specs.Views.{first_keeper}
use Rattle.zq_hold.specs.Seats.{Holder, IsKeeperSeat, unused_seat}
use Rattle.zq_hold.proofs.holds.Holds.new.Given as goal

abbrev pub invariant-loop-i : goal.invariant-loop-i
invariant-loop-i l = IsKeeperSeat l.seat (arc_value l.table).shared × (l.seat.me.0 ≡ record (first_keeper l.slots) { made = l._i }) × (vec_len l.list ≡ l._i) × (vec_capacity l.list ≡ vec_capacity l.initial.list) × All (λ (h : Holder). h ≡ unused_seat (arc_value l.table).shared.table_id) l.list.items
