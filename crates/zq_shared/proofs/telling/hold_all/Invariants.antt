use Rattle.std.proofs.Common.{◌≡◌, ◌≤◌, take}
use Rattle.std.specs.Prelude.{vec_capacity, vec_len}
use Rattle.std.specs.List.{count_by}
use Rattle.zq_shared.specs.Holding.{AreHeld}
use Rattle.zq_shared.specs.Stored.{is_flying}
use Rattle.zq_shared.specs.Lending.{Lends}
use Rattle.zq_shared.proofs.telling.hold_all.Given as goal

abbrev pub invariant-messages : goal.invariant-messages
invariant-messages l = record {
  lends : Lends (take l.message-index l.handed) l.initial.slots l.slots l.initial.seat l.seat;
  same : AreHeld l.held.items l.seat.held;
  few : vec_len l.held ≤ count_by is_flying (take l.message-index l.handed);
  room : vec_capacity l.held ≡ vec_capacity l.initial.held;
}
