use Rattle.std.proofs.Common.{◌≡◌, ◌≤◌, ◌+◌, length, take}
use Rattle.std.specs.Prelude.{◌&&◌}
use Rattle.zq_query.specs.Asking.{giving}
use Rattle.zq_query.specs.Tables.{all_rise}
use Rattle.zq_query.proofs.queries.ask.give_all.Given as goal

abbrev pub invariant-loop-place : goal.invariant-loop-place
invariant-loop-place l = record {
  given : l.last_ids.entries ≡ giving l.initial.last_ids.entries (take l.place-index l.places);
  rising : l.still ≡ (l.fn.rising && all_rise l.initial.last_ids.entries (take l.place-index l.places));
  room : length l.places ≤ l.last_ids.spare + l.place-index;
}
