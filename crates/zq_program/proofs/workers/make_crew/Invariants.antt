use Rattle.std.proofs.Common.{◌≡◌, ◌-◌, length, map}
use Rattle.zq_shared.specs.Tallies.{each}
use Rattle.zq_program.specs.Working.{new_worker}
use Rattle.zq_program.proofs.workers.make_crew.Given as goal

abbrev pub invariant-loop-part : goal.invariant-loop-part
invariant-loop-part g l = record {
  crew : l.crew.items ≡ map (new_worker l.initial.seats.home) l.yielded;
  seats : l.seats ≡ record { home = l.initial.seats.home; count = l.initial.seats.count - length l.yielded };
  tally : l.tally ≡ record { parts = each (length l.fn.parts.items - length l.yielded); made = each 0 };
}
