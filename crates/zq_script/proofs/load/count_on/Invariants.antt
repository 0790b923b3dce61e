use Rattle.std.proofs.Common.{◌≡◌, ◌-◌, ◌*◌, ◌^◌}
use Rattle.zq_machine.specs.Machine.{steps, steps_from}
use Rattle.zq_script.specs.Load.{IsBelow, calls_from, count, handed_over, load_config, plus}
use Rattle.zq_script.proofs.load.count_on.Given as goal

abbrev pub invariant-calls : goal.invariant-calls
invariant-calls l = record {
  counted : plus l.counts (count (handed_over (steps_from l.gateway.state (calls_from l.number (l.number-end - l.number))))) ≡ count (handed_over (steps load_config (calls_from 0 l.number-end)));
  below : IsBelow (l.number * 2 ^ 64) l.counts;
}
