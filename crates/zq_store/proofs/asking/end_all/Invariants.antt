use Rattle.std.proofs.Common.{◌≡◌, ◌++◌, drop, map}
use Rattle.zq_machine.specs.Machine.{state_after, steps_from}
use Rattle.zq_store.specs.Getting.{end_call, handed_over}
use Rattle.zq_store.proofs.asking.end_all.Given as goal

abbrev pub invariant-loop-one : goal.invariant-loop-one
invariant-loop-one l = record {
  handed : l.handed ++ handed_over (steps_from l.gateway.state (map end_call (drop l.one-index l.asked))) ≡ l.initial.handed ++ handed_over (steps_from l.initial.gateway.state (map end_call l.asked));
  after : state_after l.gateway.state (map end_call (drop l.one-index l.asked)) ≡ state_after l.initial.gateway.state (map end_call l.asked);
}
