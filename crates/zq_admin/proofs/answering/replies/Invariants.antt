use Rattle.std.proofs.Common.{◌≡◌, ◌<◌, ◌++◌}
use Rattle.std.specs.Vec.{vec_capacity, vec_len}
use Rattle.std.specs.Vec.Iter.{into_iter_items}
use Rattle.zq_admin.specs.Answering.{going_on, with_replies}
use Rattle.zq_admin.proofs.answering.replies.Given as goal

abbrev pub invariant-loop-entry : goal.invariant-loop-entry
invariant-loop-entry l = record {
  made : record { steps = l.steps.items; state = l.gateway.state; going = l.going } ≡ with_replies l.asked.own l.asked.rid (going_on l.initial.steps.items l.initial.gateway.state) l.yielded;
  place : vec_len l.steps < vec_capacity l.steps;
  ahead : l.yielded ++ into_iter_items l.entry-iterator ≡ l.fn.entries;
}
