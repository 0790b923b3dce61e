use Rattle.std.proofs.Common.{◌≡◌, ◌+◌, ◌≤◌, length, take}
use Rattle.slab.specs.Slab.{slab_len}
use Rattle.zq_names.specs.Coming.{coming}
use Rattle.zq_names.specs.Names.{IsTable, IsLinked, rows, Adds}
use Rattle.zq_names.proofs.edit.put_all.Given as goal

abbrev pub invariant-loop-newcomer : goal.invariant-loop-newcomer
invariant-loop-newcomer l = record {
  can : (goal.iterator-loop-newcomer).can_next l.newcomer-iterator;
  ends : (goal.iterator-loop-newcomer).is_finite l.newcomer-iterator;
  table : IsTable l.nodes.slots l.order;
  linked : IsLinked l.fn.nodes.slots → IsLinked l.nodes.slots;
  adds : Adds (rows l.fn.nodes.slots l.fn.order) (rows l.nodes.slots l.order) (coming l.yielded);
  front : take (length l.yielded) l.fn.pending.items ≡ l.yielded;
  node_room : slab_len l.nodes + length l.fn.pending.items ≤ l.nodes.capacity + length l.yielded;
  order_room : length l.order ≤ length l.fn.order + length l.yielded;
}
