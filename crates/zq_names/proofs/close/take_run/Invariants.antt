use Rattle.std.proofs.Common.{List}
use Rattle.zq_names.specs.Names.{NameEntry, IsSound, rows, text_at}
use Rattle.zq_names.specs.Closing.{IsRun, ClosesBelow}
use Rattle.zq_names.proofs.close.take_run.Given as goal

abbrev pub invariant-loop-end : goal.invariant-loop-end
invariant-loop-end l = record {
  sound : IsSound l.nodes.slots l.order;
  run : IsRun (rows l.nodes.slots l.order) (text_at (rows l.fn.nodes.slots l.fn.order) l.place) l.place l.low l.end;
  rest : (new : List NameEntry) → ClosesBelow (rows l.nodes.slots l.order) (text_at (rows l.fn.nodes.slots l.fn.order) l.place) new
      → ClosesBelow (rows l.fn.nodes.slots l.fn.order) (text_at (rows l.fn.nodes.slots l.fn.order) l.place) new;
}

abbrev pub decreases-loop-end : goal.decreases-loop-end
decreases-loop-end l = l.end
