use Rattle.std.proofs.Common.{◌<◌, List, length}
use Rattle.zq_names.specs.Names.{NameEntry, IsSound, rows, text_at, Cleans}
use Rattle.zq_names.proofs.edit.clean_from.Given as goal

abbrev pub invariant-loop-text : goal.invariant-loop-text
invariant-loop-text l = record {
  sound : IsSound l.nodes.slots l.order;
  in_range : l.at < length l.order;
  rest : (new : List NameEntry) → Cleans (rows l.nodes.slots l.order) (text_at (rows l.nodes.slots l.order) l.at) new
      → Cleans (rows l.fn.nodes.slots l.fn.order) (text_at (rows l.fn.nodes.slots l.fn.order) l.fn.place) new;
}

abbrev pub decreases-loop-text : goal.decreases-loop-text
decreases-loop-text l = length l.order
