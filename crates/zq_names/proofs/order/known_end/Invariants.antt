use Rattle.std.proofs.Common.{◌≤◌, ◌-◌, length}
use Rattle.zq_names.specs.Texts.{IsKnownTo}
use Rattle.zq_names.specs.Names.{rows, texts}
use Rattle.zq_names.proofs.order.known_end.Given as goal

abbrev pub invariant-loop-low : goal.invariant-loop-low
invariant-loop-low l = record {
  in_range : l.low ≤ l.high;
  within : l.high ≤ length l.text;
  known : IsKnownTo (texts (rows l.nodes.slots l.order)) l.text l.low;
}

abbrev pub decreases-loop-low : goal.decreases-loop-low
decreases-loop-low l = l.high - l.low
