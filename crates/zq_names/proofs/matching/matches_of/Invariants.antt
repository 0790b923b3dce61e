use Rattle.std.proofs.Common.{◌≡◌, ◌-◌, ◌≤◌, length, map, take, filter}
use Rattle.zq_names.specs.Names.{rows, ids}
use Rattle.zq_names.specs.Matching.{number, is_match}
use Rattle.zq_names.proofs.matching.matches_of.Given as goal

abbrev pub invariant-loop-i : goal.invariant-loop-i
invariant-loop-i l = record {
  in_range : l.i ≤ length l.order;
  so_far : map number l.found.items ≡ ids (filter (is_match l.key) (take l.i (rows l.nodes.slots l.order)));
}

abbrev pub decreases-loop-i : goal.decreases-loop-i
decreases-loop-i l = length l.order - l.i
