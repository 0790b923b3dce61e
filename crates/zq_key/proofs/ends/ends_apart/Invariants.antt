use Rattle.std.proofs.Common.{◌≡◌, ◌≤◌, length, take, reverse}
use Rattle.zq_key.specs.Ends.{heads_differ, ends_differ}
use Rattle.zq_key.proofs.ends.ends_apart.Given as goal

abbrev pub invariant-loop-i : goal.invariant-loop-i
invariant-loop-i l = record {
  first : l.i ≤ length l.a;
  second : l.j ≤ length l.b;
  same : ends_differ l.a l.b ≡ heads_differ (reverse (take l.i l.a)) (reverse (take l.j l.b));
}

abbrev pub decreases-loop-i : goal.decreases-loop-i
decreases-loop-i l = l.i
