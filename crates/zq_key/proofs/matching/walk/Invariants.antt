use Rattle.std.proofs.Common.{◌≡◌, ◌≤◌, true}
use Rattle.zq_key.specs.Match.{covers_by, meets_by}
use Rattle.zq_key.specs.Walk.{wild_takes, never}
use Rattle.zq_key.proofs.matching.walk.Given as goal

abbrev pub invariant-loop-p_rest : goal.invariant-loop-p_rest
invariant-loop-p_rest g l =
    let c = g.C.Cursor in
    record {
      meets : meets_by c.wild never c.agree (c.left l.fn.a) (c.left l.fn.b) ≡ meets_by c.wild never c.agree (c.left l.p) (c.left l.q);
      covers : covers_by c.wild never c.agree (c.left l.fn.a) (c.left l.fn.b) ≡ covers_by c.wild never c.agree (c.left l.p) (c.left l.q);
      later : wild_takes c.wild never c.agree (c.left l.fn.a) (c.left l.fn.b) ≡ true → wild_takes c.wild never c.agree (c.left l.p) (c.left l.q) ≡ true;
      p_left : c.size l.p ≤ c.size l.fn.a;
      q_left : c.size l.q ≤ c.size l.fn.b;
    }

abbrev pub decreases-loop-p_rest : goal.decreases-loop-p_rest
decreases-loop-p_rest g l = g.C.Cursor.size l.p
