use Rattle.std.proofs.Common.{◌≡◌, ◌+◌}
use Rattle.zq_key.specs.Walk.{wild_covers, never}
use Rattle.zq_key.proofs.matching.covers_after_wild.Given as goal

abbrev pub invariant-loop-p_rest : goal.invariant-loop-p_rest
invariant-loop-p_rest g l =
    let c = g.C.Cursor in
    wild_covers c.wild never c.agree (c.left l.fn.pattern) (c.left l.fn.list) ≡ wild_covers c.wild never c.agree (c.left l.p) (c.left l.q)

abbrev pub decreases-loop-p_rest : goal.decreases-loop-p_rest
decreases-loop-p_rest g l = g.C.Cursor.size l.p + g.C.Cursor.size l.q
