use Rattle.std.proofs.Common.{◌≡◌, None}
use Rattle.std.specs.Option.{option_map}
use Rattle.zq_key.specs.Walk.{after_last}
use Rattle.zq_key.proofs.matching.after_last_wild.Given as goal

abbrev pub invariant-loop-after : goal.invariant-loop-after
invariant-loop-after g l =
    let c = g.C.Cursor in
    after_last c.wild None (c.left l.fn.list) ≡ after_last c.wild (option_map (λ r. c.left r) l.last) (c.left l.rest)

abbrev pub decreases-loop-after : goal.decreases-loop-after
decreases-loop-after g l = g.C.Cursor.size l.rest
