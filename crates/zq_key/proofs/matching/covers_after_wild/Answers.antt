use Rattle.std.proofs.Common.{◌∙◌, sym}
use Rattle.zq_key.proofs.Meet.{again, found, over, onward}
use Rattle.zq_key.proofs.matching.covers_after_wild.Goals as goal

pub loop-p_rest-preserved-in-Some : goal.loop-p_rest-preserved-in-Some
loop-p_rest-preserved-in-Some g c =
    let m = g.C.Cursor in
    let s = c.in-Some.ensures in
    c.loop-p_rest.invariant ∙ again m.wild m.agree (m.left c.loop-p_rest.p) (m.left c.loop-p_rest.q) (m.left c.walk-p_left.result.0) (m.left c.walk-p_left.result.1) (m.left c.in-Some.p_rest) s.0 s.1 s.2 c.walk-p_left.ensures.covers c.walk-p_left.ensures.later

pub returns-then-both_end : goal.returns-then-both_end
returns-then-both_end g c =
    let m = g.C.Cursor in
    sym (c.loop-p_rest.invariant ∙ found m.wild m.agree (m.left c.loop-p_rest.p) (m.left c.loop-p_rest.q) (m.left c.walk-p_left.result.0) (m.left c.walk-p_left.result.1) c.walk-p_left.ensures.covers c.walk-p_left.ensures.stops c.in-None.ensures (sym c.both_end.ensures ∙ c.if-both_end.true))

pub returns-in-None-after_first : goal.returns-in-None-after_first
returns-in-None-after_first g c =
    let m = g.C.Cursor in
    sym (c.loop-p_rest.invariant ∙ over m.wild m.agree (m.left c.loop-p_rest.p) (m.left c.loop-p_rest.q) (m.left c.walk-p_left.result.0) (m.left c.walk-p_left.result.1) c.in-None-after_first.ensures c.walk-p_left.ensures.covers c.walk-p_left.ensures.stops c.in-None.ensures (sym c.both_end.ensures ∙ c.if-both_end.false))

pub loop-p_rest-preserved : goal.loop-p_rest-preserved
loop-p_rest-preserved g c =
    let m = g.C.Cursor in
    let s = c.in-Some-after_first.ensures in
    c.loop-p_rest.invariant ∙ onward m.wild m.agree (m.left c.loop-p_rest.p) (m.left c.loop-p_rest.q) (m.left c.walk-p_left.result.0) (m.left c.walk-p_left.result.1) (m.left c.in-Some-after_first.q_rest) s.0 s.1 c.walk-p_left.ensures.covers c.walk-p_left.ensures.stops c.in-None.ensures (sym c.both_end.ensures ∙ c.if-both_end.false)
