use Rattle.std.proofs.Common.{◌≡◌, ◌∙◌, sym, true, false}
use Rattle.zq_key.specs.Chunks.{lists_relate, free_left, relates}
use Rattle.zq_key.proofs.Related.{round-differ, round-on}
use Rattle.zq_key.proofs.key.chunks_relate.Goals as goal

pub returns-then-not-relate : goal.returns-then-not-relate
returns-then-not-relate c =
    let fronts : lists_relate c.args.relation (free_left c.loop-p.p.now) (free_left c.loop-p.q.now) ≡ true = sym c.fronts_relate.ensures ∙ c.if-not-fronts_relate.false in
    let heads : relates c.args.relation c.in-Some.x.now c.in-Some-first_chunk-2.y.now ≡ false = sym c.relate.ensures ∙ c.if-not-relate.true in
    sym (c.loop-p.invariant ∙ round-differ c.args.relation c.loop-p.p.now c.loop-p.q.now c.in-Some.x.now c.in-Some.p_rest.now c.in-Some-first_chunk-2.y.now c.in-Some-first_chunk-2.q_rest.now fronts (c.after_free-p_left.ensures.split ∙ c.in-Some.ensures.0) (c.after_free-q_left.ensures.split ∙ c.in-Some-first_chunk-2.ensures.0) heads)

pub loop-p-preserved : goal.loop-p-preserved
loop-p-preserved c =
    let fronts : lists_relate c.args.relation (free_left c.loop-p.p.now) (free_left c.loop-p.q.now) ≡ true = sym c.fronts_relate.ensures ∙ c.if-not-fronts_relate.false in
    let heads : relates c.args.relation c.in-Some.x.now c.in-Some-first_chunk-2.y.now ≡ true = sym c.relate.ensures ∙ c.if-not-relate.false in
    c.loop-p.invariant ∙ round-on c.args.relation c.loop-p.p.now c.loop-p.q.now c.in-Some.x.now c.in-Some.p_rest.now c.in-Some-first_chunk-2.y.now c.in-Some-first_chunk-2.q_rest.now fronts (c.after_free-p_left.ensures.split ∙ c.in-Some.ensures.0) (c.after_free-q_left.ensures.split ∙ c.in-Some-first_chunk-2.ensures.0) heads
