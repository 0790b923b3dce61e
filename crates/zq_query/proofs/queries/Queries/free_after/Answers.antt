use Rattle.std.proofs.Common.{◌∙◌, ◌+◌, ◌-◌, ◌^◌, sym, refl, arith}
use Rattle.zq_query.proofs.Ids.{goes_on, stops, ends}
use Rattle.zq_query.proofs.queries.Queries.free_after.Goals as goal

pub returns-then-not-is_pending : goal.returns-then-not-is_pending
returns-then-not-is_pending c =
    let l = c.loop-step-test.true in
    sym (c.loop-step.invariant ∙ stops c.args.face.0 c.args.self.now.records c.loop-step.id _ (2 ^ 32 - c.loop-step._step) (2 ^ 32 - (c.loop-step._step + 1)) refl (omega (arith, l)) (sym c.is_pending.ensures ∙ c.if-not-is_pending.true))

pub loop-step-preserved : goal.loop-step-preserved
loop-step-preserved c =
    let l = c.loop-step-test.true in
    c.loop-step.invariant ∙ goes_on c.args.face.0 c.args.self.now.records c.loop-step.id _ (2 ^ 32 - c.loop-step._step) (2 ^ 32 - (c.loop-step._step + 1)) refl (omega (arith, l)) (sym c.is_pending.ensures ∙ c.if-not-is_pending.false)

pub returns : goal.returns
returns c =
    let l = c.loop-step-test.false in
    sym (c.loop-step.invariant ∙ ends c.args.face.0 c.args.self.now.records c.loop-step.id (2 ^ 32 - c.loop-step._step) (omega (arith, l)))
