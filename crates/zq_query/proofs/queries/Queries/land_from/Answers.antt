use Rattle.std.proofs.Common.{◌≡◌, ◌∙◌, ◌+◌, ◌-◌, ℕ, List, sym, ap, arith}
use Rattle.zq_query.specs.Records.{Record, landing}
use Rattle.zq_query.proofs.Flying.{from_none, from_step}
use Rattle.zq_query.proofs.queries.Queries.land_from.Goals as goal

pub loop-step-init : goal.loop-step-init
loop-step-init c = let s = c.args.self.now in ap (λ (l : List Record). record s { records = l }) (sym (from_none (c.args.first + (c.args.count - 0)) s.records))

pub loop-step-preserved : goal.loop-step-preserved
loop-step-preserved c =
    let s = c.args.self.now in
    let t = c.loop-step-test.true in
    let k = c.loop-step.step in
    let at : ℕ = c.args.first + (c.args.count - (k + 1)) in
    let here : c.args.first + (c.args.count - 1 - k) ≡ at = omega (arith, t) in
    let above : c.args.first + (c.args.count - k) ≡ at + 1 = omega (arith, t) in
    c.land.ensures.records
    ∙ (λ j. record (c.loop-step.invariant j) { records = landing (here j) (c.loop-step.invariant j).records })
    ∙ ap (λ (l : List Record). record s { records = l }) (sym (from_step at (c.args.first + (c.args.count - k)) k (k + 1) s.records above (omega arith)))
