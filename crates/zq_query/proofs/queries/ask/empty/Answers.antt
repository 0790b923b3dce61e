use Rattle.std.proofs.Common.{◌≡◌, ◌∙◌, ◌+◌, ◌-◌, ◌<◌, ℕ, ap, get_or, take, arith, length}
use Rattle.std.specs.Map.{remove_entry}
use Rattle.std.specs.BTreeMap.{is_at}
use Rattle.zq_query.specs.Tables.{filled, place_cmp}
use Rattle.zq_query.proofs.Filling.{one_out}
use Rattle.zq_query.proofs.queries.ask.empty.Goals as goal

pub loop-step-preserved : goal.loop-step-preserved
loop-step-preserved c = λ es v absent was.
    let ps = c.args.places.now in
    let j : ℕ = c.args.count - 1 - c.loop-step.step in
    let t = c.loop-step-test.true in
    let w = c.requires in
    let more : c.args.count - c.loop-step.step ≡ j + 1 = omega (arith, t) in
    let fewer : c.args.count - (c.loop-step.step + 1) ≡ j = omega (arith, t) in
    let inside : j < length ps = omega (arith, t, w) in
    let p : ℕ × ℕ = get_or ps j (0, 0) in
    let now = c.loop-step.invariant es v absent was ∙ ap (λ n. filled es (take n ps) v) more in
    rw fewer (c.remove.ensures.entries ∙ ap (remove_entry (is_at (place_cmp p))) now ∙ one_out es v ps j (0, 0) absent inside)
