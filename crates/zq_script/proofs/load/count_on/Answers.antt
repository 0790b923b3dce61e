use Rattle.std.proofs.Common.{◌∙◌, ◌+◌, ◌-◌, ◌*◌, ◌≤◌, ℕ, List, sym, ap, arith}
use Rattle.zq_machine.specs.declared.call.Call.{Call}
use Rattle.zq_machine.specs.Machine.{steps, steps_from}
use Rattle.zq_script.specs.Load.{calls_from, count, handed_over, load_call, load_config, plus}
use Rattle.zq_script.proofs.Loaded.{call_counted, next_calls, none_counted}
use Rattle.zq_script.proofs.load.count_on.Goals as goal

pub calls-preserved : goal.calls-preserved
calls-preserved c =
    let s = c.calls.gateway.state in
    let n = c.calls.number in
    let end = 12 + 4 * c.from.result in
    let left = calls_from (n + 1) (end - (n + 1)) in
    let counted = c.in_ok-count_call.ensures.counted in
    let after = c.in_ok-count_call.ensures.after in
    record {
      counted =
          (λ j. plus (counted j) (count (handed_over (steps_from (after j) left))))
          ∙ call_counted c.calls.counts s (load_call n) left
          ∙ ap (λ (l : List Call). plus c.calls.counts (count (handed_over (steps_from s l)))) (sym (next_calls n end c.calls-test.true))
          ∙ c.calls.invariant.counted;
      below = c.in_ok-count_call.ensures.below;
    }

pub returns : goal.returns
returns c =
    let end = 12 + 4 * c.from.result in
    let test = c.calls-test.false in
    let over : end ≤ c.calls.number = omega (arith, test) in
    sym (none_counted c.calls.counts c.calls.gateway.state c.calls.number end over)
    ∙ c.calls.invariant.counted
    ∙ ap (λ (a : ℕ). count (handed_over (steps load_config (calls_from 0 (12 + 4 * a))))) c.from.ensures
