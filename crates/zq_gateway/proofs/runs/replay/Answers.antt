use Rattle.std.proofs.Common.{◌≡◌, ◌∙◌, sym, ap, List, [], ◌∷◌, ◌++◌, suc, drop, length, get_or, append_assoc, add-one, arith, rules}
use Rattle.std.proofs.lemmas.Grind.{common_steps}
use Rattle.std.specs.Prelude.{ℕ, ◌+◌, ◌<◌}
use Rattle.std.proofs.Math.Seq.{drop-cons}
use Rattle.zq_machine.specs.declared.call.Call.{Call}
use Rattle.zq_machine.specs.declared.call.Step.{Step}
use Rattle.zq_machine.specs.Machine.{after, step, steps_from}
use Rattle.zq_machine.specs.State.{State}
use Rattle.zq_machine.proofs.Kept.{headline}
use Rattle.zq_trace.proofs.Told.{given_told}
use Rattle.zq_trace.proofs.Valid.{given_keep}
use Rattle.zq_gateway.proofs.runs.replay.Goals as goal

-- the next call is answered: its step follows those before it
told_on : (calls : List Call) (n : ℕ) (c : Call) (s : State) (before all : List Step) → n < length calls → c ≡ get_or calls n c → before ++ steps_from s (drop n calls) ≡ all
    → (before ++ step s c ∷ []) ++ steps_from (after s c) (drop (n + 1) calls) ≡ all
told_on calls n c s before all within is told =
    append_assoc before (step s c ∷ []) (steps_from (after s c) (drop (n + 1) calls))
    ∙ ap (λ l. before ++ steps_from s l) (ap (λ m. c ∷ drop m calls) (add-one n) ∙ ap (λ x. x ∷ drop (suc n) calls) is ∙ sym (drop-cons calls n c within))
    ∙ told

pub loop-call-preserved : goal.loop-call-preserved
loop-call-preserved c =
    let calls = c.args.calls.now in
    let index = c.loop-call.call-index in
    let answered = c.in_ok-push.ensures.ok ∙ ap (λ (t : Step). c.loop-call.steps ++ t ∷ []) c.in_ok-call.ensures.step in
    record {
      told =
          (λ j. answered j ++ steps_from (c.in_ok-call.ensures.after j) (drop (index + 1) calls))
          ∙ told_on calls index c.call-item.result c.loop-call.gateway.state c.loop-call.steps _ c.loop-call-test.true c.call-item.is c.loop-call.invariant.told;
    }

pub returns-clause-headline : goal.returns-clause-headline
returns-clause-headline c = given_keep c.args.config.now (search rules) c.args.calls.now _ (grind (arith, common_steps))

pub returns-clause-told : goal.returns-clause-told
returns-clause-told c = given_told c.args.config.now (search rules) c.args.calls.now _ (grind (arith, common_steps))

pub returns-clause-promise : goal.returns-clause-promise
returns-clause-promise c = headline c.args.config.now c.args.calls.now
