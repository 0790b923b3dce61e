use Rattle.std.proofs.Common.{ℕ, ◌+◌, List, length, ◌∙◌, ap, arith}
use Rattle.std.specs.List.{count_by}
use Rattle.zq_machine.specs.declared.call.Step.{Step}
use Rattle.zq_machine.specs.Asked.{replies_of}
use Rattle.zq_machine.specs.Handing.{Handed}
use Rattle.zq_shared.specs.Stored.{is_flying}
use Rattle.zq_shared.proofs.Journals.{all_counted}
use Rattle.zq_shared.proofs.journal.perform.Goals as goal

pub overflow_add-flying : goal.overflow_add-flying
overflow_add-flying c =
    let counts = c.count_replies.ensures ∙ (ap (λ (l : List Handed). count_by is_flying l) c.as_slice.ensures ∙ (all_counted c.in_ok-step.step.handed ∙ ap (λ (t : Step). length (replies_of t)) c.in_ok-step.ensures.step)) in
    let few = c.requires.few in
    omega (arith, few, counts)

pub returns-clause-counted : goal.returns-clause-counted
returns-clause-counted c =
    ap (λ (n : ℕ). c.args.flying.now + n)
    (c.count_replies.ensures ∙ (ap (λ (l : List Handed). count_by is_flying l) c.as_slice.ensures ∙ (all_counted c.in_ok-step.step.handed ∙ ap (λ (t : Step). length (replies_of t)) c.in_ok-step.ensures.step)))
