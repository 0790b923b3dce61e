use Rattle.std.proofs.Common.{ℕ, ◌-◌, ◌∷◌, ◌++◌, [], List, ◌∙◌, ap, subst, sym, arith}
use Rattle.std.specs.Prelude.{vec_capacity, vec_len}
use Rattle.zq_machine.specs.declared.call.Call.{Call}
use Rattle.zq_machine.specs.declared.call.Call.TheVariants as call
use Rattle.zq_machine.specs.declared.call.Step.{Step}
use Rattle.zq_machine.specs.Deciding.{is_accepted}
use Rattle.zq_machine.specs.Machine.{step}
use Rattle.zq_machine.specs.State.{State}
use Rattle.zq_shared.specs.Stored.{IsStored, Stored, answer_to, in_flight}
use Rattle.zq_shared.proofs.Journals.{answer_is, flying_some, stored_less, stored_same}
use Rattle.zq_shared.proofs.Reporting.{refused_unflown}
use Rattle.zq_shared.proofs.journal.Journal.sent.Goals as goal

pub overflow_sub-self : goal.overflow_sub-self
overflow_sub-self c =
    let accepts = ap (λ (t : Step). is_accepted t.outcome) c.in-Ok.ensures.handed in
    let some = (flying_some c.self.inside.config c.self.inside.gateway.state c.self.inside.calls.items c.self.inside.flying (vec_len c.self.inside.calls) (vec_capacity c.self.inside.calls) c.self.invariant c.args.reply accepts).0 in
    omega (arith, some)

pub push_reserved-requires : goal.push_reserved-requires
push_reserved-requires c =
    let accepts = ap (λ (t : Step). is_accepted t.outcome) c.in-Ok.ensures.handed in
    (flying_some c.self.inside.config c.self.inside.gateway.state c.self.inside.calls.items c.self.inside.flying (vec_len c.self.inside.calls) (vec_capacity c.self.inside.calls) c.self.invariant c.args.reply accepts).1

pub invariant_of-self : goal.invariant_of-self
invariant_of-self c =
    let accepts = ap (λ (t : Step). is_accepted t.outcome) c.in-Ok.ensures.handed in
    let i = c.self.invariant in
    let p = c.push_reserved.ensures in
    let some = (flying_some c.self.inside.config c.self.inside.gateway.state c.self.inside.calls.items c.self.inside.flying (vec_len c.self.inside.calls) (vec_capacity c.self.inside.calls) i c.args.reply accepts).0 in
    subst (λ (l : List Call). IsStored c.self.inside.config c.sent.new.self.state l (c.self.inside.flying - 1) (vec_len c.push_reserved.new.self) (vec_capacity c.push_reserved.new.self)) (sym p.items)
    (subst (λ (n : ℕ). IsStored c.self.inside.config c.sent.new.self.state (c.self.inside.calls.items ++ call.Sent c.args.reply ∷ []) (c.self.inside.flying - 1) (vec_len c.push_reserved.new.self) n) (sym p.capacity)
    (stored_less c.self.inside.config c.self.inside.gateway.state c.self.inside.calls.items c.self.inside.flying (vec_len c.self.inside.calls) (vec_capacity c.self.inside.calls) i c.args.reply accepts
    c.sent.new.self.state (c.self.inside.flying - 1) (vec_len c.push_reserved.new.self) c.sent.ensures.after (omega (arith, some)) p.len))

pub invariant_of-self-in-Err : goal.invariant_of-self-in-Err
invariant_of-self-in-Err c =
    let i = c.self.invariant in
    subst (λ (s : State). IsStored c.self.inside.config s c.self.inside.calls.items c.self.inside.flying (vec_len c.self.inside.calls) (vec_capacity c.self.inside.calls))
    (sym (stored_same c.self.inside.config c.self.inside.gateway.state c.self.inside.calls.items c.self.inside.flying (vec_len c.self.inside.calls) (vec_capacity c.self.inside.calls) i c.args.reply c.sent.new.self.state _ c.sent.ensures.after c.in-Err.ensures.refused)) i

pub returns-in-Ok-clause-answer : goal.returns-in-Ok-clause-answer
returns-in-Ok-clause-answer c =
    ap (λ (s : Stored). answer_to s (call.Sent c.args.reply)) (sym c.self.view_is)
    ∙ (answer_is (record { config = c.self.inside.config; calls = c.self.inside.calls.items }) (call.Sent c.args.reply)
    ∙ (ap (λ (s : State). step s (call.Sent c.args.reply)) (sym c.self.invariant.stands) ∙ c.in-Ok.ensures.handed))

pub returns-in-Err-clause-refused : goal.returns-in-Err-clause-refused
returns-in-Err-clause-refused c = (λ n.
    (let inside : Stored = record { config = c.self.inside.config; calls = c.self.inside.calls.items } in
    let refused = answer_is inside (call.Sent c.args.reply) ∙ (ap (λ (s : State). step s (call.Sent c.args.reply)) (sym c.self.invariant.stands) ∙ c.in-Err.ensures.refused) in
    sym (ap (λ (s : Stored). in_flight s n c.args.reply) c.self.view_is) ∙ refused_unflown inside c.args.reply _ refused n))
