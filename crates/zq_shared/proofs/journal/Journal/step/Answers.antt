use Rattle.std.proofs.Common.{◌∷◌, ◌++◌, [], List, ◌∙◌, ap, sym, arith}
use Rattle.std.specs.Prelude.{vec_capacity, vec_len}
use Rattle.zq_machine.specs.declared.call.Call.{Call}
use Rattle.zq_machine.specs.Machine.{step}
use Rattle.zq_machine.specs.State.{State}
use Rattle.zq_shared.specs.Stored.{Stored, answer_to}
use Rattle.zq_shared.proofs.Journals.{answer_is}
use Rattle.zq_shared.proofs.Storing.{stored_next, stored_still}
use Rattle.zq_shared.proofs.journal.Journal.step.Goals as goal

pub invariant_of-self : goal.invariant_of-self
invariant_of-self c =
    let e = c.in_err-step.ensures in
    stored_still c.self.inside.config c.self.inside.gateway.state c.self.inside.calls.items c.self.inside.flying (vec_len c.self.inside.calls) (vec_capacity c.self.inside.calls) c.self.invariant
    c.make.new.gateway.state c.make.new.calls.items c.make.new.flying (vec_len c.make.new.calls) (vec_capacity c.make.new.calls)
    e.performed.err c.make.ensures.calls e.same c.make.ensures.length c.make.ensures.grown

pub invariant_of-self-2 : goal.invariant_of-self-2
invariant_of-self-2 c =
    let e = c.in_ok-step.ensures in
    let p = c.push_reserved.ensures in
    let long = p.len in
    let was = c.make.ensures.length in
    let room = e.room in
    let capacity = p.capacity in
    stored_next c.self.inside.config c.self.inside.gateway.state c.self.inside.calls.items c.self.inside.flying (vec_len c.self.inside.calls) (vec_capacity c.self.inside.calls) c.self.invariant
    c.args.call c.make.new.gateway.state c.push_reserved.new.self.items c.make.new.flying (vec_len c.push_reserved.new.self) (vec_capacity c.push_reserved.new.self)
    e.performed.after (p.items ∙ ap (λ (l : List Call). l ++ c.args.call ∷ []) c.make.ensures.calls) e.counted (omega (arith, long, was)) (omega (arith, room, capacity, was))

pub returns-clause-step : goal.returns-clause-step
returns-clause-step c =
    c.in_ok-step.ensures.performed.step
    ∙ (ap (λ (s : State). step s c.args.call) c.self.invariant.stands
    ∙ (sym (answer_is (record { config = c.self.inside.config; calls = c.self.inside.calls.items }) c.args.call)
    ∙ ap (λ (s : Stored). answer_to s c.args.call) c.self.view_is))
