use Rattle.std.proofs.Common.{◌+◌, ◌≤◌, length, subst}
use Rattle.std.specs.Prelude.{vec_capacity, vec_len}
use Rattle.std.proofs.lemmas.Result.{IfOk-weaker}
use Rattle.zq_machine.specs.Asked.{replies_of}
use Rattle.zq_machine.specs.Machine.{step}
use Rattle.zq_shared.specs.Stored.{Stored, flights, standing, with_call}
use Rattle.zq_shared.proofs.Storing.{most_flown}
use Rattle.zq_shared.proofs.journal.Journal.most_in_flight.Goals as goal

pub returns : goal.returns
returns c =
    let i = c.self.inside in
    IfOk-weaker c.all_flying.result (λ n. i.flying + length (replies_of (step i.gateway.state c.args.call.now)) ≤ n) (λ n. length (flights (standing (with_call c.args.self.now c.args.call.now))) ≤ n)
    (λ n few. subst (λ (s : Stored). length (flights (standing (with_call s c.args.call.now))) ≤ n) c.self.view_is
    (most_flown i.config i.gateway.state i.calls.items i.flying (vec_len i.calls) (vec_capacity i.calls) c.self.invariant c.args.call.now n few)) c.all_flying.ensures
