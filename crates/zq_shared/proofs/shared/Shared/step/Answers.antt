use Rattle.std.proofs.Common.{◌≡◌, None, sym, subst}
use Rattle.std.specs.Prelude.{OnErr}
use Rattle.std.proofs.lemmas.Result.{IfOk-weaker, on_err_weaker}
use Rattle.zq_machine.specs.declared.call.Step.{Step}
use Rattle.zq_shared.specs.Stored.{answer_to}
use Rattle.zq_shared.specs.Ties.{Sharing}
use Rattle.zq_shared.specs.Sharing.{HoldsReplies, KeepsFlights}
use Rattle.zq_shared.proofs.Asked.{asks_holds}
use Rattle.zq_shared.proofs.Due.{shared_step}
use Rattle.zq_shared.proofs.shared.Shared.step.Goals as goal

pub returns-then-asks_request-clause-holds : goal.returns-then-asks_request-clause-holds
returns-then-asks_request-clause-holds c =
    IfOk-weaker c.ask.result (λ t. t.step ≡ answer_to c.self.inside.journal c.args.call) (λ t. HoldsReplies t.step.handed c.ask.new.slots c.args.seat.now.held)
    (λ t is. subst (λ (x : Step). HoldsReplies x.handed c.ask.new.slots c.args.seat.now.held) (sym is)
    (asks_holds c.self.inside.journal c.args.call c.self.inside.slots c.self.invariant.tied (sym c.if-asks_request.ensures) c.ask.new.slots c.args.seat.now.held c.requires.empty))
    c.ask.ensures.step

pub returns-then-asks_request-clause-flights : goal.returns-then-asks_request-clause-flights
returns-then-asks_request-clause-flights c =
    subst (λ (x : Sharing). KeepsFlights None x (record { stored = c.ask.new.journal; slots = c.ask.new.slots })) c.self.view_is c.ask.ensures.flights

pub returns-clause-flights : goal.returns-clause-flights
returns-clause-flights c =
    subst (λ (x : Sharing). KeepsFlights None x (record { stored = c.tell.new.journal; slots = c.tell.new.slots })) c.self.view_is c.tell.ensures.flights

pub invariant_of-self : goal.invariant_of-self
invariant_of-self c =
    shared_step c.self.inside.journal c.ask.new.journal c.self.inside.slots c.ask.new.slots c.self.invariant c.ask.ensures.tied c.ask.ensures.same c.ask.result c.args.call c.recall.ensures.slotted.wide c.requires.unsent c.ask.ensures.stored c.ask.ensures.unstored

pub invariant_of-self-2 : goal.invariant_of-self-2
invariant_of-self-2 c =
    let kept : OnErr c.tell.result (c.tell.new.journal ≡ c.self.inside.journal) =
    on_err_weaker {P = (c.tell.new.journal ≡ c.self.inside.journal) × (c.tell.new.slots ≡ c.self.inside.slots) × (c.tell.new.seat ≡ c.args.seat.now)} c.tell.result (λ same. same.0) c.tell.ensures.same in
    shared_step c.self.inside.journal c.tell.new.journal c.self.inside.slots c.tell.new.slots c.self.invariant c.tell.ensures.tied c.tell.ensures.wide c.tell.result c.args.call c.recall.ensures.slotted.wide c.requires.unsent c.tell.ensures.stored kept
