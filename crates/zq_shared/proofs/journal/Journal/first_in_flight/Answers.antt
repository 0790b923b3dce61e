use Rattle.std.proofs.Common.{Option, Some, None, ◌∙◌, ap, sym}
use Rattle.std.specs.Option.{IfNone}
use Rattle.std.proofs.lemmas.Option.{IfSome_then}
use Rattle.zq_query.specs.Records.{flies}
use Rattle.zq_machine.specs.State.{State}
use Rattle.zq_shared.specs.Stored.{Stored, in_flight}
use Rattle.zq_shared.proofs.Moves.{flying_is}
use Rattle.zq_shared.proofs.journal.Journal.first_in_flight.Goals as goal

none_then : {X : Type 0} (o : Option X) {P Q : Type 0} → IfNone o P → (P → Q) → IfNone o Q
none_then None h then_q = then_q h
none_then (Some x) h then_q = h

pub returns-clause-there : goal.returns-clause-there
returns-clause-there c =
    let inside : Stored = record { config = c.self.inside.config; calls = c.self.inside.calls.items } in
    IfSome_then c.first_in_flight.result c.first_in_flight.ensures.there
    (λ k flown. sym (ap (λ (s : Stored). in_flight s c.args.number k) c.self.view_is) ∙ flying_is inside c.args.number k ∙ sym (ap (λ (s : State). flies c.args.number k s.core.queries.records) c.self.invariant.stands) ∙ flown)

pub returns-clause-least : goal.returns-clause-least
returns-clause-least c =
    let inside : Stored = record { config = c.self.inside.config; calls = c.self.inside.calls.items } in
    IfSome_then c.first_in_flight.result c.first_in_flight.ensures.least
    (λ k before earlier less. sym (ap (λ (s : Stored). in_flight s c.args.number earlier) c.self.view_is) ∙ flying_is inside c.args.number earlier ∙ sym (ap (λ (s : State). flies c.args.number earlier s.core.queries.records) c.self.invariant.stands) ∙ before earlier less)

pub returns-clause-none : goal.returns-clause-none
returns-clause-none c =
    let inside : Stored = record { config = c.self.inside.config; calls = c.self.inside.calls.items } in
    none_then c.first_in_flight.result c.first_in_flight.ensures.none
    (λ none k. sym (ap (λ (s : Stored). in_flight s c.args.number k) c.self.view_is) ∙ flying_is inside c.args.number k ∙ sym (ap (λ (s : State). flies c.args.number k s.core.queries.records) c.self.invariant.stands) ∙ none k)
