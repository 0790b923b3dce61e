use Rattle.std.proofs.Common.{Some, refl, sym, subst}
use Rattle.zq_hold.specs.Owners.{Slotted}
use Rattle.zq_shared.specs.Ties.{IsTied, Sharing}
use Rattle.zq_shared.specs.Sharing.{IsSameHolds, KeepsFlights}
use Rattle.zq_shared.proofs.Due.{shared_reports, shared_still}
use Rattle.zq_shared.proofs.Settled.{unowned_flights, vacated_flights, vacated_same, vacated_tied, vacated_unowned}
use Rattle.zq_shared.proofs.shared.Shared.settle.Goals as goal

pub invariant_of-self : goal.invariant_of-self
invariant_of-self c =
    let tied = subst (λ (m : Slotted). IsTied c.self.inside.journal m) (sym c.vacate.ensures.new)
    (vacated_unowned c.self.inside.journal c.self.inside.slots c.self.invariant.tied c.args.last.slot c.vacate.ensures.gone c.recall.ensures.slotted (sym c.in_err-number.ensures.owner)) in
    let same = subst (IsSameHolds c.self.inside.slots) (sym c.vacate.ensures.new) (vacated_same c.self.inside.slots c.args.last.slot) in
    shared_still c.self.inside.journal c.self.inside.journal c.self.inside.slots c.vacate.new.self c.self.invariant tied same refl

pub invariant_of-self-2 : goal.invariant_of-self-2
invariant_of-self-2 c =
    let r = c.report_all.ensures in
    let tied = subst (λ (m : Slotted). IsTied c.report_all.new.journal m) (sym c.vacate.ensures.new)
    (vacated_tied c.self.inside.journal c.self.inside.slots c.self.invariant.tied c.args.last.slot c.vacate.ensures.gone c.recall.ensures.slotted c.in_ok-number.number (sym c.in_ok-number.ensures.owner)
    c.report_all.new.journal r.keeps r.quiet r.none) in
    let same = subst (IsSameHolds c.self.inside.slots) (sym c.vacate.ensures.new) (vacated_same c.self.inside.slots c.args.last.slot) in
    shared_reports c.self.inside.journal c.report_all.new.journal c.self.inside.slots c.vacate.new.self c.self.invariant tied same r.reports.0 r.reports.1.stored r.reports.1.due

pub report_all-requires : goal.report_all-requires
report_all-requires c = c.self.invariant.tied.nearly.gone c.args.last.slot c.in_ok-number.number c.vacate.ensures.gone (sym c.in_ok-number.ensures.owner)

pub returns-in_err-number-clause-flights : goal.returns-in_err-number-clause-flights
returns-in_err-number-clause-flights c =
    subst (λ (x : Sharing). KeepsFlights (Some c.args.last.slot) x (record { stored = c.self.inside.journal; slots = c.vacate.new.self })) c.self.view_is
    (subst (λ (m : Slotted). KeepsFlights (Some c.args.last.slot) (record { stored = c.self.inside.journal; slots = c.self.inside.slots }) (record { stored = c.self.inside.journal; slots = m })) (sym c.vacate.ensures.new)
    (unowned_flights c.self.inside.journal c.self.inside.slots c.self.invariant.tied c.args.last.slot c.vacate.ensures.gone c.recall.ensures.slotted))

pub returns-clause-flights : goal.returns-clause-flights
returns-clause-flights c =
    subst (λ (x : Sharing). KeepsFlights (Some c.args.last.slot) x (record { stored = c.report_all.new.journal; slots = c.vacate.new.self })) c.self.view_is
    (subst (λ (m : Slotted). KeepsFlights (Some c.args.last.slot) (record { stored = c.self.inside.journal; slots = c.self.inside.slots }) (record { stored = c.report_all.new.journal; slots = m })) (sym c.vacate.ensures.new)
    (vacated_flights c.self.inside.journal c.self.inside.slots c.self.invariant.tied c.args.last.slot c.vacate.ensures.gone c.recall.ensures.slotted c.in_ok-number.number (sym c.in_ok-number.ensures.owner) c.report_all.new.journal c.report_all.ensures.others))
