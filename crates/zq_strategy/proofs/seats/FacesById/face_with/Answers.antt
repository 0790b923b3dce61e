use Rattle.std.proofs.Common.{◌∙◌, sym, ap}
use Rattle.zq_strategy.specs.Seating.{seated}
use Rattle.zq_strategy.proofs.Sitting.{first_seat, other_seat, no_seat}
use Rattle.zq_strategy.proofs.seats.FacesById.face_with.Goals as goal

pub returns-then-id-zid : goal.returns-then-id-zid
returns-then-id-zid c =
    let seats = c.self.inside.seats.keys in
    sym (first_seat c.args.zid c.in-Some.field-0.now seats c.next.new.self (sym (c.range-seats.ensures.between tt) ∙ c.in-Some.ensures.steps) c.if-id-zid.true)
    ∙ ap (seated c.args.zid) c.self.view_is

pub returns-else-id-zid : goal.returns-else-id-zid
returns-else-id-zid c =
    let seats = c.self.inside.seats.keys in
    sym (other_seat c.args.zid c.in-Some.field-0.now seats c.next.new.self c.range-seats.ensures.ordered (sym (c.range-seats.ensures.between tt) ∙ c.in-Some.ensures.steps) c.if-id-zid.false)
    ∙ ap (seated c.args.zid) c.self.view_is

pub returns-in-None : goal.returns-in-None
returns-in-None c =
    sym (no_seat c.args.zid c.self.inside.seats.keys (sym (c.range-seats.ensures.between tt) ∙ c.in-None.ensures.steps.0))
    ∙ ap (seated c.args.zid) c.self.view_is
