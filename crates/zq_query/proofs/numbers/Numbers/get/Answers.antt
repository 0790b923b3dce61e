use Rattle.std.proofs.Common.{◌∙◌, sym, ap}
use Rattle.zq_query.specs.ByNumber.{ByNumber}
use Rattle.zq_query.specs.Tables.{at_number}
use Rattle.zq_query.proofs.InOrder.{at_in_order}
use Rattle.zq_query.proofs.numbers.Numbers.get.Goals as goal

pub returns : goal.returns
returns g c =
    c.copied.ensures
    ∙ c.get.ensures.value
    ∙ sym (at_in_order c.args.number c.self.inside.inner.entries c.self.invariant)
    ∙ ap (λ (s : ByNumber g.row.V.Denot). at_number c.args.number s.entries) c.self.view_is
