use Rattle.std.proofs.Common.{◌∙◌, ap}
use Rattle.zq_query.specs.ByNumber.{ByNumber}
use Rattle.zq_query.proofs.InOrder.{same_in_order}
use Rattle.zq_query.proofs.numbers.Numbers.reserve.Goals as goal

pub returns-clause-entries : goal.returns-clause-entries
returns-clause-entries g c =
    same_in_order c.self.inside.inner.entries c.reserve.new.self.entries c.self.invariant c.reserve.ensures.unique c.reserve.ensures.entries.2
    ∙ ap (λ (s : ByNumber g.row.V.Denot). s.entries) c.self.view_is
