use Rattle.std.proofs.Common.{◌∙◌, sym, ap}
use Rattle.std.specs.BTreeMap.{is_at}
use Rattle.std.specs.Map.{remove_entry}
use Rattle.std.specs.Ordering.{nat_cmp}
use Rattle.zq_query.specs.ByNumber.{ByNumber}
use Rattle.zq_query.specs.Tables.{at_number}
use Rattle.zq_query.proofs.InOrder.{at_in_order, take_in_order}
use Rattle.zq_query.proofs.numbers.Numbers.remove.Goals as goal

pub returns-clause-value : goal.returns-clause-value
returns-clause-value g c =
    c.remove.ensures.value
    ∙ sym (at_in_order c.args.number c.self.inside.inner.entries c.self.invariant)
    ∙ ap (λ (s : ByNumber g.row.V.Denot). at_number c.args.number s.entries) c.self.view_is

pub returns-clause-entries : goal.returns-clause-entries
returns-clause-entries g c =
    take_in_order c.self.inside.inner.entries c.remove.new.self.entries c.self.invariant c.remove.ensures.unique c.args.number c.remove.ensures.updates.0
    ∙ ap (λ (s : ByNumber g.row.V.Denot). remove_entry (is_at (nat_cmp c.args.number)) s.entries) c.self.view_is
