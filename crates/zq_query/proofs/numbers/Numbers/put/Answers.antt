use Rattle.std.proofs.Common.{◌∙◌, sym, ap}
use Rattle.std.specs.BTreeMap.{insert_entry}
use Rattle.std.specs.Ordering.{nat_cmp}
use Rattle.zq_query.specs.ByNumber.{ByNumber}
use Rattle.zq_query.specs.Tables.{at_number}
use Rattle.zq_query.proofs.InOrder.{at_in_order, put_in_order}
use Rattle.zq_query.proofs.numbers.Numbers.put.Goals as goal

pub returns-clause-before : goal.returns-clause-before
returns-clause-before g c =
    c.in-Ok.ensures.old
    ∙ sym (at_in_order c.args.number c.self.inside.inner.entries c.self.invariant)
    ∙ ap (λ (s : ByNumber g.row.V.Denot). at_number c.args.number s.entries) c.self.view_is

pub returns-clause-entries : goal.returns-clause-entries
returns-clause-entries g c =
    put_in_order c.self.inside.inner.entries c.insert.new.self.entries c.self.invariant c.insert.ensures.unique c.args.number c.args.value c.in-Ok.ensures.updates.0
    ∙ ap (λ (s : ByNumber g.row.V.Denot). insert_entry nat_cmp s.entries c.args.number c.args.value) c.self.view_is
