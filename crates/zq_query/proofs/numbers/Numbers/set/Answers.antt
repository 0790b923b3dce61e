use Rattle.std.proofs.Common.{◌∙◌, sym, ap, subst, true≢false}
use Rattle.std.specs.BTreeMap.{is_at}
use Rattle.std.specs.Map.{set_value}
use Rattle.std.specs.Option.{IsSome, option_copied_mut}
use Rattle.std.specs.Ordering.{nat_cmp}
use Rattle.zq_query.specs.ByNumber.{ByNumber}
use Rattle.zq_query.specs.Tables.{at_number}
use Rattle.zq_query.proofs.InOrder.{at_in_order, set_in_order}
use Rattle.zq_query.proofs.numbers.Numbers.set.Goals as goal

pub unreachable-requires : goal.unreachable-requires
unreachable-requires g c =
    let none =
    ap (λ (s : ByNumber g.row.V.Denot). at_number c.args.number s.entries) (sym c.self.view_is)
    ∙ at_in_order c.args.number c.self.inside.inner.entries c.self.invariant
    ∙ sym c.get_mut.ensures.value
    ∙ ap option_copied_mut c.in-None.is in
    true≢false (sym (subst (λ o. IsSome o) none c.requires))

pub returns : goal.returns
returns g c =
    let i = c.self.inside in
    let through = c.get_mut.follows.holds c.args.value in
    let there = subst (λ (s : ByNumber g.row.V.Denot). IsSome (at_number c.args.number s.entries)) (sym c.self.view_is) c.requires in
    let some = subst (λ o. IsSome o) (at_in_order c.args.number i.inner.entries c.self.invariant) there in
    set_in_order i.inner.entries (c.get_mut.follows.lender c.args.value).entries c.self.invariant through.4 c.args.number c.args.value there (through.3 some).0
    ∙ ap (λ (s : ByNumber g.row.V.Denot). set_value (is_at (nat_cmp c.args.number)) s.entries c.args.value) c.self.view_is
