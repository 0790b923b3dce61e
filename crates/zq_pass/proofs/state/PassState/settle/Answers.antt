use Rattle.std.proofs.Common.{◌+◌, ◌++◌, ◌≤◌, List, length, Some, ap, ◌∙◌, sym, subst}
use Rattle.std.specs.Prelude.{vec_capacity, vec_len}
use Rattle.zq_hold.specs.Owners.{owner_at}
use Rattle.zq_machine.specs.declared.call.Call.{Call}
use Rattle.zq_shared.specs.Stored.{Stored}
use Rattle.zq_shared.specs.Ties.{Sharing}
use Rattle.zq_shared.specs.Sharing.{KeepsFlights, reports}
use Rattle.zq_journal_view.specs.Seats.{Keeping}
use Rattle.zq_pass.specs.Entries.{entries_by, owners_of}
use Rattle.zq_pass.specs.Passes.{Journaled}
use Rattle.zq_pass.proofs.Journals.{journal_reports, reports_fit, settles_reports, tail_is}
use Rattle.zq_pass.proofs.state.PassState.settle.Goals as goal

pub own_all-requires-clause-room : goal.own_all-requires-clause-room
own_all-requires-clause-room c =
    let i = c.self.inside in
    let r = settles_reports (owner_at i.shared.slots.owners c.args.last.slot) i.shared.stored c.settle-end.result c.settle-end.new.self.stored c.settle-end.ensures.reports in
    let t = tail_is c.calls-before.result.now c.calls.result.now i.shared.stored.calls (reports r.0) c.calls-before.ensures (c.calls.ensures ∙ ap (λ (s : Stored). s.calls) r.1) in
    subst (λ (l : List Call). vec_len i.owners + length l ≤ vec_capacity i.owners) (sym t)
    (reports_fit i.shared.stored i.owners.items i.keeper.list (vec_len i.owners) (vec_capacity i.owners) c.self.invariant r.0 r.2)

pub invariant_of-self : goal.invariant_of-self
invariant_of-self c =
    let i = c.self.inside in
    let r = settles_reports (owner_at i.shared.slots.owners c.args.last.slot) i.shared.stored c.settle-end.result c.settle-end.new.self.stored c.settle-end.ensures.reports in
    let t = tail_is c.calls-before.result.now c.calls.result.now i.shared.stored.calls (reports r.0) c.calls-before.ensures (c.calls.ensures ∙ ap (λ (s : Stored). s.calls) r.1) in
    let o = c.own_all.ensures in
    journal_reports i.shared.stored i.owners.items i.keeper.list (vec_len i.owners) (vec_capacity i.owners) c.self.invariant r.0 r.2
    c.pass.inside.number c.settle-end.new.self.stored c.own_all.new.owners.items c.own_all.new.keeper.list (vec_len c.own_all.new.owners) (vec_capacity c.own_all.new.owners) r.1
    (o.owners ∙ ap (λ (l : List Call). i.owners.items ++ owners_of (entries_by c.pass.inside.number l)) t)
    (ap (λ (k : Keeping Call). k.list) o.keeper ∙ ap (λ (l : List Call). i.keeper.list ++ entries_by c.pass.inside.number l) t)
    (o.len ∙ ap (λ (l : List Call). vec_len i.owners + length l) t)
    o.capacity

pub returns-clause-flights : goal.returns-clause-flights
returns-clause-flights c = subst (λ (x : Sharing). KeepsFlights (Some c.args.last.slot) x c.settle-end.new.self) (ap (λ (j : Journaled). j.sharing) c.self.view_is) c.settle-end.ensures.flights
