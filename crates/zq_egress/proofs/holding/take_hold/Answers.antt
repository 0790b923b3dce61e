use Rattle.std.proofs.Common.{◌≡◌, sym, subst}
use Rattle.zq_message.specs.Region.{region_index}
use Rattle.zq_tables.specs.Naming.{NamingState}
use Rattle.zq_egress.specs.declared.holding.Hold.{Hold}
use Rattle.zq_egress.specs.Holding.{held, let_go}
use Rattle.zq_egress.proofs.EntryHeld.{entry_back}
use Rattle.zq_egress.proofs.Held.{put_back}
use Rattle.zq_egress.proofs.holding.take_hold.Goals as goal

pub returns-in-Ok-clause-back : goal.returns-in-Ok-clause-back
returns-in-Ok-clause-back c =
    let names : NamingState = c.args.names.now in
    let q = c.in-Queryable in
    subst (λ (h : Hold). let_go h c.in-Ok.fresh (held h names) ≡ names) (sym q.is) (put_back q.face.0 q.id q.key.now c.in-Ok.fresh names c.in-Ok.ensures.fresh)

pub returns-in-Ok-hold_entry-clause-back : goal.returns-in-Ok-hold_entry-clause-back
returns-in-Ok-hold_entry-clause-back c =
    let names : NamingState = c.args.names.now in
    let e = c.in-Entry in
    subst (λ (h : Hold). let_go h c.in-Ok-hold_entry.fresh (held h names) ≡ names) (sym e.is)
    (rw c.in-Some.is (entry_back (region_index e.region) e.key.now c.in-Ok-hold_entry.fresh names c.hold_entry.ensures.rows c.in-Ok-hold_entry.ensures.fresh))
