use Rattle.std.proofs.Common.{◌≡◌, subst, sym}
use Rattle.std.specs.Prelude.{OnOk}
use Rattle.zq_store.specs.Outcomes.{line_after}
use Rattle.zq_store.proofs.outcome.do_line.Goals as goal

pub returns-in-Storage-clause-after : goal.returns-in-Storage-clause-after
returns-in-Storage-clause-after c = subst (λ l. OnOk c.join_storage.result (c.join_storage.new.bus ≡ line_after c.args.bus.now l)) (sym c.in-Storage.is) c.join_storage.ensures.after
