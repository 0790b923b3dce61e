use Rattle.std.proofs.Common.{[], Option, refl, subst, sym}
use Rattle.std.specs.List.{cons_option}
use Rattle.zq_machine.specs.Handing.{Handed}
use Rattle.zq_shared.specs.Sending.{Delivers, Mail}
use Rattle.zq_shared.proofs.Mails.{none_sent}
use Rattle.zq_shared.proofs.sending.send_final.Goals as goal

pub returns-in-None : goal.returns-in-None
returns-in-None g c =
    let a : Mail = record { taken = g.L.Link.taken c.args.link.now; faults = g.L.Link.faults c.args.link.now; sent = c.args.sent } in
    subst (λ (o : Option Handed). Delivers (cons_option o []) a a) (sym c.in-None.is) (none_sent a c.args.sent refl)
