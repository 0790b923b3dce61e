use Rattle.std.proofs.Common.{None}
use Rattle.zq_shared.proofs.Mails.{finals_one}
use Rattle.zq_pass.proofs.lock.PassLock.settle_one.Goals as goal

pub returns : goal.returns
returns g c =
    finals_one g.H.PassHome.config None (record { taken = g.L.Link.taken c.args.link.now; faults = g.L.Link.faults c.args.link.now; sent = c.args.sent }) (record { taken = g.L.Link.taken c.send_final.new.link; faults = g.L.Link.faults c.send_final.new.link; sent = c.send_final.result }) c.settle-end.result c.settle-end.ensures c.send_final.ensures
