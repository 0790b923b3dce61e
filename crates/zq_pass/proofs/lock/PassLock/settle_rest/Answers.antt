use Rattle.std.proofs.Common.{◌≡◌, ap, Some, None}
use Rattle.std.proofs.lemmas.List.Elements.{All-pop}
use Rattle.zq_hold.specs.Seats.{Ended}
use Rattle.zq_shared.specs.Holding.{Lasts}
use Rattle.zq_shared.proofs.Mails.{finals_on}
use Rattle.zq_pass.proofs.lock.PassLock.settle_rest.Goals as goal

pub lasts-preserved : goal.lasts-preserved
lasts-preserved g c = (
  (All-pop (λ (e : Ended). e.home ≡ g.H.PassHome.home.holds) c.lasts.lasts.ended c.take.new.self.ended (Some c.in-Some.last) (ap (λ (l : Lasts). l.ended) c.in-Some.ensures.some) c.lasts.invariant.0).0,
  finals_on g.H.PassHome.config None (record { taken = g.L.Link.taken c.args.link.now; faults = g.L.Link.faults c.args.link.now; sent = c.args.sent }) (record { taken = g.L.Link.taken c.lasts.link; faults = g.L.Link.faults c.lasts.link; sent = c.lasts.sent }) (record { taken = g.L.Link.taken c.settle_one-sent.new.link; faults = g.L.Link.faults c.settle_one-sent.new.link; sent = c.settle_one-sent.result }) c.lasts.invariant.1 c.settle_one-sent.ensures,
)
