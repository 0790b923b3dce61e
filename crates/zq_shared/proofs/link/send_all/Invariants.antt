use Rattle.std.proofs.Common.{◌≡◌, length, take}
use Rattle.zq_shared.specs.Links.{leaving, with_taken}
use Rattle.zq_shared.proofs.link.send_all.Given as goal

abbrev pub invariant-messages : goal.invariant-messages
invariant-messages g l = (g.L.Link.faults l.link ≡ g.L.Link.faults l.initial.link) × (g.L.Link.taken l.link ≡ with_taken (g.L.Link.taken l.initial.link) (leaving (take l.message-index l.handed))) × (l.sent ≡ length (leaving (take l.message-index l.handed)))
