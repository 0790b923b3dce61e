use Rattle.std.proofs.Common.{◌≡◌, fold, take}
use Rattle.zq_egress.specs.Askers.{asker_of}
use Rattle.zq_show.specs.Reasons.{first_verdict, judged}
use Rattle.zq_show.proofs.reasons.judge_all.Given as goal

abbrev pub invariant-loop-offer : goal.invariant-loop-offer
invariant-loop-offer l = l.verdict ≡ fold (judged l.asked.seen.now.owned l.panel (asker_of l.asked.asker)) (first_verdict l.fn.missed) (take l.offer-index l.offers)
