use Rattle.std.proofs.Common.{◌≡◌, ◌++◌}
use Rattle.std.specs.Prelude.{filter, is_none}
use Rattle.zq_egress.specs.Askers.{asker_of}
use Rattle.zq_show.specs.Reasons.{barrier}
use Rattle.zq_show.proofs.reasons.add_reaching.Given as goal

abbrev pub invariant-loop-offer : goal.invariant-loop-offer
invariant-loop-offer l = l.all ≡ l.fn.all ++ filter (λ o. is_none (barrier l.there (asker_of l.asker) o)) l.yielded
