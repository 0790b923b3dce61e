use Rattle.std.proofs.Common.{ℕ, List, length}
use Rattle.zq_shared.specs.Stored.{flights, standing}
use Rattle.zq_shared.specs.Keeping.{Reported}
use Rattle.zq_shared.proofs.settling.report_all.Given as goal

abbrev pub invariant-replies : goal.invariant-replies
invariant-replies l = (ks : List ℕ) × Reported l.initial.journal l.number l.last l.journal ks

abbrev pub decreases-replies : goal.decreases-replies
decreases-replies l = length (flights (standing l.journal))
