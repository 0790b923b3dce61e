use Rattle.std.proofs.Common.{true}
use Rattle.zq_show.proofs.reasons.nearest_in.Given as goal

abbrev pub ghost-nearest : goal.ghost-nearest
ghost-nearest a = λ _. true
