use Rattle.std.proofs.Common.{◌≡◌, find}
use Rattle.zq_index.proofs.holders.first_passed.Given as goal

abbrev pub invariant-loop-rank : goal.invariant-loop-rank
invariant-loop-rank g l = find (λ k. g.T.PlaceTest.passes l.test k.1) l.rank-iterator ≡ find (λ k. g.T.PlaceTest.passes l.test k.1) l.ranks.keys
