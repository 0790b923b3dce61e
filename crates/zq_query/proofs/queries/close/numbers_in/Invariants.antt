use Rattle.std.proofs.Common.{◌≡◌, ◌++◌}
use Rattle.std.specs.Prelude.{map}
use Rattle.zq_query.specs.FaceEntries.{entries_of_face}
use Rattle.zq_query.proofs.queries.close.numbers_in.Given as goal

abbrev pub invariant-loop-owed : goal.invariant-loop-owed
invariant-loop-owed l = l.numbers.items ++ map (λ e. e.1.number) l.owed-iterator ≡ map (λ e. e.1.number) (entries_of_face l.face l.pending.entries)
