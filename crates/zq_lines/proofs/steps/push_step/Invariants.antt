use Rattle.std.proofs.Common.{◌≡◌, ◌++◌, ◌∷◌, [], take, codes}
use Rattle.std.specs.List.{flat_map}
use Rattle.zq_lines.specs.Steps.{outcome_words, handed_words}
use Rattle.zq_lines.proofs.steps.push_step.Given as goal

abbrev pub invariant-loop-handed : goal.invariant-loop-handed
invariant-loop-handed l = l.out.items ≡ l.fn.out.items ++ (codes "= " ++ outcome_words l.step.outcome ++ 10 ∷ []) ++ flat_map handed_words (take l.handed-index l.handed-items)
