use Rattle.std.proofs.Common.{◌≡◌, arith}
use Rattle.std.proofs.lemmas.Grind.{common_steps}
use Rattle.zq_lines.specs.Steps.{steps_words}
use Rattle.zq_lines.proofs.StepsBack.{steps_back}
use Rattle.zq_lines.proofs.steps.print_steps.Goals as goal

pub returns-clause-back : goal.returns-clause-back
returns-clause-back c = let words : c.from_vec.result ≡ steps_words c.args.steps.now = grind (arith, common_steps) in λ shown. rw words (steps_back c.args.steps.now (c.steps_fit.ensures shown))
