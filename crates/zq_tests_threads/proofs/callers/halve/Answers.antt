use Rattle.zq_tests_threads.proofs.Halves.{halved_one, halved_rest}
use Rattle.zq_tests_threads.proofs.callers.halve.Goals as goal

pub returns-clause-one : goal.returns-clause-one
returns-clause-one g c = halved_one _ c.split_one-one.ensures.one

pub returns-clause-two : goal.returns-clause-two
returns-clause-two g c = halved_rest _ _ _ c.requires c.split_one-one.ensures.one c.split_one-one.ensures.rest
