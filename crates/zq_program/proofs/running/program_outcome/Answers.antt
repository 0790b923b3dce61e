use Rattle.zq_script.proofs.Promised.{kept, promised, told}
use Rattle.zq_program.proofs.running.program_outcome.Goals as goal

pub returns-in-Some-clause-headline : goal.returns-in-Some-clause-headline
returns-in-Some-clause-headline g c = kept (g.S.Source.left c.args.source.now)

pub returns-in-Some-clause-told : goal.returns-in-Some-clause-told
returns-in-Some-clause-told g c = told (g.S.Source.left c.args.source.now)

pub returns-in-Some-clause-promise : goal.returns-in-Some-clause-promise
returns-in-Some-clause-promise g c = promised (g.S.Source.left c.args.source.now)
