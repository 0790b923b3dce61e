use Rattle.zq_script.proofs.Promised.{kept, promised, told}
use Rattle.zq_script.proofs.running.run_outcome.Goals as goal

pub returns-in-Some-Replay-clause-headline : goal.returns-in-Some-Replay-clause-headline
returns-in-Some-Replay-clause-headline g c = kept (g.S.Source.left c.args.source.now)

pub returns-in-Some-Replay-clause-told : goal.returns-in-Some-Replay-clause-told
returns-in-Some-Replay-clause-told g c = told (g.S.Source.left c.args.source.now)

pub returns-in-Some-Replay-clause-promise : goal.returns-in-Some-Replay-clause-promise
returns-in-Some-Replay-clause-promise g c = promised (g.S.Source.left c.args.source.now)

pub returns-in-Some-Load-clause-headline : goal.returns-in-Some-Load-clause-headline
returns-in-Some-Load-clause-headline g c = kept (g.S.Source.left c.args.source.now)

pub returns-in-Some-Load-clause-told : goal.returns-in-Some-Load-clause-told
returns-in-Some-Load-clause-told g c = told (g.S.Source.left c.args.source.now)

pub returns-in-Some-Load-clause-promise : goal.returns-in-Some-Load-clause-promise
returns-in-Some-Load-clause-promise g c = promised (g.S.Source.left c.args.source.now)

pub returns-in-None-clause-headline : goal.returns-in-None-clause-headline
returns-in-None-clause-headline g c = kept (g.S.Source.left c.args.source.now)

pub returns-in-None-clause-told : goal.returns-in-None-clause-told
returns-in-None-clause-told g c = told (g.S.Source.left c.args.source.now)

pub returns-in-None-clause-promise : goal.returns-in-None-clause-promise
returns-in-None-clause-promise g c = promised (g.S.Source.left c.args.source.now)
