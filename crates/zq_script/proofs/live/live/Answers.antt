use Rattle.zq_lines.specs.Split.{lines_of}
use Rattle.zq_script.specs.Live.{answers, good_lines}
use Rattle.zq_script.specs.Conversation.{fresh}
use Rattle.zq_script.proofs.Promised.{lines_kept, lines_promised, lines_told}
use Rattle.zq_script.proofs.Replayed.{replayed}
use Rattle.zq_script.proofs.live.live.Goals as goal

pub returns-clause-replayed : goal.returns-clause-replayed
returns-clause-replayed g c = replayed (g.S.Source.left c.args.source.now)

pub returns-clause-headline : goal.returns-clause-headline
returns-clause-headline g c = lines_kept (g.S.Source.left c.args.source.now) (λ input. good_lines (answers 1 fresh (lines_of input)))

pub returns-clause-told : goal.returns-clause-told
returns-clause-told g c = lines_told (g.S.Source.left c.args.source.now) (λ input. good_lines (answers 1 fresh (lines_of input)))

pub returns-clause-promise : goal.returns-clause-promise
returns-clause-promise g c = lines_promised (g.S.Source.left c.args.source.now) (λ input. good_lines (answers 1 fresh (lines_of input)))
