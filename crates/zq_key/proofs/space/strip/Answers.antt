use Rattle.zq_key.proofs.Within.{key-answer, within-answer, whole-answer}
use Rattle.zq_key.proofs.space.strip.Goals as goal

pub returns-clause-key : goal.returns-clause-key
returns-clause-key c = key-answer (λ r. r.now) c.args.ns.now c.args.key.now c.strip_by_chunks.result c.strip_by_chunks.ensures c.requires.key

pub returns-clause-within : goal.returns-clause-within
returns-clause-within c = within-answer (λ r. r.now) c.args.ns.now c.args.key.now c.strip_by_chunks.result c.strip_by_chunks.ensures c.requires.plain

pub returns-clause-whole : goal.returns-clause-whole
returns-clause-whole c = whole-answer (λ r. r.now) c.args.ns.now c.args.key.now c.strip_by_chunks.result c.strip_by_chunks.ensures c.requires.plain
