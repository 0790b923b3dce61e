use Rattle.zq_index.proofs.ForkLemmas.{star_over, slash_over, chunk_over}
use Rattle.zq_index.proofs.forks.pass.Goals as goal

pub returns-then-byte-eq42 : goal.returns-then-byte-eq42
returns-then-byte-eq42 c = star_over c.args.q.now c.args.j c.in_ok-next.next c.in_ok-next.ensures c.args.byte c.if-byte-eq42.true

pub returns-then-byte-eq47 : goal.returns-then-byte-eq47
returns-then-byte-eq47 c = slash_over c.args.q.now c.args.j c.in_ok-next.next c.in_ok-next.ensures c.args.byte c.if-byte-eq47.true

pub returns-else-byte-eq47 : goal.returns-else-byte-eq47
returns-else-byte-eq47 c = chunk_over c.args.q.now c.args.j c.in_ok-next.next c.in_ok-next.ensures c.args.byte c.if-byte-eq42.false c.if-byte-eq47.false
