use Rattle.std.proofs.Common.{◌≡◌, ◌+◌, sym, subst, length, arith}
use Rattle.std.proofs.lemmas.Bool.Decides.{nat_tests}
use Rattle.zq_index.specs.declared.forks.Mode.TheVariants.{Chunk}
use Rattle.zq_index.specs.Forks.{GoesOn, chunks_from}
use Rattle.zq_index.proofs.ForkLemmas.{end_on, byte_on}
use Rattle.zq_index.proofs.forks.compare.Goals as goal

pub returns-then-byte-eq47 : goal.returns-then-byte-eq47
returns-then-byte-eq47 c =
    let at : c.args.j ≡ length c.args.q.now = grind (arith, nat_tests, c.if-j-q-2.true) in
    subst (λ n. GoesOn Chunk (chunks_from c.args.q.now n) c.args.byte Chunk (chunks_from c.args.q.now (n + 1))) (sym at) (end_on c.args.q.now c.args.byte c.if-byte-eq47.true)

pub returns-then-byte-q : goal.returns-then-byte-q
returns-then-byte-q c = byte_on c.args.q.now c.args.j c.args.byte (omega (arith, c.if-j-q.false, c.if-j-q-2.false)) c.if-byte-q.true (sym c.if-may_be_wild.ensures)
