use Rattle.std.proofs.Common.{◌<◌, arith, length}
use Rattle.zq_script.proofs.LinesRead.{ended, ended_last, no_byte, not_empty, one_byte}
use Rattle.zq_script.proofs.reading.read_line.Goals as goal

pub returns-then-count-eq0-clause-line : goal.returns-then-count-eq0-clause-line
returns-then-count-eq0-clause-line g c = λ e.
    let some : 0 < length c.bytes.line.items = omega (arith, not_empty c.is_empty.result _ c.is_empty.ensures e, c.bytes.line.ok.0) in
    let none = no_byte c.in-Ok.count c.read.new.buf c.if-count-eq0.true in
    ended_last _ _ _ c.bytes.line.items c.bytes.invariant.part some c.bytes.invariant.taken (rw none at c.in-Ok.ensures.bytes.0) (c.in-Ok.ensures.bytes.1 c.if-count-eq0.true (omega arith))

pub returns-then-byte-eq10-clause-line : goal.returns-then-byte-eq10-clause-line
returns-then-byte-eq10-clause-line g c = λ _.
    let one = one_byte c.in-Ok.count 10 c.read.new.buf (omega arith) (omega (arith, c.in-Ok.ensures.bound)) c.if-count-eq0.false c.if-byte-eq10.true in
    ended _ _ _ c.bytes.line.items c.bytes.invariant.part c.bytes.invariant.taken (rw one at c.in-Ok.ensures.bytes.0)
