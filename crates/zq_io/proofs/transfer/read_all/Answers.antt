use Rattle.std.proofs.Common.{◌++◌, take}
use Rattle.zq_io.proofs.Transfers.{consumes_more}
use Rattle.zq_io.proofs.transfer.read_all.Goals as goal

pub returns-then-is_err-clause-front : goal.returns-then-is_err-clause-front
returns-then-is_err-clause-front g c =
    let piece = take c.in-Ok.count c.read.new.buf in
    (c.reads.bytes.items ++ piece, consumes_more _ _ _ c.reads.bytes.items piece c.reads.invariant.taken c.in-Ok.ensures.bytes.0)
