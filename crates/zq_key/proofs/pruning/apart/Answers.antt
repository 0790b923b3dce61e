use Rattle.std.proofs.Common.{arith, sym}
use Rattle.zq_key.proofs.Apart.{apart_here, apart_past}
use Rattle.zq_key.proofs.pruning.apart.Goals as goal

pub returns-then-k-key : goal.returns-then-k-key
returns-then-k-key c = record {
  in_range = c.loop-k-test.true;
  byte = omega (arith, c.type_inv.text c.loop-k.k, c.if-byte.false);
  apart = apart_past _ _ _ c.loop-k-test.true (omega arith) (sym c.if-may_be_wild.ensures) c.if-byte-eq47.false c.loop-k.invariant.agrees;
}

pub returns-then-byte-key : goal.returns-then-byte-key
returns-then-byte-key c = record {
  in_range = c.loop-k-test.true;
  byte = omega (arith, c.type_inv.text c.loop-k.k, c.if-byte.false);
  apart = apart_here _ _ _ c.loop-k-test.true c.if-k-key.false (sym c.if-may_be_wild.ensures) (sym c.if-may_be_wild-2.ensures) c.if-byte-key.true c.loop-k.invariant.agrees;
}
