use Rattle.std.proofs.Common.{arith, refl, ◌≡◌, ◌-◌, take, drop, length}
use Rattle.std.proofs.lemmas.Grind.{common_steps}
use Rattle.zq_io.specs.Streams.{none, more}
use Rattle.zq_io.proofs.Transfers.{appends_none, appends_on}
use Rattle.zq_io.proofs.transfer.write_all.Goals as goal

pub writes-init : goal.writes-init
writes-init g c = record {
  within = omega arith;
  taken = appends_none (g.K.Sink.taken c.args.sink.now);
  offers = none;
  quiet = refl;
}

pub writes-preserved : goal.writes-preserved
writes-preserved g c =
    let rest : take (length c.args.piece.now - c.writes.at) (drop c.writes.at c.args.piece.now) ≡ drop c.writes.at c.args.piece.now = grind (arith, common_steps) in
    let taken = rw rest at c.in-Ok.ensures.bytes in
    let step = rw rest at c.in-Ok.ensures.step in
    record {
      within = omega (arith, c.in-Ok.ensures.bound);
      taken = appends_on _ _ _ c.args.piece.now c.writes.at c.in-Ok.count c.writes.invariant.taken taken;
      offers = more c.writes.at c.in-Ok.count c.writes.sink c.write.new.self c.writes.invariant.offers step;
      quiet = grind (arith, c.in-Ok.ensures.cause);
    }
