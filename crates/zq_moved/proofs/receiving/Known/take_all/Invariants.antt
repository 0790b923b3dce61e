use Rattle.std.proofs.Common.{◌≡◌, ◌++◌, drop, fold}
use Rattle.zq_moved.specs.Received.{knows_handed, reads_all}
use Rattle.zq_moved.proofs.receiving.Known.take_all.Given as goal

abbrev pub invariant-loop-one : goal.invariant-loop-one
invariant-loop-one l = record {
  known : fold (knows_handed l.face.0) l.self (drop l.one-index l.handed) ≡ fold (knows_handed l.face.0) l.initial.self l.handed;
  read : l.all ++ reads_all l.face.0 l.self (drop l.one-index l.handed) ≡ l.initial.all ++ reads_all l.face.0 l.initial.self l.handed;
}
