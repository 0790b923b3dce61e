use Rattle.std.proofs.Common.{take}
use Rattle.zq_dispatcher.specs.Owns.{AllKeys, AreOwns}
use Rattle.zq_dispatcher.proofs.owns.owns_met.Given as goal

abbrev pub invariant-loop-key : goal.invariant-loop-key
invariant-loop-key l = record {
  met : AreOwns (take l.key-index l.keys) l.interests l.owns.entries;
  valid : AllKeys l.owns.entries;
}
