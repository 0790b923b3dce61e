use Rattle.std.proofs.Common.{◌≡◌}
use Rattle.zq_script.proofs.Conversing.{Conversed}
use Rattle.zq_script.proofs.live.converse.Given as goal

abbrev pub invariant-loop-number : goal.invariant-loop-number
invariant-loop-number g l = record {
  conversed : Conversed (g.S.Source.left l.fn.source) (g.S.Source.left l.source) (g.K.Sink.taken l.fn.sink) (g.K.Sink.taken l.sink) l.number l.conversation;
  steady : g.S.Source.faults l.source ≡ g.S.Source.faults l.fn.source;
  quiet : g.K.Sink.faults l.sink ≡ g.K.Sink.faults l.fn.sink;
}
