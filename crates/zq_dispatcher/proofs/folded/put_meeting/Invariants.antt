use Rattle.std.proofs.Common.{◌≡◌, fold, map}
use Rattle.std.specs.Prelude.{string_bytes}
use Rattle.zq_dispatcher.specs.Dues.{AreKeys, put_if_meets}
use Rattle.zq_dispatcher.proofs.folded.put_meeting.Given as goal

abbrev pub invariant-loop-k : goal.invariant-loop-k
invariant-loop-k l = record {
  rest : fold (put_if_meets l.key) (map string_bytes l.parts.keys) (map string_bytes l.k-iterator) ≡ fold (put_if_meets l.key) (map string_bytes l.initial.parts.keys) (map string_bytes l.keys.keys);
  left : AreKeys (map string_bytes l.k-iterator);
  valid : AreKeys (map string_bytes l.initial.parts.keys) → AreKeys (map string_bytes l.parts.keys);
}
