use Rattle.std.proofs.Common.{◌≡◌, ◌++◌, map}
use Rattle.std.specs.Prelude.{string_bytes}
use Rattle.std.specs.List.{flat_map}
use Rattle.zq_dispatcher.specs.Asked.{looked_due}
use Rattle.zq_dispatcher.specs.Dues.{AreKeys}
use Rattle.zq_dispatcher.proofs.asked.looked_dues.Given as goal

abbrev pub invariant-loop-key : goal.invariant-loop-key
invariant-loop-key l =
    let looks = looked_due l.id l.entry l.face.0 l.interests l.opened l.hats in
    record {
      rest : l.dues ++ flat_map looks (map string_bytes l.key-iterator) ≡ flat_map looks (map string_bytes l.keys.keys);
      left : AreKeys (map string_bytes l.key-iterator);
    }
