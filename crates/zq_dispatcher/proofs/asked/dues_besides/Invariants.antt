use Rattle.std.proofs.Common.{◌≡◌, ◌++◌, filter, map}
use Rattle.std.specs.Prelude.{string_bytes}
use Rattle.zq_interests.specs.Interests.{without_interest}
use Rattle.zq_told.specs.Rooms.{ears_of}
use Rattle.zq_dispatcher.specs.Asking.{asking_in}
use Rattle.zq_dispatcher.specs.Dues.{AreKeys, row_as, was_told}
use Rattle.zq_dispatcher.proofs.asked.dues_besides.Given as goal

abbrev pub invariant-loop-key : goal.invariant-loop-key
invariant-loop-key l =
    let row = row_as (asking_in (without_interest l.face.0 l.id l.interests) l.face.0) l.face.0 l.opened l.hats in
    let told = was_told l.face.0 (ears_of l.ears) in
    record {
      rest : l.dues ++ map row (filter told (map string_bytes l.key-iterator)) ≡ map row (filter told (map string_bytes l.keys.keys));
      left : AreKeys (map string_bytes l.key-iterator);
    }
