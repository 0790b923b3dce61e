use Rattle.std.proofs.Common.{◌≡◌, ◌++◌, map}
use Rattle.std.specs.Prelude.{string_bytes}
use Rattle.std.specs.List.{flat_map}
use Rattle.std.specs.Option.{option_copied}
use Rattle.zq_dispatcher.specs.Parts.{AreGathered}
use Rattle.zq_dispatcher.proofs.Listening.{there}
use Rattle.zq_dispatcher.proofs.over.look_at.Given as goal

abbrev pub invariant-loop-number : goal.invariant-loop-number
invariant-loop-number l =
    let looks = there l.interests (option_copied l.next) l.hats l.keys l.but l.faces.entries in
    record {
      rest : l.list ++ flat_map looks l.number-iterator ≡ flat_map looks l.listeners.keys;
      gathered : AreGathered (option_copied l.next) (map string_bytes l.touched.keys) l.hats l.folds.entries;
    }
