use Rattle.std.proofs.Common.{◌≡◌, map, take}
use Rattle.std.specs.Prelude.{string_bytes}
use Rattle.std.specs.List.{flat_map}
use Rattle.std.specs.Option.{option_copied}
use Rattle.zq_dispatcher.specs.Asking.{asking_in}
use Rattle.zq_dispatcher.specs.Dues.{listed_due}
use Rattle.zq_dispatcher.specs.Parts.{AreGathered}
use Rattle.zq_dispatcher.proofs.dues.dues_of_face.Given as goal

abbrev pub invariant-loop-key : goal.invariant-loop-key
invariant-loop-key l =
    let next = option_copied l.next in
    let touched = map string_bytes l.touched.keys in
    record {
      dues : l.dues ≡ flat_map (listed_due (asking_in l.interests l.face.0) next touched l.face.0 l.opened l.hats) (take l.key-index l.keys);
      gathered : AreGathered next touched l.hats l.folds.entries;
    }
