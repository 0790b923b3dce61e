use Rattle.std.proofs.Common.{◌≡◌, ◌++◌}
use Rattle.std.specs.Map.{keys_of}
use Rattle.zq_index.specs.Texts.{texts_of}
use Rattle.zq_told.specs.Rooms.{entries_in}
use Rattle.zq_told.proofs.slots.told_keys.Given as goal

abbrev pub invariant-loop-key : goal.invariant-loop-key
invariant-loop-key l = l.keys ++ keys_of (entries_in (texts_of l.key-iterator)) ≡ keys_of (entries_in (texts_of l.slots.entries))
