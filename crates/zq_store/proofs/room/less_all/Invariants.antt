use Rattle.std.proofs.Common.{◌≡◌, length, map, true}
use Rattle.std.specs.Map.Iter.{deref_pair}
use Rattle.zq_index.specs.Texts.{texts_of}
use Rattle.zq_store.specs.Held.{are_plain, meeting}
use Rattle.zq_store.specs.Room.{less_by}
use Rattle.zq_store.proofs.room.less_all.Given as goal

abbrev pub invariant-loop-text : goal.invariant-loop-text
invariant-loop-text l = record {
  left : l.left ≡ less_by (length (meeting l.key (texts_of (map deref_pair l.yielded)))) l.initial.left;
  plain : are_plain (texts_of l.text-iterator) ≡ true;
}
