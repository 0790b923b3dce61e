use Rattle.std.proofs.Common.{◌≡◌, ◌++◌, map, true}
use Rattle.std.specs.Map.Iter.{deref_pair}
use Rattle.zq_index.specs.Texts.{texts_of}
use Rattle.zq_store.specs.Held.{are_plain, meeting}
use Rattle.zq_store.specs.Pair.{pair_of}
use Rattle.zq_store.proofs.held.Held.push_all.Given as goal

abbrev pub invariant-loop-text : goal.invariant-loop-text
invariant-loop-text l = record {
  found : l.found ≡ l.initial.found ++ map pair_of (meeting l.key (texts_of (map deref_pair l.yielded)));
  plain : are_plain (texts_of l.text-iterator) ≡ true;
}
