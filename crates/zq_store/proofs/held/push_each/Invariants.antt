use Rattle.std.proofs.Common.{◌≡◌, ◌++◌, map, true}
use Rattle.zq_index.specs.Texts.{texts_of}
use Rattle.zq_store.specs.Held.{are_plain, meeting}
use Rattle.zq_store.specs.Pair.{pair_of}
use Rattle.zq_store.proofs.held.push_each.Given as goal

abbrev pub invariant-loop-text : goal.invariant-loop-text
invariant-loop-text l = record {
  found : l.found ++ map pair_of (meeting l.key (texts_of l.text-iterator)) ≡ l.initial.found ++ map pair_of (meeting l.key (texts_of l.fn.pairs));
  plain : are_plain (texts_of l.text-iterator) ≡ true;
}
