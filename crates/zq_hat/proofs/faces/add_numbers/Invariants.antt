use Rattle.std.proofs.Common.{◌≡◌, fold}
use Rattle.std.specs.BTreeSet.{insert_key}
use Rattle.std.specs.Map.{keys_of}
use Rattle.std.specs.Ordering.{nat_cmp}
use Rattle.zq_hat.proofs.faces.add_numbers.Given as goal

abbrev pub invariant-loop-number : goal.invariant-loop-number
invariant-loop-number l = fold (insert_key nat_cmp) l.found.keys (keys_of l.number-iterator) ≡ fold (insert_key nat_cmp) l.initial.found.keys (keys_of l.faces.entries)
