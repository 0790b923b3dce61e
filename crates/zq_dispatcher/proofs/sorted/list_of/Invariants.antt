use Rattle.std.proofs.Common.{◌≡◌, ◌++◌, map}
use Rattle.std.specs.String.{string_bytes}
use Rattle.zq_dispatcher.proofs.sorted.list_of.Given as goal

abbrev pub invariant-loop-text : goal.invariant-loop-text
invariant-loop-text l = l.list ++ map string_bytes l.text-iterator ≡ map string_bytes l.texts.keys
