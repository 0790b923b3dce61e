use Rattle.std.proofs.Common.{◌≡◌, take}
use Rattle.std.specs.List.{count_by}
use Rattle.zq_script.specs.Load.{kind_test}
use Rattle.zq_script.proofs.load.count_of.Given as goal

abbrev pub invariant-loop-h : goal.invariant-loop-h
invariant-loop-h l = l.count ≡ count_by (kind_test l.kind) (take l.h-index l.handed)
