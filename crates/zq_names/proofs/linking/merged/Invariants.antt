use Rattle.std.proofs.Common.{take}
use Rattle.zq_names.specs.Linking.{HasBoth}
use Rattle.zq_names.proofs.linking.merged.Given as goal

abbrev pub invariant-loop-m : goal.invariant-loop-m
invariant-loop-m l = HasBoth l.former (take l.m-index l.matches) l.all.items
