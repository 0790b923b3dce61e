use Rattle.std.proofs.Common.{take}
use Rattle.zq_names.specs.Forgetting.{Drops}
use Rattle.zq_names.proofs.forget.forget.Given as goal

abbrev pub invariant-loop-holder : goal.invariant-loop-holder
invariant-loop-holder l = Drops l.fn.nodes.slots l.nodes.slots l.id (take l.holder-index l.holders)
