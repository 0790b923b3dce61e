use Rattle.std.proofs.Common.{take}
use Rattle.zq_names.specs.Linking.{Joins}
use Rattle.zq_names.proofs.linking.add_to_all.Given as goal

abbrev pub invariant-loop-member : goal.invariant-loop-member
invariant-loop-member l = Joins l.fn.nodes.slots l.nodes.slots l.r (take l.member-index l.members)
