use Rattle.std.proofs.Common.{take}
use Rattle.std.specs.List.{All}
use Rattle.zq_names.specs.declared.node.ResourceId.{ResourceId}
use Rattle.zq_names.specs.Names.{slot}
use Rattle.zq_names.specs.Linking.{HasRoom, IsRoomier}
use Rattle.zq_names.proofs.linking.make_room.Given as goal

abbrev pub invariant-loop-member : goal.invariant-loop-member
invariant-loop-member l = record {
  same : IsRoomier l.fn.nodes.slots l.nodes.slots;
  room : All (λ (m : ResourceId). HasRoom (slot l.nodes.slots m.0)) (take l.member-index l.members);
}
