use Rattle.std.proofs.Common.{◌≡◌, ◌++◌, take}
use Rattle.std.specs.List.{flat_map}
use Rattle.zq_session.specs.Session.{message_line}
use Rattle.zq_session.proofs.session.push_face.Given as goal

abbrev pub invariant-loop-message : goal.invariant-loop-message
invariant-loop-message l = l.out.items ≡ l.initial.out.items ++ flat_map message_line (take l.message-index l.messages)
