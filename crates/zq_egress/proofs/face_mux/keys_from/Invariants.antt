use Rattle.std.proofs.Common.{◌≡◌, take}
use Rattle.zq_egress.proofs.face_mux.keys_from.Given as goal

abbrev pub invariant-loop-text : goal.invariant-loop-text
invariant-loop-text l = l.keys ≡ take l.text-index l.texts
