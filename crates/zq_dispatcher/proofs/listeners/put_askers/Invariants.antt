use Rattle.std.proofs.Common.{◌≡◌, fold, take}
use Rattle.zq_dispatcher.specs.Listeners.{with_askers}
use Rattle.zq_dispatcher.proofs.listeners.put_askers.Given as goal

abbrev pub invariant-loop-key : goal.invariant-loop-key
invariant-loop-key l = l.found.keys ≡ fold (with_askers l.interests) l.initial.found.keys (take l.key-index l.keys)
