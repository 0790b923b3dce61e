use Rattle.std.proofs.Common.{◌≡◌, fold, take}
use Rattle.zq_gateway.specs.Entries.{without_gone}
use Rattle.zq_gateway.proofs.entries.release_each.Given as goal

abbrev pub invariant-loop-key : goal.invariant-loop-key
invariant-loop-key l = l.names ≡ fold (without_gone l.region l.hats) l.fn.names (take l.key-index l.keys)
