use Rattle.std.proofs.Common.{◌≡◌, fold, take}
use Rattle.std.specs.Prelude.{max}
use Rattle.zq_show.proofs.carrier.greatest.Given as goal

abbrev pub invariant-loop-zid : goal.invariant-loop-zid
invariant-loop-zid l = l.greatest ≡ fold (λ m z. max m z.0) 0 (take l.zid-index l.zids)
