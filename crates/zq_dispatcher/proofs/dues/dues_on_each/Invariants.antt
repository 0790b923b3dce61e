use Rattle.std.proofs.Common.{◌≡◌, false, map, take}
use Rattle.zq_dispatcher.specs.Dues.{row_as}
use Rattle.zq_dispatcher.proofs.dues.dues_on_each.Given as goal

abbrev pub invariant-loop-key : goal.invariant-loop-key
invariant-loop-key l = l.dues ≡ map (row_as (λ key. record { asks = false; folds = false }) l.face.0 l.opened l.hats) (take l.key-index l.keys)
