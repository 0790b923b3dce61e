use Rattle.std.proofs.Common.{◌≡◌, drop, map}
use Rattle.zq_lines.specs.Near.{near_in, nearest}
use Rattle.zq_lines.specs.declared.near.TheConstants.{NAMES}
use Rattle.zq_lines.proofs.near.nearest.Given as goal

abbrev pub invariant-names : goal.invariant-names
invariant-names l = record { found : near_in l.word (map (λ t. t.now) (drop l.name-index NAMES.now)) ≡ nearest l.word }
