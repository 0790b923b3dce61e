use Rattle.std.proofs.Common.{◌≡◌, drop}
use Rattle.zq_lines.specs.Why.{first_wrong}
use Rattle.zq_lines.proofs.why.first_wrong.Given as goal

abbrev pub invariant-kinds : goal.invariant-kinds
invariant-kinds l = record { found : first_wrong (drop l.kind-index l.kinds) l.left ≡ first_wrong l.kinds l.rest }
