use Rattle.std.proofs.Common.{◌≡◌}
use Rattle.std.specs.List.{list_any}
use Rattle.zq_hat.specs.Status.{is_other_match}
use Rattle.zq_hat.proofs.status.others_match.Given as goal

abbrev pub invariant-loop-number : goal.invariant-loop-number
invariant-loop-number l = list_any (is_other_match l.face.0 l.key l.complete) l.number-iterator ≡ list_any (is_other_match l.face.0 l.key l.complete) l.faces.entries
