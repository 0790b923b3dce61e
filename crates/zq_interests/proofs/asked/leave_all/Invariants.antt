use Rattle.std.proofs.Common.{◌≡◌, ℕ, List, Option}
use Rattle.std.specs.Prelude.{not, ◌&&◌}
use Rattle.zq_index.specs.Holders.{Place}
use Rattle.zq_interests.specs.Kept.{is_kept, is_of}
use Rattle.zq_interests.proofs.asked.leave_all.Given as goal

abbrev pub invariant-loop-id : goal.invariant-loop-id
invariant-loop-id l = (other : Option (List ℕ)) (q : Place) → (not (is_of l.face l.id-iterator other q) && is_kept other q l.shelf) ≡ (not (is_of l.face l.entries.entries other q) && is_kept other q l.initial.shelf)
