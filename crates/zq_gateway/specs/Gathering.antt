-- What the body of a call gathers of what it tells, before ids are given for it.
use Rattle.std.specs.Prelude.{◌≡◌, List, ◌++◌, Some, None, if◌then◌else◌}
use Rattle.zq_strategy.specs.declared.network.Telling.{Telling}
use Rattle.zq_told.specs.declared.types.FaceUpdate.{FaceUpdate}
use Rattle.zq_told.specs.ToldSets.{ToldSets}
use Rattle.zq_machine.specs.declared.call.Refusal.TheVariants as refusal
use Rattle.zq_machine.specs.Deciding.{accepted, kept, lacks_told, refusal_of}
use Rattle.zq_machine.specs.Neighbours.{looked_at}
use Rattle.zq_machine.specs.State.{Core}
use Rattle.zq_machine.specs.TextCalls.{TextCall}
use Rattle.zq_machine.specs.Trees.{all_own_told, touched, tree_told}

-- what a call tells along trees, in no order
abbrev pub along_trees : Core → TextCall → List Telling
along_trees c t = tree_told c (accepted c t) t ++ all_own_told c.hats (accepted c t).hats (touched c t)

-- what it looks at
abbrev pub looked : Core → TextCall → List FaceUpdate
looked c t = looked_at c (accepted c t) c.interests t

-- what a body gathers for a call: what is kept of faces, what is looked at, and what is told along trees
pub record Gathers (c : Core) (t : TextCall) (ears : ToldSets) (dues : List FaceUpdate) (told : List Telling) : Type 0 where
  pub is_kept : ears ≡ kept c t
  pub is_looked : dues ≡ looked c t
  pub is_told : told ≡ along_trees c t

-- nothing refuses the call but ids that lack for what it tells
abbrev pub OnlyIdsLack : Core → TextCall → Type 0
OnlyIdsLack c t = refusal_of c t ≡ (if lacks_told c t then Some refusal.NoFreeId else None)
