-- Which declarations a merge leaves out.
use Rattle.std.specs.Prelude.{ℕ, Bool, true, false, not, ◌&&◌, Option}
use Rattle.std.specs.BTreeMap.{is_at}
use Rattle.std.specs.Option.{option_map_or}
use Rattle.std.specs.Ordering.{nat_cmp}
use Rattle.zq_message.specs.declared.message.FaceId.{FaceId}
use Rattle.zq_index.specs.Holders.{Place}
use Rattle.zq_strategy.specs.declared.merges.Leaving.{Leaving}

-- the number is not that of the face, if one is said
abbrev pub is_other : Option FaceId → ℕ → Bool
is_other but number = option_map_or (λ (f : FaceId). not (is_at (nat_cmp f.0) number)) but true

-- the place is of what goes: of its face, and of its id if it has one
abbrev pub is_leaving : Leaving → Place → Bool
is_leaving l p = is_at (nat_cmp l.face.0) p.0 && option_map_or (λ id. is_at (nat_cmp id) p.1) l.id true

-- the place is of another face than one, and not of what goes, if these are said
abbrev pub is_left_in : Option FaceId → Option Leaving → Place → Bool
is_left_in but leaving p = is_other but p.0 && not (option_map_or (λ l. is_leaving l p) leaving false)
