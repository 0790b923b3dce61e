-- What is told along trees and to neighbours, and what is taken back of a call that finds no memory half-way.
use Rattle.std.specs.Prelude.{ℕ, Bool, false, List, ◌++◌, Option, Some, None, is_none, if◌then◌else◌}
use Rattle.zq_strategy.specs.declared.network.Telling.{Telling}
use Rattle.zq_told.specs.declared.types.FaceUpdate.{FaceUpdate}
use Rattle.zq_told.specs.declared.types.Reason.TheVariants.{Update}
use Rattle.zq_told.specs.ToldSets.{ToldSets}
use Rattle.zq_told.specs.Telling.{tell_faces}
use Rattle.zq_tables.specs.Naming.{NamingState, change_naming, face_interests, text_at, with_interest, without_interest}

-- what is told along trees, and what neighbours are told of what a call looks at
abbrev pub told_with : ToldSets → List FaceUpdate → List Telling → List Telling
told_with ears dues told = told ++ (tell_faces Update ears dues).tellings

-- an interest with a key holds the key's node; one without a key holds none
abbrev pub asking : ℕ → ℕ → Option (List ℕ) → NamingState → NamingState
asking face id None s = s
asking face id (Some key) s = change_naming face (with_interest id key) s

-- it has a key and held no node before
abbrev pub is_fresh : ℕ → ℕ → Option (List ℕ) → NamingState → Bool
is_fresh face id None s = false
is_fresh face id (Some key) s = is_none (text_at id (face_interests face s))

-- an interest that holds a node afresh lets it go again
abbrev pub asked_back : ℕ → ℕ → Bool → NamingState → NamingState
asked_back face id fresh s = if fresh then change_naming face (without_interest id) s else s
