-- What the other faces of a hat declared on a key.
use Rattle.std.specs.Prelude.{ℕ, ◌==◌, List, fold, Option, None, if◌then◌else◌}
use Rattle.std.specs.Option.{option_map_or}
use Rattle.zq_message.specs.declared.message.FaceId.{FaceId}
use Rattle.zq_message.specs.declared.message.QueryableInfoType.{QueryableInfoType}
use Rattle.zq_index.specs.Infos.{joined}
use Rattle.zq_strategy.specs.Kept.{faces_info, info}
use Rattle.zq_strategy.specs.State.{FaceState, HatState}

-- what another face declared on the key is merged in
abbrev pub with_fellow : ℕ → List ℕ → Option QueryableInfoType → ℕ × FaceState → Option QueryableInfoType
with_fellow face key m f = if f.0 == face then m else joined m (info key f.1)

-- what the other faces of a hat declared on the key, merged
abbrev pub fellow_info : ℕ → List ℕ → HatState → Option QueryableInfoType
fellow_info face key h = fold (with_fellow face key) None h.faces

-- what the faces of a hat, but one if it is said, declared on the key, merged
abbrev pub info_but : Option FaceId → List ℕ → HatState → Option QueryableInfoType
info_but but key h = option_map_or (λ (f : FaceId). fellow_info f.0 key h) but (faces_info key h.faces)
