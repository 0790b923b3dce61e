-- The texts that stand at a gateway, each with a node of the table of texts, and so do its parts that end before a `/`.
use Rattle.std.specs.Prelude.{ℕ, Bool, false, List, [], ◌∷◌, ◌++◌}
use Rattle.std.specs.List.{flat_map, list_any}
use Rattle.std.specs.Map.{keys_of, values_of}
use Rattle.std.specs.Option.{option_map_or}
use Rattle.std.specs.Str.{bytes_eq}
use Rattle.zq_strategy.specs.State.{HatState}
use Rattle.zq_names.specs.Texts.{heads}
use Rattle.zq_tables.specs.Naming.{Names, face_interests, face_naming}
use Rattle.zq_machine.specs.Agreeing.{keys_in}
use Rattle.zq_machine.specs.State.{State, hat_of}

-- the queryables that an open face has declared, by id with their keys, as its region's hat has them
abbrev pub declared_by : State → ℕ → Names
declared_by s face = option_map_or (keys_in face) (hat_of face s.core) []

-- what stands at an open face: the texts of the numbers of either side, and the keys of its queryables and of its interests
abbrev pub standing_at : State → ℕ → List (List ℕ)
standing_at s face = values_of (face_naming face s.names).theirs ++ values_of (face_naming face s.names).ours ++ values_of (declared_by s face) ++ values_of (face_interests face s.names)

-- the keys on which routers of a region have an entry
abbrev pub entered_in : ℕ × HatState → List (List ℕ)
entered_in h = keys_of h.1.entries

-- all that stands: at the open faces, and of the entries of routers in the hats
abbrev pub standing_texts : State → List (List ℕ)
standing_texts s = flat_map (standing_at s) (keys_of s.core.faces) ++ flat_map entered_in s.core.hats

-- the text stands, or is a part of one that stands which ends before a `/`; the empty text is the root's, and no such part
abbrev pub has_standing : List ℕ → State → Bool
has_standing [] s = false
has_standing (b ∷ t) s = list_any (bytes_eq (b ∷ t)) (flat_map heads (standing_texts s))
