-- What each face was told.
use Rattle.std.specs.Prelude.{ℕ, List, [], Option}
use Rattle.std.specs.Option.{option_and_then, option_map, option_map_or}
use Rattle.std.specs.Ordering.{nat_cmp}
use Rattle.std.specs.Map.{keys_of, lookup, remove_entry}
use Rattle.std.specs.BTreeMap.{insert_entry, is_at}
use Rattle.zq_index.specs.Texts.{at_text}
use Rattle.zq_told.specs.declared.types.ToldEntry.{ToldEntry}

-- what a face was told of each key, by text
abbrev pub Told : Type 0
Told = List (List ℕ × ToldEntry)

-- what is kept of a face: the id given last, and what it was told
pub record ToldSet : Type 0 where
  pub last : ℕ
  pub told : Told

-- what is kept of each face, by number
abbrev pub ToldSets : Type 0
ToldSets = List (ℕ × ToldSet)

-- what stands at the face
abbrev pub at_face : {X : Type 0} → ℕ → List (ℕ × X) → Option X
at_face n es = lookup (is_at (nat_cmp n)) es

-- what the face was told of the key
abbrev pub told_at : ℕ → List ℕ → ToldSets → Option ToldEntry
told_at n key ears = option_and_then (λ (e : ToldSet). at_text key e.told) (at_face n ears)

-- the keys that the face was told, in order
abbrev pub told_keys : ℕ → ToldSets → List (List ℕ)
told_keys n ears = option_map_or (λ (e : ToldSet). keys_of e.told) (at_face n ears) []

-- the id that the face was given last
abbrev pub last_at : ℕ → ToldSets → Option ℕ
last_at n ears = option_map (λ (e : ToldSet). e.last) (at_face n ears)

-- with a face that was told nothing
abbrev pub opened : ℕ → ℕ → ToldSets → ToldSets
opened n last ears = insert_entry nat_cmp ears n (record { last = last; told = [] })

-- without the face
abbrev pub closed : ℕ → ToldSets → ToldSets
closed n ears = remove_entry (is_at (nat_cmp n)) ears
