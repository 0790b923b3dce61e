-- Storages of one gateway, and which of them a target picks.
use Rattle.std.specs.Prelude.{ℕ, Bool, ◌&&◌, List, [], ◌∷◌, filter, find, fold, map}
use Rattle.std.specs.BTreeSet.{insert_key}
use Rattle.std.specs.List.{flat_map}
use Rattle.std.specs.Option.{option_map_or}
use Rattle.std.specs.Str.{bytes_eq}
use Rattle.zq_message.specs.declared.message.FaceId.{FaceId}
use Rattle.zq_message.specs.declared.message.QueryTarget.{QueryTarget}
use Rattle.zq_message.specs.declared.message.QueryTarget.TheVariants as target
use Rattle.zq_key.specs.Key.{includes, intersects}
use Rattle.zq_index.specs.Texts.{text_cmp}

-- a storage: its number, the key that it answers for, its face, and whether it says that it has all of the key
pub record Seat : Type 0 where
  pub number : ℕ
  pub key : List ℕ
  pub face : FaceId
  pub complete : Bool

-- the key of a storage
abbrev pub key_of : Seat → List ℕ
key_of s = s.key

-- the storage answers for this key
abbrev pub is_on : List ℕ → Seat → Bool
is_on key s = bytes_eq s.key key

-- the keys of storages, each once, in order
abbrev pub keys_in : List Seat → List (List ℕ)
keys_in ss = fold (insert_key text_cmp) [] (map key_of ss)

-- the storages of these keys, key by key
abbrev pub on_keys : List Seat → List (List ℕ) → List Seat
on_keys ss keys = flat_map (λ key. filter (is_on key) ss) keys

-- the storages by key text, and those of one key as they joined
abbrev pub by_key : List Seat → List Seat
by_key ss = on_keys ss (keys_in ss)

-- the storage's key meets the one that is asked
abbrev pub meets : List ℕ → Seat → Bool
meets q s = intersects s.key q

-- the storage says that it has all that is asked
abbrev pub has_all : List ℕ → Seat → Bool
has_all q s = s.complete && includes s.key q

-- which of those that meet a target picks
abbrev pub picks : List ℕ → QueryTarget → List Seat → List Seat
picks q target.All ss = ss
picks q target.AllComplete ss = filter (has_all q) ss
picks q target.BestMatching ss = option_map_or (λ s. s ∷ []) (find (has_all q) ss) ss

-- the storages that a target picks, in the order in which they are asked: all whose keys meet; those of them that have all of it; the first that has, or all that meet
abbrev pub picked : List ℕ → QueryTarget → List Seat → List Seat
picked q t ss = picks q t (filter (meets q) (by_key ss))
