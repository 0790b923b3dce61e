-- What a storage holds: the fold over the puts and deletes that it accepted.
use Rattle.std.specs.Prelude.{ℕ, Bool, List, [], filter, fold}
use Rattle.std.specs.BTreeMap.{insert_entry, is_at}
use Rattle.std.specs.List.{list_all}
use Rattle.std.specs.Map.{remove_entry}
use Rattle.zq_index.specs.Texts.{text_cmp}
use Rattle.zq_key.specs.Key.{intersects, is_plain}

-- values by key, in the order of the keys
abbrev pub Pairs : Type 0
Pairs = List (List ℕ × List ℕ)

-- what changes the pairs of a storage
pub data Change : Type 0 where
  put : List ℕ → List ℕ → Change
  delete : List ℕ → Change

-- the pairs after a change
abbrev pub changed : Pairs → Change → Pairs
changed pairs (put key value) = insert_entry text_cmp pairs key value
changed pairs (delete key) = remove_entry (is_at (text_cmp key)) pairs

-- the pairs that a storage holds after these changes, from none
abbrev pub held_by : List Change → Pairs
held_by changes = fold changed [] changes

-- the pair's key meets the key
abbrev pub meets_key : List ℕ → List ℕ × List ℕ → Bool
meets_key key p = intersects p.0 key

-- the pairs that meet the key, in their order
abbrev pub meeting : List ℕ → Pairs → Pairs
meeting key pairs = filter (meets_key key) pairs

-- the pair is on a plain key
abbrev pub is_plain_pair : List ℕ × List ℕ → Bool
is_plain_pair p = is_plain p.0

-- all pairs are on plain keys
abbrev pub are_plain : Pairs → Bool
are_plain pairs = list_all is_plain_pair pairs
