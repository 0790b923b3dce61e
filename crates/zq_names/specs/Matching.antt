-- Which entries a key meets.
use Rattle.std.specs.Prelude.{ℕ, Bool, ◌&&◌, List}
use Rattle.zq_key.specs.Key.{is_key, intersects}
use Rattle.zq_names.specs.declared.node.ResourceId.{ResourceId}
use Rattle.zq_names.specs.Names.{NameEntry}

-- the number itself
abbrev pub number : ResourceId → ℕ
number r = r.0

-- the text is a key that meets the key
abbrev pub meets_key : List ℕ → List ℕ → Bool
meets_key key text = is_key text && intersects text key

-- the entry has a context, and its text is a key that meets the key
abbrev pub is_match : List ℕ → NameEntry → Bool
is_match key e = e.context && meets_key key e.text
