-- What is read from a network: places of ids, trees, and the way to a node.
use Rattle.std.specs.Prelude.{◌≡◌, ℕ, ◌==◌, Bool, not, List, [], filter, Option, Some, None, if◌then◌else◌, position, slice_get, nat_lt, take}
use Rattle.std.specs.List.{list_any, filter_map}
use Rattle.std.specs.Option.{option_map_or, option_and_then}
use Rattle.std.specs.Map.{lookup}
use Rattle.std.specs.BTreeMap.{is_at}
use Rattle.std.specs.Ordering.{nat_cmp}
use Rattle.zq_message.specs.declared.message.Zid.{Zid}
use Rattle.zq_strategy.specs.declared.network.Network.{Network}
use Rattle.zq_strategy.specs.declared.network.Tree.{Tree}

-- a value that may be missing, and then what is made of it
infixl 10 ◌>>=◌
abbrev pub ◌>>=◌ : {A B : Type 0} → Option A → (A → Option B) → Option B
o >>= f = option_and_then f o

-- the same id
abbrev pub is_zid : Zid → Zid → Bool
is_zid a b = a.0 == b.0

-- a network without nodes
abbrev pub no_network : Network
no_network = record { nodes = []; trees = []; distances = [] }

-- the network lists the id
abbrev pub is_listed : Network → Zid → Bool
is_listed net zid = list_any (is_zid zid) net.nodes

-- a place that a message can name: one of at most 65535
abbrev pub small : ℕ → Option ℕ
small i = if nat_lt i 65536 then Some i else None

-- the place of an id: the first one that has it, if a message can name it
abbrev pub place_of : Network → Zid → Option ℕ
place_of net zid = position (is_zid zid) net.nodes >>= small

-- the tree at a place
abbrev pub tree_at : Network → ℕ → Option Tree
tree_at net i = slice_get net.trees i

-- the id at a place
abbrev pub node_at : Network → ℕ → Option Zid
node_at net i = slice_get net.nodes i

-- the next node on the way to a router, and how far the router is, in the tree of a source
abbrev pub towards : Network → ℕ → Zid → Option (Zid × ℕ)
towards net source router = do
  i ← place_of net router
  tree ← tree_at net source
  direction ← slice_get tree.directions i
  d ← direction >>= small
  next ← node_at net d
  far ← slice_get net.distances i
  Some (next, far)

-- the id at a place that a message can name
abbrev pub child_at : Network → ℕ → Option Zid
child_at net i = small i >>= node_at net

-- the ids of a tree's children: those at places that a message can name
abbrev pub child_ids : Network → Tree → List Zid
child_ids net tree = filter_map (child_at net) tree.children

-- the trees at places that a message can name
abbrev pub named_trees : Network → List Tree
named_trees net = take 65536 net.trees

-- the ids of the children of the tree at a root's place
abbrev pub children_of : Network → Zid → List Zid
children_of net root = option_map_or (child_ids net) (place_of net root >>= tree_at net) []

-- the ids that the old tree of the root did not have as children
abbrev pub fresh_ids : Network → Zid → List Zid → List Zid
fresh_ids old root zids = filter (λ zid. not (list_any (is_zid zid) (children_of old root))) zids

-- the entries have for each id its first place
abbrev pub IsPlaced : List Zid → List (ℕ × ℕ) → Type 0
IsPlaced nodes places = (zid : Zid) → lookup (is_at (nat_cmp zid.0)) places ≡ position (is_zid zid) nodes
