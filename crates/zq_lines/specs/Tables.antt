-- The words of tables: the gateways of nodes, and trees.
use Rattle.std.specs.Prelude.{ℕ, ◌≤◌, List, ◌∷◌, ◌++◌, Option, Some}
use Rattle.std.specs.Fmt.{decimal}
use Rattle.std.specs.List.{AllByRecursion}
use Rattle.zq_strategy.specs.declared.network.Tree.{Tree}
use Rattle.zq_route.specs.declared.gateways.GatewayEntry.{GatewayEntry}
use Rattle.zq_io.specs.Words.{◌>>=◌, cut, number, list_of, list_word}
use Rattle.zq_io.specs.Values.{most_32, zid_of, zid_word, zids_of, zids_word, direction_of, direction_word}
use Rattle.zq_io.specs.Fits.{FitsZid, FitsOption}

-- the gateways of one node
unfoldable pub entry_of : List ℕ → Option GatewayEntry
entry_of word = do
  parts ← cut 61 word
  node ← zid_of parts.0
  gateways ← zids_of parts.1
  Some (record { node = node; gateways = gateways })

-- how the gateways of one node are written
abbrev pub entry_word : GatewayEntry → List ℕ
entry_word entry = zid_word entry.node ++ 61 ∷ zids_word entry.gateways

-- `CHILDREN/DIRECTIONS`
unfoldable pub tree_of : List ℕ → Option Tree
tree_of word = do
  parts ← cut 47 word
  children ← list_of 44 (number most_32) parts.0
  directions ← list_of 44 direction_of parts.1
  Some (record { children = children; directions = directions })

-- how a tree is written
abbrev pub tree_word : Tree → List ℕ
tree_word tree = list_word 44 decimal tree.children ++ 47 ∷ list_word 44 direction_word tree.directions

-- the gateways of one node
pub record FitsEntry (entry : GatewayEntry) : Type 0 where
  pub node : FitsZid entry.node
  pub gateways : AllByRecursion FitsZid entry.gateways

-- a tree
pub record FitsTree (tree : Tree) : Type 0 where
  pub children : AllByRecursion (λ n. n ≤ most_32) tree.children
  pub directions : AllByRecursion (FitsOption (λ n. n ≤ most_32)) tree.directions
