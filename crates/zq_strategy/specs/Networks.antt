-- What a network hands: to the new children of each tree what stands of its root.
use Rattle.std.specs.Prelude.{ℕ, Bool, false, ◌&&◌, ◌||◌, List, [], ◌∷◌, ◌++◌, length, nat_lt, Option, None, if◌then◌else◌}
use Rattle.std.specs.List.{flat_map}
use Rattle.std.specs.Option.{option_map_or}
use Rattle.zq_message.specs.declared.message.QueryableInfoType.{QueryableInfoType}
use Rattle.zq_message.specs.declared.message.Zid.{Zid}
use Rattle.zq_strategy.specs.declared.network.Network.{Network}
use Rattle.zq_strategy.specs.declared.network.Telling.{Telling}
use Rattle.zq_strategy.specs.declared.network.Tree.{Tree}
use Rattle.zq_strategy.specs.Entries.{Entries, standing}
use Rattle.zq_strategy.specs.Nets.{child_ids, fresh_ids, is_zid, named_trees, place_of}
use Rattle.zq_strategy.specs.Seating.{faces_by}
use Rattle.zq_strategy.specs.Tellings.{all_told_of}

-- keys, and the informations that stand on them
abbrev pub Standing : Type 0
Standing = List (List ℕ × QueryableInfoType)

-- what stands of a root: a router's entries, or the gateway's own
abbrev pub standing_by : Zid → Standing → Entries → Zid → Standing
standing_by own own_entries all root = if is_zid root own then own_entries else standing root all

-- the open faces of a tree's children that the old tree of the root had not, where faces are found by their ids
abbrev pub fresh_faces : (Zid → Option ℕ) → (old net : Network) → Zid → Tree → List ℕ
fresh_faces face old net root tree = faces_by None face (fresh_ids old root (child_ids net tree))

-- the new children of a tree of the root are told what stands of it
abbrev pub root_told_by : (Zid → Standing) → (Zid → Option ℕ) → (old net : Network) → Zid → Tree → List Telling
root_told_by stands face old net root tree = option_map_or (λ node. flat_map (all_told_of (stands root) node) (fresh_faces face old net root tree)) (place_of net root) []

-- the same of each tree that has a node
abbrev pub trees_told_by : (Zid → Standing) → (Zid → Option ℕ) → (old net : Network) → List Zid → List Tree → List Telling
trees_told_by stands face old net [] ts = []
trees_told_by stands face old net (z ∷ zs) [] = []
trees_told_by stands face old net (z ∷ zs) (t ∷ ts) = root_told_by stands face old net z t ++ trees_told_by stands face old net zs ts

-- the tree is one of the root, and has a child that the old tree of the root had not
abbrev pub gives_child : (Zid → Option ℕ) → (old net : Network) → Zid → Zid → Tree → Bool
gives_child face old net root zid tree = is_zid zid root && nat_lt 0 (length (fresh_faces face old net zid tree))

-- a tree of the root that has a node gives a child
abbrev pub any_gives : (Zid → Option ℕ) → (old net : Network) → Zid → List Zid → List Tree → Bool
any_gives face old net root [] ts = false
any_gives face old net root (z ∷ zs) [] = false
any_gives face old net root (z ∷ zs) (t ∷ ts) = gives_child face old net root z t || any_gives face old net root zs ts

-- what a network hands, of its trees at places that a message can name
abbrev pub network_told_by : (Zid → Standing) → (Zid → Option ℕ) → (old net : Network) → List Telling
network_told_by stands face old net = trees_told_by stands face old net net.nodes (named_trees net)
