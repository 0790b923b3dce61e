-- The keys of a region, and what the children of trees are told.
use Rattle.std.specs.Prelude.{ℕ, Bool, false, List, [], Option, None, if◌then◌else◌}
use Rattle.std.specs.Map.{keys_of}
use Rattle.zq_message.specs.declared.message.QueryableInfoType.{QueryableInfoType}
use Rattle.zq_message.specs.declared.message.Zid.{Zid}
use Rattle.zq_strategy.specs.declared.network.Network.{Network}
use Rattle.zq_strategy.specs.declared.network.Telling.{Telling}
use Rattle.zq_strategy.specs.declared.network.Tree.{Tree}
use Rattle.zq_strategy.specs.Nets.{named_trees}
use Rattle.zq_strategy.specs.Networks.{Standing, any_gives, root_told_by, standing_by, trees_told_by}
use Rattle.zq_strategy.specs.Seating.{faces_by}
use Rattle.zq_strategy.specs.Tellings.{children_told, same_infos}
use Rattle.zq_strategy.specs.Kept.{declared_keys}
use Rattle.zq_strategy.specs.Regions.{in_routers, strategy_at}
use Rattle.zq_strategy.specs.Routers.{face_with}
use Rattle.zq_strategy.specs.State.{HatState}

-- the keys on which a region has information
abbrev pub region_keys : HatState → List (List ℕ)
region_keys s = in_routers (strategy_at s) (keys_of s.entries) (declared_keys s.faces)

-- the open faces of ids, without the one that the call came from: where that has the least number of an id, no other takes its place
abbrev pub faces_of : Option ℕ → List Zid → HatState → List ℕ
faces_of from zids s = faces_by from (λ zid. face_with zid s.faces) zids

-- the children of a root's tree are told of a key
abbrev pub to_children : Option ℕ → Zid → List ℕ → Option QueryableInfoType → HatState → List Telling
to_children from root key i s = children_told from (λ zid. face_with zid s.faces) s.network root key i

-- the own entry on a key was this and is that: the children of the gateway's own tree are told of a change
abbrev pub own_told : List ℕ → Option QueryableInfoType → Option QueryableInfoType → HatState → List Telling
own_told key was is s = if same_infos was is then [] else to_children None s.own key is s

-- what stands of a root: a router's entries, or the gateway's own
abbrev pub standing_of : Standing → Zid → HatState → Standing
standing_of own root s = standing_by s.own own s.entries root

-- the new children of a tree of the root are told what stands of it
abbrev pub root_told : Standing → Network → HatState → Zid → Tree → List Telling
root_told own old s root tree = root_told_by (λ z. standing_of own z s) (λ zid. face_with zid s.faces) old s.network root tree

-- the same of each tree that has a node
abbrev pub trees_told : Standing → Network → HatState → List Zid → List Tree → List Telling
trees_told own old s zs ts = trees_told_by (λ z. standing_of own z s) (λ zid. face_with zid s.faces) old s.network zs ts

-- what a network hands in its region, whose hat has it already
abbrev pub network_told : Standing → Network → HatState → List Telling
network_told own old s = trees_told own old s s.network.nodes (named_trees s.network)

-- whether a network gives the gateway's own tree a child that it had not: only then its own entries are handed
abbrev pub gives_own : Network → HatState → Bool
gives_own net s = in_routers (strategy_at s) (any_gives (λ zid. face_with zid s.faces) s.network net s.own net.nodes (named_trees net)) false
