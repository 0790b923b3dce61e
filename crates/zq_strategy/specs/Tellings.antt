-- What faces are told along trees, and in which order.
use Rattle.std.specs.Prelude.{ℕ, Bool, true, false, List, [], map, fold, Option, Some, None}
use Rattle.std.specs.Option.{option_map_or}
use Rattle.std.specs.BTreeSet.{insert_key}
use Rattle.std.specs.Ordering.{nat_cmp, ordering_then}
use Rattle.std.specs.declared.cmp.Ordering.{Ordering}
use Rattle.zq_message.specs.declared.message.QueryableInfoType.{QueryableInfoType}
use Rattle.zq_message.specs.declared.message.Zid.{Zid}
use Rattle.zq_index.specs.Infos.{same_info}
use Rattle.zq_index.specs.Texts.{text_cmp}
use Rattle.zq_strategy.specs.declared.network.Network.{Network}
use Rattle.zq_strategy.specs.declared.network.Telling.{Telling}
use Rattle.zq_strategy.specs.Nets.{children_of, place_of}
use Rattle.zq_strategy.specs.Seating.{faces_by}

-- a face is told of a key of the root at the place
abbrev pub tree_telling : List ℕ → Option QueryableInfoType → ℕ → ℕ → Telling
tree_telling key i node n = record { face = record { 0 = n }; id = 0; key = key; info = i; node = node }

-- the open faces on the children of a root's tree are told of a key, where faces are found by their ids
abbrev pub children_told : Option ℕ → (Zid → Option ℕ) → Network → Zid → List ℕ → Option QueryableInfoType → List Telling
children_told from face net root key i = option_map_or (λ node. map (tree_telling key i node) (faces_by from face (children_of net root))) (place_of net root) []

-- a face is told all that stands of the root at the place
abbrev pub all_told_of : List (List ℕ × QueryableInfoType) → ℕ → ℕ → List Telling
all_told_of standing node n = map (λ (e : List ℕ × QueryableInfoType). tree_telling e.0 (Some e.1) node n) standing

-- both or neither are there, and they are the same
abbrev pub same_infos : Option QueryableInfoType → Option QueryableInfoType → Bool
same_infos None None = true
same_infos None (Some b) = false
same_infos (Some a) None = false
same_infos (Some a) (Some b) = same_info a b

-- by face, key text and node
abbrev pub telling_cmp : Telling → Telling → Ordering
telling_cmp a b = ordering_then (nat_cmp a.face.0 b.face.0) (ordering_then (text_cmp a.key b.key) (nat_cmp a.node b.node))

-- in order, each once
abbrev pub in_order : List Telling → List Telling
in_order ts = fold (insert_key telling_cmp) [] ts
