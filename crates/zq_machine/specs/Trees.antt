-- What faces are told along the trees of router regions.
use Rattle.std.specs.Prelude.{ℕ, ◌==◌, Bool, List, [], ◌∷◌, fold, Option, Some, None, if◌then◌else◌}
use Rattle.std.specs.BTreeSet.{insert_key}
use Rattle.std.specs.List.{filter_map, flat_map, list_any}
use Rattle.std.specs.Str.{bytes_eq}
use Rattle.std.specs.Option.{option_and_then, option_map, option_map_or, option_to_list}
use Rattle.zq_message.specs.declared.message.FaceId.{FaceId}
use Rattle.zq_message.specs.declared.message.QueryableInfoType.{QueryableInfoType}
use Rattle.zq_message.specs.declared.message.Region.{Region}
use Rattle.zq_message.specs.declared.message.Zid.{Zid}
use Rattle.zq_message.specs.Region.{region_index}
use Rattle.zq_index.specs.Infos.{joined}
use Rattle.zq_index.specs.Texts.{text_cmp}
use Rattle.zq_strategy.specs.declared.network.Telling.{Telling as TreeTelling}
use Rattle.zq_strategy.specs.declared.types.Declaration.{Declaration}
use Rattle.zq_strategy.specs.Kept.{declaration_at, keys_of_face, region_info}
use Rattle.zq_strategy.specs.Regions.{in_routers, strategy_at}
use Rattle.zq_strategy.specs.Routers.{losing, source_at}
use Rattle.zq_strategy.specs.State.{HatState}
use Rattle.zq_strategy.specs.Trees.{network_told, own_told, region_keys, to_children}
use Rattle.zq_machine.specs.Selecting.{full_text}
use Rattle.zq_machine.specs.State.{Core, hat_at, hat_of}
use Rattle.zq_machine.specs.TextCalls.{TextCall, closing, declaring, withdrawing, announcing, retracting, networking}

-- ---- the gateway's own entries in a region: what the other regions have, from scratch

-- a region's information on a key is merged in, if the region is not at the place
abbrev pub with_other : ℕ → List ℕ → Option QueryableInfoType → ℕ × HatState → Option QueryableInfoType
with_other place key m h = if h.0 == place then m else joined m (region_info key h.1)

-- the own entry on a key in the region at the place
abbrev pub own_entry : ℕ → List ℕ → List (ℕ × HatState) → Option QueryableInfoType
own_entry place key hats = fold (with_other place key) None hats

-- a region's keys join others in order, each once, if the region is not at the place
abbrev pub with_other_keys : ℕ → List (List ℕ) → ℕ × HatState → List (List ℕ)
with_other_keys place keys h = if h.0 == place then keys else fold (insert_key text_cmp) keys (region_keys h.1)

-- the keys of the own entries in the region at the place, in order
abbrev pub own_keys : ℕ → List (ℕ × HatState) → List (List ℕ)
own_keys place hats = fold (with_other_keys place) [] hats

-- the own entry on a key with the key, if there is one
abbrev pub keyed_own : ℕ → List (ℕ × HatState) → List ℕ → Option (List ℕ × QueryableInfoType)
keyed_own place hats key = option_map (λ (i : QueryableInfoType). (key, i)) (own_entry place key hats)

-- the own entries in the region at the place, by key
abbrev pub own_entries : ℕ → List (ℕ × HatState) → List (List ℕ × QueryableInfoType)
own_entries place hats = filter_map (keyed_own place hats) (own_keys place hats)

-- ---- changes of own entries

-- the key of the face's declaration under the id, if there is one
abbrev pub withdrawn_key : FaceId → ℕ → Core → List (List ℕ)
withdrawn_key face id c = option_to_list (option_map (λ (d : Declaration). d.key) (option_and_then (declaration_at face.0 id) (hat_of face.0 c)))

-- the keys on which a call may change what a region has
abbrev pub touched : Core → TextCall → List (List ℕ)
touched c (closing face) = option_map_or (keys_of_face face.0) (hat_of face.0 c) []
touched c (declaring face id s info node) = full_text s ∷ []
touched c (withdrawing face id) = withdrawn_key face id c
touched c (announcing face s info node) = full_text s ∷ []
touched c (retracting face s node) = full_text s ∷ []
touched c (networking r net) = option_map_or (losing net) (hat_at r c.hats) []
touched c t = []

-- the key is one of those
abbrev pub is_touched : Core → TextCall → List ℕ → Bool
is_touched c t key = list_any (λ k. bytes_eq k key) (touched c t)

-- what the own entry on a key hands in a region, if it is one of routers, by the hats before and after a call
abbrev pub own_told_in : (before after : List (ℕ × HatState)) → List ℕ → ℕ × HatState → List TreeTelling
own_told_in before after key h = in_routers (strategy_at h.1) (own_told key (own_entry h.0 key before) (own_entry h.0 key after) h.1) []

-- what own entries on a key hand in all regions
abbrev pub own_told_on : (before after : List (ℕ × HatState)) → List ℕ → List TreeTelling
own_told_on before after key = flat_map (own_told_in before after key) after

-- what own entries on keys hand
abbrev pub all_own_told : (before after : List (ℕ × HatState)) → List (List ℕ) → List TreeTelling
all_own_told before after keys = flat_map (own_told_on before after) keys

-- ---- what a region's own tree hands

-- what the entry of the router hands that a node number of the face stands for
abbrev pub source_told : FaceId → ℕ → List ℕ → Option QueryableInfoType → HatState → List TreeTelling
source_told face node key info h = option_map_or (λ (z : Zid). to_children (Some face.0) z key info h) (source_at face.0 node h) []

-- the same in the face's region
abbrev pub router_told : FaceId → ℕ → List ℕ → Option QueryableInfoType → Core → List TreeTelling
router_told face node key info c = option_map_or (source_told face node key info) (hat_of face.0 c) []

-- what a network hands in a region at a place, by the old network, the own entries and the hat after the call
abbrev pub placed_told : List (List ℕ × QueryableInfoType) → HatState → HatState → List TreeTelling
placed_told own old h = in_routers (strategy_at h) (network_told own old.network h) []

-- what a network hands in its region
abbrev pub networked_told : Region → (before after : List (ℕ × HatState)) → List TreeTelling
networked_told r before after = option_map_or (λ (old : HatState). option_map_or (placed_told (own_entries (region_index r) before) old) (hat_at r after) []) (hat_at r before) []

-- what a call hands along the trees of its own region
abbrev pub tree_told : (before after : Core) → TextCall → List TreeTelling
tree_told before after (announcing face s info node) = router_told face node (full_text s) (Some info) before
tree_told before after (retracting face s node) = router_told face node (full_text s) None before
tree_told before after (networking r net) = networked_told r before.hats after.hats
tree_told before after t = []
