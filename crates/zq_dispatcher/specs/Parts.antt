-- What is gathered once, for all faces of a region, of the keys that meet that of an aggregating interest.
use Rattle.std.specs.Prelude.{◌≡◌, ℕ, Bool, ◌&&◌, List, [], map, Option, Some, None, if◌then◌else◌}
use Rattle.std.specs.BTreeMap.{insert_entry}
use Rattle.std.specs.Option.{option_and_then, option_map, option_map_or}
use Rattle.std.specs.Ordering.{nat_cmp}
use Rattle.zq_message.specs.declared.message.QueryableInfoType.{QueryableInfoType}
use Rattle.zq_message.specs.declared.message.Region.{Region}
use Rattle.zq_message.specs.Region.{region_index}
use Rattle.zq_key.specs.Key.{includes}
use Rattle.zq_index.specs.Infos.{joined}
use Rattle.zq_index.specs.Texts.{at_text, has_text, text_cmp}
use Rattle.zq_strategy.specs.declared.types.Change.{Change}
use Rattle.zq_strategy.specs.Changes.{changed_if}
use Rattle.zq_strategy.specs.Fellows.{fellow_info}
use Rattle.zq_strategy.specs.Regions.{same_region, strategy_at}
use Rattle.zq_strategy.specs.State.{HatState}
use Rattle.zq_machine.specs.Due.{heard_by}
use Rattle.zq_machine.specs.State.{at, is_region}
use Rattle.zq_machine.specs.Trees.{own_entry}
use Rattle.zq_dispatcher.specs.declared.folded.Part.{Part}
use Rattle.zq_dispatcher.specs.declared.types.RegionChange.{RegionChange}
use Rattle.zq_dispatcher.specs.Dues.{hats_after, parts}

-- the hats on a key, which the change reaches or not
abbrev pub hats_on : Bool → Option RegionChange → List ℕ → List (ℕ × HatState) → List (ℕ × HatState)
hats_on changes next key hats = if changes then hats_after next key hats else hats

-- what is gathered, for the region at the place, of a key that meets the other
abbrev pub part_at : Option RegionChange → List (List ℕ) → ℕ → List (ℕ × HatState) → List ℕ → List ℕ → Part
part_at next touched place hats key k = record { key = k; changes = has_text k touched; covers = includes k key; others = own_entry place k (hats_on (has_text k touched) next k hats) }

-- the same of all keys that meet it
abbrev pub gathered : Option RegionChange → List (List ℕ) → ℕ → List (ℕ × HatState) → List ℕ → List Part
gathered next touched place hats key = map (part_at next touched place hats key) (parts touched hats key)

-- ---- what a face hears of it

-- the change of the region's hat, if it is that which changes
abbrev pub change_of : Option RegionChange → Region → Option Change
change_of next r = option_and_then (λ (c : RegionChange). if same_region r c.region then Some c.change else None) next

-- what a face of the hat will hear on the key
abbrev pub heard_part : HatState → Option Change → ℕ → Part → Option QueryableInfoType
heard_part h change face p = heard_by (strategy_at h) (fellow_info face p.key (changed_if (if p.changes then change else None) p.key h)) p.others

-- as a part of the entry it is complete only if its key includes the other
abbrev pub seen_as : Bool → Option QueryableInfoType → Option QueryableInfoType
seen_as covers i = option_map (λ (q : QueryableInfoType). record { complete = q.complete && covers; distance = q.distance }) i

-- it joins the entry
abbrev pub with_heard : HatState → Option Change → ℕ → Option QueryableInfoType → Part → Option QueryableInfoType
with_heard h change face m p = joined m (seen_as p.covers (heard_part h change face p))

-- ---- what was gathered before

-- what was gathered, by the place of the region and the key
abbrev pub Folds : Type 0
Folds = List (ℕ × List (List ℕ × List Part))

-- at the region's place
abbrev pub folds_of : ℕ → Folds → List (List ℕ × List Part)
folds_of place folds = option_map_or (λ ks. ks) (at place folds) []

-- for the region, which may have a hat, of the key
abbrev pub fold_at : Region → List ℕ → Folds → Option (List Part)
fold_at r key folds = if is_region r then at_text key (folds_of (region_index r) folds) else None

-- this is kept besides, if the region may have a hat
abbrev pub with_fold : Region → List ℕ → List Part → Folds → Folds
with_fold r key ps folds = if is_region r then insert_entry nat_cmp folds (region_index r) (insert_entry text_cmp (folds_of (region_index r) folds) key ps) else folds

-- each is what is gathered for the region at its place of its key
abbrev pub AreGathered : Option RegionChange → List (List ℕ) → List (ℕ × HatState) → Folds → Type 0
AreGathered next touched hats folds = (place : ℕ) (key : List ℕ) (ps : List Part) → at_text key (folds_of place folds) ≡ Some ps → ps ≡ gathered next touched place hats key
