-- What is due to an open face, by the hats of the regions as they are or as a change of one of them will make them.
use Rattle.std.specs.Prelude.{◌≡◌, ℕ, Bool, ◌&&◌, false, true, not, List, [], ◌∷◌, filter, fold, Option, Some, None, if◌then◌else◌}
use Rattle.std.specs.BTreeSet.{insert_key}
use Rattle.std.specs.Option.{is_some, option_map, option_map_or}
use Rattle.std.specs.List.{AllByRecursion}
use Rattle.zq_message.specs.declared.message.QueryableInfoType.{QueryableInfoType}
use Rattle.zq_key.specs.Key.{intersects, is_key}
use Rattle.zq_index.specs.Texts.{has_text, text_cmp}
use Rattle.zq_strategy.specs.Changes.{changed_by}
use Rattle.zq_strategy.specs.Kept.{region_info}
use Rattle.zq_strategy.specs.Regions.{is_north, strategy_at}
use Rattle.zq_strategy.specs.State.{HatState}
use Rattle.zq_told.specs.ToldSets.{ToldSets, told_at}
use Rattle.zq_told.specs.Telling.{KeyDue}
use Rattle.zq_machine.specs.declared.face.OpenFace.{OpenFace}
use Rattle.zq_machine.specs.Due.{folded_over, heard_as, listens_by, with_region_keys}
use Rattle.zq_machine.specs.State.{Core, at, change_hat, hat_at}
use Rattle.zq_dispatcher.specs.declared.entries.NewInfo.{NewInfo}
use Rattle.zq_dispatcher.specs.declared.asking.Asking.{Asking}
use Rattle.zq_dispatcher.specs.declared.types.RegionChange.{RegionChange}

-- the hats after the change, on a key
abbrev pub hats_next : RegionChange → List ℕ → List (ℕ × HatState) → List (ℕ × HatState)
hats_next c key hats = change_hat c.region (changed_by c.change key) hats

-- the same, if there is a change
abbrev pub hats_after : Option RegionChange → List ℕ → List (ℕ × HatState) → List (ℕ × HatState)
hats_after next key hats = option_map_or (λ (c : RegionChange). hats_next c key hats) next hats

-- what the changed region will have on the key, if it has a hat
abbrev pub new_info : RegionChange → List ℕ → List (ℕ × HatState) → Option NewInfo
new_info c key hats = option_map (λ (h : HatState). record { region = c.region; info = region_info key (changed_by c.change key h) }) (hat_at c.region hats)

-- a face of the hat that asks for a key, or not, is interested in it
abbrev pub hears_as : Bool → HatState → Bool
hears_as asks h = listens_by (strategy_at h) (is_north h.region) asks

-- an open face does
abbrev pub listens_as : Bool → List (ℕ × HatState) → OpenFace → Bool
listens_as asks hats o = option_map_or (hears_as asks) (hat_at o.region hats) false

-- the keys on which regions have information, each once, in order
abbrev pub all_keys : List (ℕ × HatState) → List (List ℕ)
all_keys hats = fold with_region_keys [] hats

-- each is a key
abbrev pub AreKeys : List (List ℕ) → Type 0
AreKeys keys = AllByRecursion (λ key. is_key key ≡ true) keys

-- ---- where a hat changes, and what is heard changes on some keys alone

-- what an open face will hear on the key: on those keys by the hats after the change, and elsewhere what it hears
abbrev pub heard_at : Option RegionChange → List (List ℕ) → ℕ → OpenFace → List (ℕ × HatState) → List ℕ → Option QueryableInfoType
heard_at next touched face o hats key = if has_text key touched then heard_as face key (hats_after next key hats) o else heard_as face key hats o

-- a key joins others, if it meets the key
abbrev pub put_if_meets : List ℕ → List (List ℕ) → List ℕ → List (List ℕ)
put_if_meets key ks k = if intersects k key then insert_key text_cmp ks k else ks

-- the keys that meet the key on which regions have information, or may have it after the change, each once, in order
abbrev pub parts : List (List ℕ) → List (ℕ × HatState) → List ℕ → List (List ℕ)
parts touched hats key = fold (put_if_meets key) (filter (λ k. intersects k key) (all_keys hats)) touched

-- what an open face will hear on all keys that meet the key, aggregated
abbrev pub folded_as : Option RegionChange → List (List ℕ) → ℕ → OpenFace → List (ℕ × HatState) → List ℕ → Option QueryableInfoType
folded_as next touched face o hats key = folded_over (heard_at next touched face o hats) (parts touched hats key) key

-- what there will be for it at a key, for which it asks aggregated or not
abbrev pub meant_as : Bool → Option RegionChange → List (List ℕ) → ℕ → OpenFace → List (ℕ × HatState) → List ℕ → Option QueryableInfoType
meant_as folds next touched face o hats key = if not (listens_as false hats o) && folds then folded_as next touched face o hats key else heard_at next touched face o hats key

-- what will be due to it on a key of which it asks this
abbrev pub due_as : Asking → Option RegionChange → List (List ℕ) → ℕ → OpenFace → List (ℕ × HatState) → List ℕ → Option QueryableInfoType
due_as a next touched face o hats key = if listens_as a.asks hats o then meant_as a.folds next touched face o hats key else None

-- a key with what will be due there, if the face is interested
abbrev pub listed_due : (List ℕ → Asking) → Option RegionChange → List (List ℕ) → ℕ → OpenFace → List (ℕ × HatState) → List ℕ → List KeyDue
listed_due asks next touched face o hats key = if listens_as (asks key).asks hats o then (key, due_as (asks key) next touched face o hats key) ∷ [] else []

-- a key with what is due there
abbrev pub row_as : (List ℕ → Asking) → ℕ → OpenFace → List (ℕ × HatState) → List ℕ → KeyDue
row_as asks face o hats key = (key, due_as (asks key) None [] face o hats key)

-- ---- keys that a face was told

-- the face was told of the key
abbrev pub was_told : ℕ → ToldSets → List ℕ → Bool
was_told face ears key = is_some (told_at face key ears)

-- ---- the same of what decides after a call

-- on each other key than these what decides after the call has faces that are open hear what they heard
abbrev pub IsBeside : Core → List (ℕ × HatState) → List (List ℕ) → Type 0
IsBeside c hats keys = (face : ℕ) (o : OpenFace) → at face c.faces ≡ Some o → (key : List ℕ) → has_text key keys ≡ false → heard_as face key c.hats o ≡ heard_as face key hats o

-- the hats after the change are those that decide, on each of the keys; and on each other key faces that are open hear what they heard
pub record IsAfter (c : Core) (next : Option RegionChange) (hats : List (ℕ × HatState)) (keys : List (List ℕ)) : Type 0 where
  pub after : AllByRecursion (λ key. hats_after next key hats ≡ c.hats) keys
  pub beside : IsBeside c hats keys
