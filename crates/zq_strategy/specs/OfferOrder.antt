-- What is offered for a request by those who declared keys, and in which order.
use Rattle.std.specs.Prelude.{ℕ, ◌-◌, ◌≡◌, ◌==◌, Bool, true, false, ◌&&◌, List, [], ◌∷◌, fold, length, map, Option, Some, None, if◌then◌else◌}
use Rattle.std.specs.List.{suffix_len, insert}
use Rattle.std.specs.Option.{option_map_or, option_to_list}
use Rattle.std.specs.declared.cmp.Ordering.{Ordering}
use Rattle.std.specs.Ordering.{nat_cmp, ordering_then, is_lt}
use Rattle.zq_message.specs.declared.message.QueryableInfoType.{QueryableInfoType}
use Rattle.zq_message.specs.declared.message.Region.{Region}
use Rattle.zq_message.specs.declared.message.Region.TheVariants as region
use Rattle.zq_key.specs.Key.{intersects, includes, is_key}
use Rattle.zq_index.specs.Infos.{merge}
use Rattle.zq_index.specs.Texts.{text_cmp}
use Rattle.zq_index.specs.Holders.{Holdings}
use Rattle.zq_strategy.specs.declared.offer.QueryTargetQabl.{QueryTargetQabl}

-- x is put before the greater elements that end the list
abbrev pub place : {X : Type 0} → (X → X → Ordering) → List X → X → List X
place cmp xs x = insert xs (length xs - suffix_len (λ y. is_lt (cmp x y)) xs) x

-- the elements in order, equal ones as they came
abbrev pub sorted : {X : Type 0} → (X → X → Ordering) → List X → List X
sorted cmp xs = fold (place cmp) [] xs

-- the distance of an offer; without information it is the greatest
abbrev pub distance : QueryTargetQabl → ℕ
distance o = option_map_or (λ i. i.distance) o.info 65535

-- by distance, key text and face
abbrev pub offer_cmp : QueryTargetQabl → QueryTargetQabl → Ordering
offer_cmp a b = ordering_then (nat_cmp (distance a) (distance b)) (ordering_then (text_cmp a.key b.key) (nat_cmp a.face.0 b.face.0))

-- whether a region is the local one
abbrev pub is_local : Region → Bool
is_local region.North = false
is_local region.Local = true
is_local (region.South id m) = false

-- what is offered of an information on a declared key: complete only if the key includes the request's
abbrev pub offered : List ℕ → List ℕ → Region → QueryableInfoType → QueryableInfoType
offered q key region i = record { complete = i.complete && includes key q; distance = if is_local region then 0 else 1 }

-- the offer of a face for a declared key
abbrev pub offer_of : Region → List ℕ → List ℕ → ℕ → QueryableInfoType → QueryTargetQabl
offer_of region q key number i = record { face = record { 0 = number }; info = Some (offered q key region i); key = key; region = region; node = 0 }

-- the declarations' informations, merged for each face, where those of a face stand in a row
abbrev pub groups_from : Option (ℕ × QueryableInfoType) → Holdings → List (ℕ × QueryableInfoType)
groups_from group [] = option_to_list group
groups_from None (h ∷ hs) = groups_from (Some (h.0.0, h.1)) hs
groups_from (Some g) (h ∷ hs) = if g.0 == h.0.0 then groups_from (Some (g.0, merge g.1 h.1)) hs else g ∷ groups_from (Some (h.0.0, h.1)) hs

-- the offer for a face's information
abbrev pub group_offer : Region → List ℕ → List ℕ → ℕ × QueryableInfoType → QueryTargetQabl
group_offer region q key g = offer_of region q key g.0 g.1

-- the same where it is known whether the key includes the request's
abbrev pub met_offer : Region → Bool → List ℕ → ℕ × QueryableInfoType → QueryTargetQabl
met_offer region included key g = record { face = record { 0 = g.0 }; info = Some (record { complete = g.1.complete && included; distance = if is_local region then 0 else 1 }); key = key; region = region; node = 0 }

-- what is offered by faces' declarations on a key, one offer for each face
abbrev pub face_offers : Region → List ℕ → List ℕ × Holdings → List QueryTargetQabl
face_offers region q e = map (group_offer region q e.0) (groups_from None e.1)

-- what is offered on a declared key, if it meets the request's
abbrev pub met_offers : {V : Type 0} → (List ℕ × V → List QueryTargetQabl) → List ℕ → List ℕ × V → List QueryTargetQabl
met_offers met q e = if intersects e.0 q then met e else []

-- what is offered by faces' declarations on a key, if it meets the request's
abbrev pub holder_offers : Region → List ℕ → List ℕ × Holdings → List QueryTargetQabl
holder_offers region q e = met_offers (face_offers region q) q e

-- the entry's text is a key
abbrev pub IsKeyed : {V : Type 0} → List ℕ × V → Type 0
IsKeyed e = is_key e.0 ≡ true
