-- Which offers of the regions a request is handed to.
use Rattle.std.specs.Prelude.{ℕ, Bool, true, false, ◌||◌, ◌==◌, not, List, [], ◌∷◌, map, filter, find, fold, is_none, Option, Some, None, if◌then◌else◌}
use Rattle.std.specs.List.{flat_map}
use Rattle.std.specs.Option.{option_map_or}
use Rattle.std.specs.Ordering.{is_lt}
use Rattle.zq_message.specs.declared.message.QueryTarget.{QueryTarget}
use Rattle.zq_message.specs.declared.message.QueryTarget.TheVariants as target
use Rattle.zq_strategy.specs.declared.offer.QueryTargetQabl.{QueryTargetQabl}
use Rattle.zq_strategy.specs.OfferOrder.{offer_cmp}
use Rattle.zq_route.specs.declared.selection.Best.{Best}
use Rattle.zq_route.specs.declared.selection.Best.TheVariants as by
use Rattle.zq_route.specs.Built.{with_first}

-- the offer's information is complete; without information it is not
abbrev pub is_complete : QueryTargetQabl → Bool
is_complete offer = option_map_or (λ i. i.complete) offer.info false

-- the offer is complete, or without information
abbrev pub may_be_complete : QueryTargetQabl → Bool
may_be_complete offer = is_none offer.info || is_complete offer

-- the first complete offer, or all where none is complete
abbrev pub best : List QueryTargetQabl → List QueryTargetQabl
best offers = option_map_or (λ o. o ∷ []) (find is_complete offers) offers

-- the target keeps the offer, where it does not stop at the first complete one
abbrev pub is_kept : QueryTarget → QueryTargetQabl → Bool
is_kept target.All offer = true
is_kept target.AllComplete offer = may_be_complete offer
is_kept target.BestMatching offer = true

-- the offers that the target keeps, where it does not stop at the first complete one
abbrev pub kept : QueryTarget → List QueryTargetQabl → List QueryTargetQabl
kept target.All offers = offers
kept target.AllComplete offers = filter may_be_complete offers
kept target.BestMatching offers = offers

-- what a target picks of the offers that pass
abbrev pub chosen : QueryTarget → List QueryTargetQabl → List QueryTargetQabl
chosen target.All offers = offers
chosen target.AllComplete offers = filter may_be_complete offers
chosen target.BestMatching offers = best offers

-- the one of two offers that comes first by distance, key text and face number
abbrev pub nearer : Option QueryTargetQabl → QueryTargetQabl → Option QueryTargetQabl
nearer None offer = Some offer
nearer (Some first) offer = Some (if is_lt (offer_cmp offer first) then offer else first)

-- the one of offers that comes first by distance, key text and face number
abbrev pub nearest : List QueryTargetQabl → Option QueryTargetQabl
nearest offers = fold nearer None offers

-- the nearest complete offer, or all where none is complete
abbrev pub best_overall : List QueryTargetQabl → List QueryTargetQabl
best_overall offers = option_map_or (λ o. o ∷ []) (nearest (filter is_complete offers)) offers

-- the offers of all regions, one region after the other
abbrev pub joined : List (List QueryTargetQabl) → List QueryTargetQabl
joined parts = flat_map (λ part. part) parts

-- what a target picks of the offers that pass, region by region: in each region for itself, but the best one of all regions together where the choice is overall
abbrev pub picked : Best → QueryTarget → List (List QueryTargetQabl) → List QueryTargetQabl
picked by.Overall target.BestMatching parts = best_overall (joined parts)
picked by.Overall target.All parts = flat_map (chosen target.All) parts
picked by.Overall target.AllComplete parts = flat_map (chosen target.AllComplete) parts
picked by.ByRegion target parts = flat_map (chosen target) parts

-- the offer beside its face
abbrev pub by_face : QueryTargetQabl → ℕ × QueryTargetQabl
by_face offer = (offer.face.0, offer)

-- the route with each offer whose face is not there yet
abbrev pub with_offers : List (ℕ × QueryTargetQabl) → List QueryTargetQabl → List (ℕ × QueryTargetQabl)
with_offers route offers = fold with_first route (map by_face offers)

-- whether two offers are of one face
abbrev pub same_face : QueryTargetQabl → QueryTargetQabl → Bool
same_face a b = a.face.0 == b.face.0

-- each face's first offer
abbrev pub first_of_each_face : List QueryTargetQabl → List QueryTargetQabl
first_of_each_face [] = []
first_of_each_face (offer ∷ offers) = offer ∷ filter (λ later. not (same_face offer later)) (first_of_each_face offers)

-- the route with the offer, if it passes and the target keeps it
abbrev pub with_kept : (QueryTargetQabl → Bool) → QueryTarget → List (ℕ × QueryTargetQabl) → QueryTargetQabl → List (ℕ × QueryTargetQabl)
with_kept test target route offer = if test offer then (if is_kept target offer then with_first route (by_face offer) else route) else route
