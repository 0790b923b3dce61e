-- What is selected of what the regions offer, one region after the other.
use Rattle.std.proofs.Common.{◌≡◌, ◌∙◌, sym, ap, refl, ℕ, Bool, true, false, cond, List, [], ◌∷◌, ◌++◌, map, fold, Some}
use Rattle.std.specs.Prelude.{◌||◌}
use Rattle.std.specs.Ordering.{is_lt}
use Rattle.std.specs.List.{filter, flat_map, list_any}
use Rattle.std.specs.Map.{values_of}
use Rattle.std.specs.Option.{option_map_or}
use Rattle.std.proofs.lemmas.List.{append-nil, map-append}
use Rattle.std.proofs.lemmas.List.Concat.{flat_map-append}
use Rattle.std.proofs.lemmas.Bool.{false≢true}
use Rattle.zq_key.proofs.Naturals.{map-map}
use Rattle.zq_message.specs.declared.message.QueryTarget.{QueryTarget}
use Rattle.zq_message.specs.declared.message.QueryTarget.TheVariants as target
use Rattle.zq_strategy.specs.declared.offer.QueryTargetQabl.{QueryTargetQabl}
use Rattle.zq_strategy.specs.State.{HatState}
use Rattle.zq_route.specs.declared.selection.Best.{Best}
use Rattle.zq_route.specs.declared.selection.Best.TheVariants as by
use Rattle.zq_strategy.specs.OfferOrder.{offer_cmp}
use Rattle.zq_route.specs.Selection.{chosen, is_complete, joined, nearer, nearest, picked, with_offers}
use Rattle.zq_route.proofs.SelectionLaws.{with_offers_joined}
use Rattle.zq_machine.specs.Selecting.{AskerState, offers_to, part_for, parts_for, passes}
use Rattle.zq_egress.specs.Nearest.{TakesNearest}
use Rattle.zq_egress.proofs.Nearest.{nearest_complete, nearest_first}

-- a region joins those before it
pub one_more : (test : QueryTargetQabl → Bool) (t : QueryTarget) (earlier : List (List QueryTargetQabl)) (offers : List QueryTargetQabl)
    → with_offers (with_offers [] (flat_map (chosen t) (map (filter test) earlier))) (chosen t (filter test offers)) ≡ with_offers [] (flat_map (chosen t) (map (filter test) (earlier ++ offers ∷ [])))
one_more test t earlier offers =
    let before = flat_map (chosen t) (map (filter test) earlier) in
    let part = chosen t (filter test offers) in
    sym
    (ap (λ ps. with_offers [] (flat_map (chosen t) ps)) (map-append (filter test) earlier (offers ∷ []))
    ∙ ap (with_offers []) (flat_map-append (chosen t) (map (filter test) earlier) (filter test offers ∷ []))
    ∙ ap (λ l. with_offers [] (before ++ l)) (append-nil part)
    ∙ with_offers_joined [] before part)

-- what passes of what each region offers is the region's part
pub parts_of : (a : AskerState) (key : List ℕ) (hats : List HatState) → map (filter (passes a)) (map (offers_to a key) hats) ≡ parts_for a key hats
parts_of a key hats = map-map (offers_to a key) (filter (passes a)) (part_for a key) (λ h. refl) hats

-- ---- the nearest complete offer
found_from : (m : QueryTargetQabl) (os : List QueryTargetQabl) → (x : QueryTargetQabl) × (fold nearer (Some m) os ≡ Some x)
found_from m [] = (m, refl)
found_from m (o ∷ os) = found_from (cond (is_lt (offer_cmp o m)) o m) os

found_nearest : (os : List QueryTargetQabl) → list_any is_complete os ≡ true → (x : QueryTargetQabl) × (nearest (filter is_complete os) ≡ Some x)
found_nearest [] any = absurd (false≢true any)
found_nearest (o ∷ os) any = by (is_complete o) any (found_nearest os)
  where
    by : (b : Bool) → (b || list_any is_complete os) ≡ true → (list_any is_complete os ≡ true → (x : QueryTargetQabl) × (nearest (filter is_complete os) ≡ Some x))
        → (x : QueryTargetQabl) × (nearest (cond b (o ∷ filter is_complete os) (filter is_complete os)) ≡ Some x)
    by true some more = found_from o (filter is_complete os)
    by false some more = more some

-- what is taken of all offers together is the nearest
pub takes_nearest : (best : Best) (t : QueryTarget) (parts : List (List QueryTargetQabl)) → TakesNearest best t (joined parts) (values_of (with_offers [] (picked best t parts)))
takes_nearest by.Overall target.BestMatching parts = λ any.
    let it = found_nearest (joined parts) any in
    (it.0, ap (λ o. values_of (with_offers [] (option_map_or (λ x. x ∷ []) o (joined parts)))) it.1, record { complete = nearest_complete (joined parts) it.0 it.1; first = nearest_first (filter is_complete (joined parts)) it.0 it.1 })
takes_nearest by.Overall target.All parts = tt
takes_nearest by.Overall target.AllComplete parts = tt
takes_nearest by.ByRegion t parts = tt
