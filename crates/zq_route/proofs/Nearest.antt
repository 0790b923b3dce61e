-- The nearest complete offer, found offer by offer.
use Rattle.std.proofs.Common.{◌≡◌, ◌∙◌, sym, ap, refl, arith, ℕ, ◌<◌, ◌≤◌, Bool, true, false, cond, List, [], ◌∷◌, ◌++◌, take, fold, map, length, get_or, Option, Some, None, ◌⊎◌, inl, inr}
use Rattle.std.specs.Prelude.{◌&&◌, filter, find, option_to_list, slice_get}
use Rattle.std.proofs.lemmas.Option.{slice_get_cases}
use Rattle.std.specs.Option.{option_map_or}
use Rattle.std.specs.Ordering.{is_lt}
use Rattle.std.proofs.lemmas.List.Elements.{filter-append}
use Rattle.zq_strategy.specs.declared.offer.QueryTargetQabl.{QueryTargetQabl}
use Rattle.zq_strategy.specs.OfferOrder.{offer_cmp, place}
use Rattle.zq_route.specs.Selection.{is_complete, nearer, nearest, best_overall, joined}

-- the nearer of what was found and of an offer, where that passes and is complete
abbrev pub with_nearer : (QueryTargetQabl → Bool) → Option QueryTargetQabl → QueryTargetQabl → Option QueryTargetQabl
with_nearer test found o = cond (test o && is_complete o) (nearer found o) found

-- the first of one that is kept and of another is the nearer
pub first_is_nearer : (found : Option QueryTargetQabl) (o : QueryTargetQabl) → take 1 (place offer_cmp (option_to_list found) o) ≡ option_to_list (nearer found o)
first_is_nearer None o = refl
first_is_nearer (Some m) o = by (is_lt (offer_cmp o m)) refl
  where
    by : (b : Bool) → is_lt (offer_cmp o m) ≡ b → take 1 (place offer_cmp (m ∷ []) o) ≡ cond b o m ∷ []
    by true e = rw e refl
    by false e = rw e refl

module _ (test : QueryTargetQabl → Bool) where
  nearest_from : (found : Option QueryTargetQabl) (offers : List QueryTargetQabl) → fold (with_nearer test) found offers ≡ fold nearer found (filter is_complete (filter test offers))
  nearest_from found [] = refl
  nearest_from found (o ∷ os) = by (test o) (is_complete o) refl (λ f. nearest_from f os)
    where
      by : (b c : Bool) → is_complete o ≡ c → ((f : Option QueryTargetQabl) → fold (with_nearer test) f os ≡ fold nearer f (filter is_complete (filter test os)))
          → fold (with_nearer test) (cond (b && c) (nearer found o) found) os ≡ fold nearer found (filter is_complete (cond b (o ∷ filter test os) (filter test os)))
      by true true e more = rw e (more (nearer found o))
      by true false e more = rw e (more found)
      by false c e more = more found

  -- offer by offer it is the nearest of all
  pub nearest_all : (offers : List QueryTargetQabl) → fold (with_nearer test) None offers ≡ nearest (filter is_complete (filter test offers))
  nearest_all offers = nearest_from None offers

  -- what passes of all regions is what passes of each
  pub filter_joined : (parts : List (List QueryTargetQabl)) → filter test (joined parts) ≡ joined (map (filter test) parts)
  filter_joined [] = refl
  filter_joined (part ∷ parts) = filter-append test part (joined parts) ∙ ap (λ l. filter test part ++ l) (filter_joined parts)

-- ---- where one is complete the nearest is there, and where none is, all are kept
found_from : (m : QueryTargetQabl) (os : List QueryTargetQabl) → (x : QueryTargetQabl) × (fold nearer (Some m) os ≡ Some x)
found_from m [] = (m, refl)
found_from m (o ∷ os) = found_from (cond (is_lt (offer_cmp o m)) o m) os

some_nearest : (offers : List QueryTargetQabl) (found : QueryTargetQabl) → find is_complete offers ≡ Some found → (x : QueryTargetQabl) × (nearest (filter is_complete offers) ≡ Some x)
some_nearest [] found e = absurd (cc)
some_nearest (o ∷ os) found e = by (is_complete o) e (some_nearest os found)
  where
    by : (b : Bool) → cond b (Some o) (find is_complete os) ≡ Some found → (find is_complete os ≡ Some found → (x : QueryTargetQabl) × (nearest (filter is_complete os) ≡ Some x))
        → (x : QueryTargetQabl) × (nearest (cond b (o ∷ filter is_complete os) (filter is_complete os)) ≡ Some x)
    by true e more = found_from o (filter is_complete os)
    by false e more = more e

no_nearest : (offers : List QueryTargetQabl) → find is_complete offers ≡ None → filter is_complete offers ≡ []
no_nearest [] e = refl
no_nearest (o ∷ os) e = by (is_complete o) e (no_nearest os)
  where
    by : (b : Bool) → cond b (Some o) (find is_complete os) ≡ None → (find is_complete os ≡ None → filter is_complete os ≡ []) → cond b (o ∷ filter is_complete os) (filter is_complete os) ≡ []
    by true e more = absurd (cc)
    by false e more = more e

pub best_found : (offers : List QueryTargetQabl) (found : QueryTargetQabl) → find is_complete offers ≡ Some found → option_to_list (nearest (filter is_complete offers)) ≡ best_overall offers
best_found offers found e =
    let it = some_nearest offers found e in
    ap option_to_list it.1 ∙ sym (ap (λ o. option_map_or (λ x. x ∷ []) o offers) it.1)

pub best_missing : (offers : List QueryTargetQabl) → find is_complete offers ≡ None → best_overall offers ≡ offers
best_missing offers e = ap (λ l. option_map_or (λ x. x ∷ []) (nearest l) offers) (no_nearest offers e)

-- the same where the complete one is known by its place
pub best_placed : (test : QueryTargetQabl → Bool) (offers : List QueryTargetQabl) (i : ℕ) → i < length offers → find is_complete (filter test offers) ≡ slice_get offers i → option_to_list (nearest (filter is_complete (filter test offers))) ≡ best_overall (filter test offers)
best_placed test offers i inside e = by (slice_get_cases offers i).1
  where
    by : ((x : QueryTargetQabl) × (i < length offers) × (slice_get offers i ≡ Some x) × (get_or offers i x ≡ x)) ⊎ ((length offers ≤ i) × (slice_get offers i ≡ None))
        → option_to_list (nearest (filter is_complete (filter test offers))) ≡ best_overall (filter test offers)
    by (inl there) = best_found (filter test offers) there.0 (e ∙ there.2)
    by (inr past) = absurd (omega (arith, inside, past.0))
