-- What a route that takes offers has in the end.
use Rattle.std.proofs.Common.{◌≡◌, ◌∙◌, sym, ap, refl, ℕ, Bool, true, false, cond, List, [], ◌∷◌, ◌++◌, map, append_assoc, eqb-true, subst, true≢false, Option, Some, None}
use Rattle.std.specs.Prelude.{filter, find, not, ◌&&◌, ◌||◌, ◌==◌}
use Rattle.std.specs.Bool.{nat_eq}
use Rattle.std.specs.List.{list_any, IsDistinct}
use Rattle.std.specs.Option.{option_map_or}
use Rattle.std.specs.Map.{keys_of, values_of}
use Rattle.std.specs.Cmp.{nat_eq_equiv}
use Rattle.std.proofs.lemmas.List.{append-nil, map-append}
use Rattle.std.proofs.lemmas.List.Elements.{filter_agree}
use Rattle.std.proofs.lemmas.List.Folds.{list_any-append}
use Rattle.std.proofs.lemmas.Map.Keys.{IsDistinct-push}
use Rattle.std.proofs.Math.Bool.{or_assoc, or-false}
use Rattle.zq_key.proofs.Naturals.{any-map}
use Rattle.zq_message.specs.declared.message.QueryTarget.{QueryTarget}
use Rattle.zq_message.specs.declared.message.QueryTarget.TheVariants as target
use Rattle.zq_strategy.specs.declared.offer.QueryTargetQabl.{QueryTargetQabl}
use Rattle.zq_route.specs.Built.{is_face, has_face, with_first}
use Rattle.zq_route.specs.Selection.{by_face, with_offers, chosen, same_face, first_of_each_face, is_complete, may_be_complete}

-- the offer is of the face
abbrev pub is_of : ℕ → QueryTargetQabl → Bool
is_of face offer = face == offer.face.0

-- ---- one region after the other is all at once
pub with_offers_joined : (route : List (ℕ × QueryTargetQabl)) (a b : List QueryTargetQabl) → with_offers route (a ++ b) ≡ with_offers (with_offers route a) b
with_offers_joined route [] b = refl
with_offers_joined route (o ∷ os) b = with_offers_joined (with_first route (by_face o)) os b

pub offers_by_face : (offers : List QueryTargetQabl) → values_of (map by_face offers) ≡ offers
offers_by_face [] = refl
offers_by_face (o ∷ os) = ap (λ l. o ∷ l) (offers_by_face os)

-- ---- a route from nothing has each face's first offer
-- the offers whose face the route lacks
abbrev is_new : List (ℕ × QueryTargetQabl) → QueryTargetQabl → Bool
is_new route o = not (has_face o.face.0 route)

pushed : (route : List (ℕ × QueryTargetQabl)) (o later : QueryTargetQabl) → has_face later.face.0 (route ++ by_face o ∷ []) ≡ (has_face later.face.0 route || same_face o later)
pushed route o later =
    list_any-append (is_face later.face.0) route (by_face o ∷ [])
    ∙ ap (λ b. has_face later.face.0 route || b) (or-false (later.face.0 == o.face.0) ∙ nat_eq_equiv.symm later.face.0 o.face.0)

module _ (route : List (ℕ × QueryTargetQabl)) (o : QueryTargetQabl) where
  -- where the route has the face, later offers of it are out anyway
  out_by : (later : QueryTargetQabl) (rest : List QueryTargetQabl) (b c : Bool) → has_face o.face.0 route ≡ true → same_face o later ≡ b → is_new route later ≡ c
      → filter (is_new route) (filter (λ x. not (same_face o x)) rest) ≡ filter (is_new route) rest
      → filter (is_new route) (cond (not b) (later ∷ filter (λ x. not (same_face o x)) rest) (filter (λ x. not (same_face o x)) rest)) ≡ cond c (later ∷ filter (is_new route) rest) (filter (is_new route) rest)
  out_by later rest true true has e f ih = absurd (true≢false (sym f ∙ ap (λ n. not (has_face n route)) (sym (eqb-true _ _ e)) ∙ ap not has))
  out_by later rest true false has e f ih = ih
  out_by later rest false c has e f ih = ap (λ d. cond d (later ∷ filter (is_new route) (filter (λ x. not (same_face o x)) rest)) (filter (is_new route) (filter (λ x. not (same_face o x)) rest))) f ∙ ap (λ l. cond c (later ∷ l) l) ih

  out_anyway : (rest : List QueryTargetQabl) → has_face o.face.0 route ≡ true → filter (is_new route) (filter (λ x. not (same_face o x)) rest) ≡ filter (is_new route) rest
  out_anyway [] has = refl
  out_anyway (later ∷ rest) has = out_by later rest (same_face o later) (is_new route later) has refl refl (out_anyway rest has)

  both_by : (later : QueryTargetQabl) (rest : List QueryTargetQabl) (b c : Bool) → same_face o later ≡ b → has_face later.face.0 route ≡ c
      → filter (is_new route) (filter (λ x. not (same_face o x)) rest) ≡ filter (λ x. not (has_face x.face.0 route || same_face o x)) rest
      → filter (is_new route) (cond (not b) (later ∷ filter (λ x. not (same_face o x)) rest) (filter (λ x. not (same_face o x)) rest)) ≡ cond (not (c || b)) (later ∷ filter (λ x. not (has_face x.face.0 route || same_face o x)) rest) (filter (λ x. not (has_face x.face.0 route || same_face o x)) rest)
  both_by later rest true true e f ih = ih
  both_by later rest true false e f ih = ih
  both_by later rest false true e f ih = ap (λ d. cond (not d) (later ∷ filter (is_new route) (filter (λ x. not (same_face o x)) rest)) (filter (is_new route) (filter (λ x. not (same_face o x)) rest))) f ∙ ih
  both_by later rest false false e f ih = ap (λ d. cond (not d) (later ∷ filter (is_new route) (filter (λ x. not (same_face o x)) rest)) (filter (is_new route) (filter (λ x. not (same_face o x)) rest))) f ∙ ap (λ l. later ∷ l) ih

  both : (rest : List QueryTargetQabl) → filter (is_new route) (filter (λ x. not (same_face o x)) rest) ≡ filter (λ x. not (has_face x.face.0 route || same_face o x)) rest
  both [] = refl
  both (later ∷ rest) = both_by later rest (same_face o later) (has_face later.face.0 route) refl refl (both rest)

  new_after : (rest : List QueryTargetQabl) → filter (is_new route) (filter (λ x. not (same_face o x)) rest) ≡ filter (is_new (route ++ by_face o ∷ [])) rest
  new_after rest = both rest ∙ filter_agree (λ x. not (has_face x.face.0 route || same_face o x)) (is_new (route ++ by_face o ∷ [])) (λ x. ap not (sym (pushed route o x))) rest

  firsts_by : (os : List QueryTargetQabl) (b : Bool) → has_face o.face.0 route ≡ b → ((r : List (ℕ × QueryTargetQabl)) → with_offers r os ≡ r ++ map by_face (filter (is_new r) (first_of_each_face os)))
      → with_offers (cond b route (route ++ by_face o ∷ [])) os ≡ route ++ map by_face (cond (not b) (o ∷ filter (is_new route) (filter (λ later. not (same_face o later)) (first_of_each_face os))) (filter (is_new route) (filter (λ later. not (same_face o later)) (first_of_each_face os))))
  firsts_by os true has ih = ih route ∙ ap (λ l. route ++ map by_face l) (sym (out_anyway (first_of_each_face os) has))
  firsts_by os false has ih =
      ih (route ++ by_face o ∷ [])
      ∙ append_assoc route (by_face o ∷ []) (map by_face (filter (is_new (route ++ by_face o ∷ [])) (first_of_each_face os)))
      ∙ ap (λ l. route ++ by_face o ∷ map by_face l) (sym (new_after (first_of_each_face os)))

pub route_has_firsts : (route : List (ℕ × QueryTargetQabl)) (offers : List QueryTargetQabl) → with_offers route offers ≡ route ++ map by_face (filter (is_new route) (first_of_each_face offers))
route_has_firsts route [] = sym (append-nil route)
route_has_firsts route (o ∷ os) = firsts_by route o os (has_face o.face.0 route) refl (λ r. route_has_firsts r os)

all_new : (offers : List QueryTargetQabl) → filter (is_new []) offers ≡ offers
all_new [] = refl
all_new (o ∷ os) = ap (λ l. o ∷ l) (all_new os)

-- what is built of a region's offers, or of several regions' in a row, is each face's first
pub built_firsts : (offers : List QueryTargetQabl) → values_of (with_offers [] offers) ≡ first_of_each_face offers
built_firsts offers =
    ap values_of (route_has_firsts [] offers ∙ ap (map by_face) (all_new (first_of_each_face offers)))
    ∙ offers_by_face (first_of_each_face offers)

-- ---- the faces of a route are those that it had and those of the offers
module _ (face : ℕ) where
  added_by : (route : List (ℕ × QueryTargetQabl)) (o : QueryTargetQabl) (b c : Bool) → has_face o.face.0 route ≡ b → is_of face o ≡ c → has_face face (cond b route (route ++ by_face o ∷ [])) ≡ (has_face face route || c)
  added_by route o true true e f = ap (λ n. has_face n route) (eqb-true _ _ f) ∙ e ∙ sym (ap (λ b. b || true) (ap (λ n. has_face n route) (eqb-true _ _ f) ∙ e))
  added_by route o true false e f = sym (or-false (has_face face route))
  added_by route o false c e f = list_any-append (is_face face) route (by_face o ∷ []) ∙ ap (λ b. has_face face route || b) (or-false (is_of face o) ∙ f)

  pub faces_of_route : (route : List (ℕ × QueryTargetQabl)) (offers : List QueryTargetQabl) → has_face face (with_offers route offers) ≡ (has_face face route || list_any (is_of face) offers)
  faces_of_route route [] = sym (or-false (has_face face route))
  faces_of_route route (o ∷ os) =
      faces_of_route (with_first route (by_face o)) os
      ∙ ap (λ b. b || list_any (is_of face) os) (added_by route o (has_face o.face.0 route) (is_of face o) refl refl)
      ∙ or_assoc (has_face face route) (is_of face o) (list_any (is_of face) os)

-- ---- each face stands in a route once
keys_pushed : (route : List (ℕ × QueryTargetQabl)) (o : QueryTargetQabl) → keys_of (route ++ by_face o ∷ []) ≡ keys_of route ++ o.face.0 ∷ []
keys_pushed route o = map-append (λ (p : ℕ × QueryTargetQabl). p.0) route (by_face o ∷ [])

distinct_by : (route : List (ℕ × QueryTargetQabl)) (o : QueryTargetQabl) (b : Bool) → has_face o.face.0 route ≡ b → IsDistinct nat_eq (keys_of route) → IsDistinct nat_eq (keys_of (cond b route (route ++ by_face o ∷ [])))
distinct_by route o true e d = d
distinct_by route o false e d =
    subst (IsDistinct nat_eq) (sym (keys_pushed route o)) (IsDistinct-push nat_eq_equiv (keys_of route) o.face.0 d (any-map (λ (p : ℕ × QueryTargetQabl). p.0) (nat_eq o.face.0) (is_face o.face.0) (λ p. refl) route ∙ e))

pub faces_distinct : (route : List (ℕ × QueryTargetQabl)) (offers : List QueryTargetQabl) → IsDistinct nat_eq (keys_of route) → IsDistinct nat_eq (keys_of (with_offers route offers))
faces_distinct route [] d = d
faces_distinct route (o ∷ os) d = faces_distinct (with_first route (by_face o)) os (distinct_by route o (has_face o.face.0 route) refl d)

-- ---- a target picks nothing that does not pass
neither : (a b : Bool) → (a || b) ≡ false → (a ≡ false) × (b ≡ false)
neither true b e = absurd (true≢false e)
neither false b e = (refl, e)

module _ (p : QueryTargetQabl → Bool) where
  filter_by : (o : QueryTargetQabl) (kept : List QueryTargetQabl) (b : Bool) → p o ≡ false → list_any p kept ≡ false → list_any p (cond b (o ∷ kept) kept) ≡ false
  filter_by o kept true e ih = ap (λ c. c || list_any p kept) e ∙ ih
  filter_by o kept false e ih = ih

  none_kept : (test : QueryTargetQabl → Bool) (os : List QueryTargetQabl) → list_any p os ≡ false → list_any p (filter test os) ≡ false
  none_kept test [] e = refl
  none_kept test (o ∷ os) e = let parts = neither _ _ e in filter_by o (filter test os) (test o) parts.0 (none_kept test os parts.1)

  found_by : (test : QueryTargetQabl → Bool) (o found : QueryTargetQabl) (rest : Option QueryTargetQabl) (b : Bool) → cond b (Some o) rest ≡ Some found → p o ≡ false → (rest ≡ Some found → p found ≡ false) → p found ≡ false
  found_by test o found rest true is e ih = let same : o ≡ found = cc in ap p (sym same) ∙ e
  found_by test o found rest false is e ih = ih is

  found_fails : (test : QueryTargetQabl → Bool) (os : List QueryTargetQabl) (found : QueryTargetQabl) → find test os ≡ Some found → list_any p os ≡ false → p found ≡ false
  found_fails test [] found is e = absurd (cc)
  found_fails test (o ∷ os) found is e = let parts = neither _ _ e in found_by test o found (find test os) (test o) is parts.0 (λ f. found_fails test os found f parts.1)

  best_by : (os : List QueryTargetQabl) (first : Option QueryTargetQabl) → find is_complete os ≡ first → list_any p os ≡ false → list_any p (option_map_or (λ o. o ∷ []) first os) ≡ false
  best_by os None is e = e
  best_by os (Some o) is e = or-false (p o) ∙ found_fails is_complete os o is e

  pub none_chosen : (by : QueryTarget) (os : List QueryTargetQabl) → list_any p os ≡ false → list_any p (chosen by os) ≡ false
  none_chosen target.All os e = e
  none_chosen target.AllComplete os e = none_kept may_be_complete os e
  none_chosen target.BestMatching os e = best_by os (find is_complete os) refl e

passing_by : (test : QueryTargetQabl → Bool) (o : QueryTargetQabl) (os : List QueryTargetQabl) (b : Bool) → test o ≡ b → list_any (λ x. not (test x)) (filter test os) ≡ false → list_any (λ x. not (test x)) (cond b (o ∷ filter test os) (filter test os)) ≡ false
passing_by test o os true e ih = ap (λ c. not c || list_any (λ x. not (test x)) (filter test os)) e ∙ ih
passing_by test o os false e ih = ih

all_passing : (test : QueryTargetQabl → Bool) (os : List QueryTargetQabl) → list_any (λ o. not (test o)) (filter test os) ≡ false
all_passing test [] = refl
all_passing test (o ∷ os) = passing_by test o os (test o) refl (all_passing test os)

-- no offer that does not pass is picked
pub chosen_pass : (by : QueryTarget) (test : QueryTargetQabl → Bool) (offers : List QueryTargetQabl) → list_any (λ o. not (test o)) (chosen by (filter test offers)) ≡ false
chosen_pass by test offers = none_chosen (λ o. not (test o)) by (filter test offers) (all_passing test offers)

passing_of_by : (face : ℕ) (test : QueryTargetQabl → Bool) (o : QueryTargetQabl) (os : List QueryTargetQabl) (b : Bool) → test o ≡ b → (b && is_of face o) ≡ false → list_any (is_of face) (filter test os) ≡ false → list_any (is_of face) (cond b (o ∷ filter test os) (filter test os)) ≡ false
passing_of_by face test o os true e of ih = ap (λ c. c || list_any (is_of face) (filter test os)) of ∙ ih
passing_of_by face test o os false e of ih = ih

passing_of : (face : ℕ) (test : QueryTargetQabl → Bool) (os : List QueryTargetQabl) → list_any (λ o. test o && is_of face o) os ≡ false → list_any (is_of face) (filter test os) ≡ false
passing_of face test [] e = refl
passing_of face test (o ∷ os) e = let parts = neither _ _ e in passing_of_by face test o os (test o) refl parts.0 (passing_of face test os parts.1)

-- a face that no passing offer has is not added
pub faces_pass : (face : ℕ) (by : QueryTarget) (test : QueryTargetQabl → Bool) (route : List (ℕ × QueryTargetQabl)) (offers : List QueryTargetQabl) → list_any (λ o. test o && is_of face o) offers ≡ false → has_face face (with_offers route (chosen by (filter test offers))) ≡ has_face face route
faces_pass face by test route offers e =
    faces_of_route face route (chosen by (filter test offers))
    ∙ ap (λ b. has_face face route || b) (none_chosen (is_of face) by (filter test offers) (passing_of face test offers e))
    ∙ or-false (has_face face route)
