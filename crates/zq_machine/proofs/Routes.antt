-- Routes over the regions: each face stands once, and the asker is not among them.
use Rattle.std.proofs.Common.{◌≡◌, ℕ, Bool, true, false, cond, not, List, [], ◌∷◌, ◌++◌, map, Option, Some, None, refl, sym, ap, ◌∙◌, true≢false, ne_eqb, eq-eqb}
use Rattle.std.specs.List.{AllByRecursion, filter, flat_map, list_any}
use Rattle.std.specs.Prelude.{find, fold, ◌==◌, ◌&&◌}
use Rattle.std.specs.Option.{option_map_or}
use Rattle.std.specs.Ordering.{is_lt}
use Rattle.std.proofs.lemmas.Bool.{and_parts, not-true, or_parts}
use Rattle.std.specs.Map.{keys_of, values_of}
use Rattle.zq_message.specs.declared.message.FaceId.{FaceId}
use Rattle.zq_message.specs.declared.message.QueryTarget.{QueryTarget}
use Rattle.zq_message.specs.declared.message.QueryTarget.TheVariants as mode
use Rattle.zq_message.specs.declared.message.Request.{Request}
use Rattle.zq_strategy.specs.declared.offer.QueryTargetQabl.{QueryTargetQabl}
use Rattle.zq_strategy.specs.OfferOrder.{offer_cmp}
use Rattle.zq_strategy.specs.State.{HatState}
use Rattle.zq_query.specs.Asking.{are_distinct, face_numbers}
use Rattle.zq_route.specs.Built.{has_face, with_first}
use Rattle.zq_route.specs.declared.selection.Best.{Best}
use Rattle.zq_route.specs.declared.selection.Best.TheVariants as choice
use Rattle.zq_route.specs.Selection.{best_overall, by_face, chosen, is_complete, joined, may_be_complete, nearer, nearest, picked, with_offers}
use Rattle.zq_machine.specs.declared.face.OpenFace.{OpenFace}
use Rattle.zq_tables.specs.declared.resolved.Resolved.{Resolved}
use Rattle.zq_machine.specs.Asked.{is_own}
use Rattle.zq_machine.specs.Selecting.{AskerState, asker_in, carries_between, filter_for, offers_to, full_text, parts_for, passes, route_for, says_key, select, select_for, target_of}
use Rattle.zq_machine.specs.State.{Core, at}

-- the offers of a route stand beside their faces, each face once
pub record IsRoute (r : List (ℕ × QueryTargetQabl)) : Type 0 where
  pub faces : face_numbers (map target_of (values_of r)) ≡ keys_of r
  pub once : are_distinct (keys_of r) ≡ true

faces_more : (r : List (ℕ × QueryTargetQabl)) (o : QueryTargetQabl) → face_numbers (map target_of (values_of r)) ≡ keys_of r → face_numbers (map target_of (values_of (r ++ by_face o ∷ []))) ≡ keys_of (r ++ by_face o ∷ [])
faces_more [] o e = refl
faces_more (p ∷ r) o e =
    let head : p.1.face.0 ≡ p.0 = cc in
    let tail : face_numbers (map target_of (values_of r)) ≡ keys_of r = cc in
    λ i. head i ∷ faces_more r o tail i

any_more : (n y : ℕ) (xs : List ℕ) → list_any (λ z. z == n) xs ≡ false → (y == n) ≡ false → list_any (λ z. z == n) (xs ++ y ∷ []) ≡ false
any_more n y [] e h = rw h refl
any_more n y (x ∷ xs) e h =
    let p = or_parts (x == n) (list_any (λ z. z == n) xs) e in
    rw (p.0, any_more n y xs p.1 h) refl

turned : (a b : ℕ) (c : Bool) → (a == b) ≡ c → c ≡ false → (b == a) ≡ false
turned a b c e h = ne_eqb b a (λ g. true≢false (sym (eq-eqb a b (sym g)) ∙ (e ∙ h)))

distinct_more : (r : List (ℕ × QueryTargetQabl)) (n : ℕ) → are_distinct (keys_of r) ≡ true → has_face n r ≡ false → are_distinct (keys_of r ++ n ∷ []) ≡ true
distinct_more [] n e h = refl
distinct_more (p ∷ r) n e h =
    let q = and_parts (not (list_any (λ y. y == p.0) (keys_of r))) (are_distinct (keys_of r)) e in
    let k = or_parts (n == p.0) (has_face n r) h in
    rw (any_more p.0 n (keys_of r) (not-true (list_any (λ y. y == p.0) (keys_of r)) q.0) k.0, distinct_more r n q.1 k.1) refl

keys_more : (r : List (ℕ × QueryTargetQabl)) (o : QueryTargetQabl) → keys_of (r ++ by_face o ∷ []) ≡ keys_of r ++ o.face.0 ∷ []
keys_more [] o = refl
keys_more (p ∷ r) o = ap (λ l. p.0 ∷ l) (keys_more r o)

first_route : (r : List (ℕ × QueryTargetQabl)) (o : QueryTargetQabl) → IsRoute r → IsRoute (with_first r (by_face o))
first_route r o is = at (has_face o.face.0 r) refl
  where
    at : (b : Bool) → has_face o.face.0 r ≡ b → IsRoute (cond b r (r ++ by_face o ∷ []))
    at true e = is
    at false e = record { faces = faces_more r o is.faces; once = ap are_distinct (keys_more r o) ∙ distinct_more r o.face.0 is.once e }

offers_route : (os : List QueryTargetQabl) (r : List (ℕ × QueryTargetQabl)) → IsRoute r → IsRoute (with_offers r os)
offers_route [] r is = is
offers_route (o ∷ os) r is = offers_route os (with_first r (by_face o)) (first_route r o is)

-- each face is selected once
pub route_distinct : (os : List QueryTargetQabl) → are_distinct (face_numbers (map target_of (values_of (with_offers [] os)))) ≡ true
route_distinct os =
    let is = offers_route os [] (record { faces = refl; once = refl }) in
    ap are_distinct is.faces ∙ is.once

-- ---- the asker is not among them
module _ {X : Type 0} (p : X → Bool) where
  pub none_filtered : (test : X → Bool) (xs : List X) → list_any p xs ≡ false → list_any p (filter test xs) ≡ false
  none_filtered test [] e = refl
  none_filtered test (x ∷ xs) e = by (test x) (none_filtered test xs parts.1)
    where
      parts : (p x ≡ false) × (list_any p xs ≡ false)
      parts = or_parts (p x) (list_any p xs) e

      by : (b : Bool) → list_any p (filter test xs) ≡ false → list_any p (cond b (x ∷ filter test xs) (filter test xs)) ≡ false
      by true rest = rw (parts.0, rest) refl
      by false rest = rest

  none_found : (test : X → Bool) (xs ys : List X) → list_any p xs ≡ false → list_any p ys ≡ false → list_any p (option_map_or (λ x. x ∷ []) (find test xs) ys) ≡ false
  none_found test [] ys e h = h
  none_found test (x ∷ xs) ys e h = by (test x) (none_found test xs ys parts.1 h)
    where
      parts : (p x ≡ false) × (list_any p xs ≡ false)
      parts = or_parts (p x) (list_any p xs) e

      by : (b : Bool) → list_any p (option_map_or (λ z. z ∷ []) (find test xs) ys) ≡ false → list_any p (option_map_or (λ z. z ∷ []) (cond b (Some x) (find test xs)) ys) ≡ false
      by true rest = rw parts.0 refl
      by false rest = rest

  none_pushed : (r : List (ℕ × X)) (e : ℕ × X) → list_any p (values_of r) ≡ false → p e.1 ≡ false → list_any p (values_of (r ++ e ∷ [])) ≡ false
  none_pushed [] e none h = rw h refl
  none_pushed (x ∷ r) e none h =
      let parts = or_parts (p x.1) (list_any p (values_of r)) none in
      rw (parts.0, none_pushed r e parts.1 h) refl

pub none_chosen : (p : QueryTargetQabl → Bool) (target : QueryTarget) (os : List QueryTargetQabl) → list_any p os ≡ false → list_any p (chosen target os) ≡ false
none_chosen p mode.All os e = e
none_chosen p mode.AllComplete os e = none_filtered p may_be_complete os e
none_chosen p mode.BestMatching os e = none_found p is_complete os os e e

none_first : (p : QueryTargetQabl → Bool) (r : List (ℕ × QueryTargetQabl)) (o : QueryTargetQabl) → list_any p (values_of r) ≡ false → p o ≡ false → list_any p (values_of (with_first r (by_face o))) ≡ false
none_first p r o none h = by (has_face o.face.0 r)
  where
    by : (b : Bool) → list_any p (values_of (cond b r (r ++ by_face o ∷ []))) ≡ false
    by true = none
    by false = none_pushed p r (by_face o) none h

pub none_offered : (p : QueryTargetQabl → Bool) (os : List QueryTargetQabl) (r : List (ℕ × QueryTargetQabl)) → list_any p (values_of r) ≡ false → list_any p os ≡ false → list_any p (values_of (with_offers r os)) ≡ false
none_offered p [] r none h = none
none_offered p (o ∷ os) r none h =
    let parts = or_parts (p o) (list_any p os) h in
    none_offered p os (with_first r (by_face o)) (none_first p r o none parts.0) parts.1

-- ---- what fails for every offer that passes fails for what is picked of them
module _ (p : QueryTargetQabl → Bool) where
  abbrev NoneOf : List QueryTargetQabl → Type 0
  NoneOf os = list_any p os ≡ false

  none_appended : (xs ys : List QueryTargetQabl) → NoneOf xs → NoneOf ys → NoneOf (xs ++ ys)
  none_appended [] ys e h = h
  none_appended (x ∷ xs) ys e h =
      let parts = or_parts (p x) (list_any p xs) e in
      rw (parts.0, none_appended xs ys parts.1 h) refl

  none_of_each : (f : List QueryTargetQabl → List QueryTargetQabl) → ((os : List QueryTargetQabl) → NoneOf os → NoneOf (f os)) → (parts : List (List QueryTargetQabl)) → AllByRecursion NoneOf parts → NoneOf (flat_map f parts)
  none_of_each f none [] all = refl
  none_of_each f none (os ∷ parts) all = none_appended (f os) (flat_map f parts) (none os all.0) (none_of_each f none parts all.1)

  -- the nearest is one of them
  abbrev NotFound : Option QueryTargetQabl → Type 0
  NotFound None = Unit {0}
  NotFound (Some o) = p o ≡ false

  none_nearer : (m : Option QueryTargetQabl) (o : QueryTargetQabl) → NotFound m → p o ≡ false → NotFound (nearer m o)
  none_nearer None o none h = h
  none_nearer (Some m) o none h = by (is_lt (offer_cmp o m))
    where
      by : (b : Bool) → p (cond b o m) ≡ false
      by true = h
      by false = none

  none_nearest : (m : Option QueryTargetQabl) (os : List QueryTargetQabl) → NotFound m → NoneOf os → NotFound (fold nearer m os)
  none_nearest m [] none e = none
  none_nearest m (o ∷ os) none e =
      let parts = or_parts (p o) (list_any p os) e in
      none_nearest (nearer m o) os (none_nearer m o none parts.0) parts.1

  none_best : (found : Option QueryTargetQabl) (os : List QueryTargetQabl) → NotFound found → NoneOf os → NoneOf (option_map_or (λ o. o ∷ []) found os)
  none_best None os none e = e
  none_best (Some o) os none e = rw none refl

  none_overall : (os : List QueryTargetQabl) → NoneOf os → NoneOf (best_overall os)
  none_overall os e = none_best (nearest (filter is_complete os)) os (none_nearest None (filter is_complete os) tt (none_filtered p is_complete os e)) e

  none_picked : (best : Best) (target : QueryTarget) (parts : List (List QueryTargetQabl)) → AllByRecursion NoneOf parts → NoneOf (picked best target parts)
  none_picked choice.Overall mode.BestMatching parts all = none_overall (joined parts) (none_of_each (λ part. part) (λ _ e. e) parts all)
  none_picked choice.Overall mode.All parts all = none_of_each (chosen mode.All) (none_chosen p mode.All) parts all
  none_picked choice.Overall mode.AllComplete parts all = none_of_each (chosen mode.AllComplete) (none_chosen p mode.AllComplete) parts all
  none_picked choice.ByRegion target parts all = none_of_each (chosen target) (none_chosen p target) parts all

  none_routed : (best : Best) (target : QueryTarget) (parts : List (List QueryTargetQabl)) → AllByRecursion NoneOf parts → list_any p (values_of (with_offers [] (picked best target parts))) ≡ false
  none_routed best target parts all = none_offered p (picked best target parts) [] refl (none_picked best target parts all)

  none_in_parts : (a : AskerState) (key : List ℕ) (hats : List HatState) → AllByRecursion (λ h. NoneOf (offers_to a key h)) hats → AllByRecursion NoneOf (parts_for a key hats)
  none_in_parts a key [] all = tt
  none_in_parts a key (h ∷ hats) all = (none_filtered p (passes a) (offers_to a key h) all.0, none_in_parts a key hats all.1)

  -- so it fails where it fails for every offer of every hat
  pub none_in_route : (c : Core) (a : AskerState) (key : List ℕ) (target : QueryTarget) → AllByRecursion (λ h. list_any p (offers_to a key h) ≡ false) (values_of c.hats) → list_any p (values_of (route_for c a key target)) ≡ false
  none_in_route c a key target all = none_routed c.config.best target (parts_for a key (values_of c.hats)) (none_in_parts a key (values_of c.hats) all)

module _ (a : AskerState) where
  none_own : (os : List QueryTargetQabl) → list_any (is_own a.face) (filter (passes a) os) ≡ false
  none_own [] = refl
  none_own (o ∷ os) = by (o.face.0 == a.face.0) (carries_between a.tables a.own (filter_for a o)) refl (none_own os)
    where
      rest : List QueryTargetQabl
      rest = filter (passes a) os

      by : (own b : Bool) → (o.face.0 == a.face.0) ≡ own → list_any (is_own a.face) rest ≡ false → list_any (is_own a.face) (cond (not own && b) (o ∷ rest) rest) ≡ false
      by true b e none = none
      by false false e none = none
      by false true e none = rw (e, none) refl

  no_part_own : (key : List ℕ) (hats : List HatState) → AllByRecursion (λ os. list_any (is_own a.face) os ≡ false) (parts_for a key hats)
  no_part_own key [] = tt
  no_part_own key (h ∷ hats) = (none_own (offers_to a key h), no_part_own key hats)

-- what is selected is never the asker
pub none_to_asker : (c : Core) (asker : FaceId) (s : Resolved) (r : Request) → list_any (is_own asker) (select c asker s r) ≡ false
none_to_asker c asker s r = by (at asker.0 c.faces)
  where
    by : (o : Option OpenFace) → list_any (is_own asker) (select_for c asker s r o) ≡ false
    by None = refl
    by (Some opened) = keyed (says_key s)
      where
        keyed : (b : Bool) → list_any (is_own asker) (cond b (values_of (route_for c (asker_in c asker r.node opened) (full_text s) r.target)) []) ≡ false
        keyed true = none_routed (is_own asker) c.config.best r.target _ (no_part_own (asker_in c asker r.node opened) (full_text s) (values_of c.hats))
        keyed false = refl
