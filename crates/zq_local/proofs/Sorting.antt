-- A list in order is sorted as it is, and a route takes all offers of different faces.
use mathlib.Core.List.{reverse-cons}
use Rattle.std.proofs.Common.{◌≡◌, ◌∙◌, refl, sym, ap, subst, ℕ, ◌+◌, ◌-◌, Bool, false, cond, List, [], ◌∷◌, ◌++◌, map, length, append_assoc, append-nil, arith}
use Rattle.std.specs.Prelude.{fold, reverse, ◌==◌, ◌||◌}
use Rattle.std.specs.List.{AllByRecursion, insert, prefix_len, suffix_len}
use Rattle.std.specs.Map.{values_of}
use Rattle.std.specs.declared.cmp.Ordering.{Ordering}
use Rattle.std.specs.Ordering.{is_lt}
use Rattle.std.proofs.lemmas.List.Folds.{list_any-append}
use Rattle.zq_strategy.specs.declared.offer.QueryTargetQabl.{QueryTargetQabl}
use Rattle.zq_strategy.specs.OfferOrder.{place, sorted}
use Rattle.zq_route.specs.Built.{has_face, is_face}
use Rattle.zq_route.specs.Selection.{by_face, with_offers}
use Rattle.zq_machine.proofs.Lists.{all_append}
use Rattle.zq_local.proofs.Lists.{Pairwise, all_both}

-- ---- sorting
module _ {X : Type 0} (cmp : X → X → Ordering) where
  -- the later one is not less
  abbrev pub Ordered : X → X → Type 0
  Ordered x y = is_lt (cmp y x) ≡ false

  none_passes : (p : X → Bool) (xs : List X) → AllByRecursion (λ y. p y ≡ false) xs → prefix_len p xs ≡ 0
  none_passes p [] all = refl
  none_passes p (x ∷ xs) all = ap (λ b. cond b (1 + prefix_len p xs) 0) all.0

  all_turned : (P : X → Type 0) (xs : List X) → AllByRecursion P xs → AllByRecursion P (reverse xs)
  all_turned P [] all = tt
  all_turned P (x ∷ xs) all = subst (AllByRecursion P) (sym (reverse-cons x xs)) (all_append P (reverse xs) (x ∷ []) (all_turned P xs all.1) (all.0, tt))

  at_end : (xs : List X) (x : X) → insert xs (length xs) x ≡ xs ++ x ∷ []
  at_end [] x = refl
  at_end (y ∷ xs) x = ap (λ l. y ∷ l) (at_end xs x)

  placed : (xs : List X) (x : X) → AllByRecursion (λ y. Ordered y x) xs → place cmp xs x ≡ xs ++ x ∷ []
  placed xs x all =
      let none : suffix_len (λ y. is_lt (cmp x y)) xs ≡ 0 = none_passes (λ y. is_lt (cmp x y)) (reverse xs) (all_turned (λ y. Ordered y x) xs all) in
      let whole : length xs - suffix_len (λ y. is_lt (cmp x y)) xs ≡ length xs = omega (arith, none) in
      ap (λ n. insert xs n x) whole ∙ at_end xs x

  -- those before are not greater than those to come
  abbrev Before : List X → List X → Type 0
  Before done xs = AllByRecursion (λ x. AllByRecursion (λ y. Ordered y x) done) xs

  next_before : (done : List X) (x : X) (xs : List X) → Before done xs → AllByRecursion (Ordered x) xs → Before (done ++ x ∷ []) xs
  next_before done x xs before above =
      all_both (λ z. AllByRecursion (λ y. Ordered y z) done) (Ordered x) (λ z. AllByRecursion (λ y. Ordered y z) (done ++ x ∷ []))
      (λ z d o. all_append (λ y. Ordered y z) done (x ∷ []) d (o, tt)) xs before above

  sorted_from : (done xs : List X) → Before done xs → Pairwise Ordered xs → fold (place cmp) done xs ≡ done ++ xs
  sorted_from done [] before p = sym (append-nil done)
  sorted_from done (x ∷ xs) before p =
      ap (λ l. fold (place cmp) l xs) (placed done x before.0)
      ∙ sorted_from (done ++ x ∷ []) xs (next_before done x xs before.1 p.0) p.1
      ∙ append_assoc done (x ∷ []) xs

  nothing_before : (xs : List X) → Before [] xs
  nothing_before [] = tt
  nothing_before (x ∷ xs) = (tt, nothing_before xs)

  pub sorted_whole : (xs : List X) → Pairwise Ordered xs → sorted cmp xs ≡ xs
  sorted_whole xs p = sorted_from [] xs (nothing_before xs) p

-- ---- routes
-- the later offer is of another face
abbrev pub Apart : QueryTargetQabl → QueryTargetQabl → Type 0
Apart a b = (b.face.0 == a.face.0) ≡ false

abbrev AreNew : List (ℕ × QueryTargetQabl) → List QueryTargetQabl → Type 0
AreNew route os = AllByRecursion (λ (o : QueryTargetQabl). has_face o.face.0 route ≡ false) os

still_new : (route : List (ℕ × QueryTargetQabl)) (o : QueryTargetQabl) (os : List QueryTargetQabl) → AreNew route os → AllByRecursion (Apart o) os → AreNew (route ++ by_face o ∷ []) os
still_new route o os new apart =
    all_both (λ (x : QueryTargetQabl). has_face x.face.0 route ≡ false) (Apart o) (λ (x : QueryTargetQabl). has_face x.face.0 (route ++ by_face o ∷ []) ≡ false)
    (λ x n a. list_any-append (is_face x.face.0) route (by_face o ∷ []) ∙ (λ j. n j || (a j || false))) os new apart

takes_all : (route : List (ℕ × QueryTargetQabl)) (os : List QueryTargetQabl) → AreNew route os → Pairwise Apart os → with_offers route os ≡ route ++ map by_face os
takes_all route [] new p = sym (append-nil route)
takes_all route (o ∷ os) new p =
    ap (λ b. with_offers (cond b route (route ++ by_face o ∷ [])) os) new.0
    ∙ takes_all (route ++ by_face o ∷ []) os (still_new route o os new.1 p.0) p.1
    ∙ append_assoc route (by_face o ∷ []) (map by_face os)

all_new : (os : List QueryTargetQabl) → AreNew [] os
all_new [] = tt
all_new (o ∷ os) = (refl, all_new os)

values_back : (os : List QueryTargetQabl) → values_of (map by_face os) ≡ os
values_back [] = refl
values_back (o ∷ os) = ap (λ l. o ∷ l) (values_back os)

-- a route of offers of different faces is these
pub route_whole : (os : List QueryTargetQabl) → Pairwise Apart os → with_offers [] os ≡ map by_face os
route_whole os p = takes_all [] os (all_new os) p

pub values_whole : (os : List QueryTargetQabl) → Pairwise Apart os → values_of (with_offers [] os) ≡ os
values_whole os p = ap values_of (route_whole os p) ∙ values_back os
