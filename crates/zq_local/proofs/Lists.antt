-- Lists of which each element stands in a relation to each later one.
use Rattle.std.proofs.Common.{◌≡◌, ◌∙◌, refl, ap, Bool, true, false, cond, List, [], ◌∷◌, ◌++◌, map, Some}
use Rattle.std.specs.Prelude.{find}
use Rattle.std.specs.List.{AllByRecursion, filter, flat_map}
use Rattle.std.specs.Option.{option_map}
use Rattle.zq_machine.proofs.Lists.{all_append, all_filter}

module _ {X : Type 0} (R : X → X → Type 0) where
  -- each element stands in the relation to each later one
  abbrev pub Pairwise : List X → Type 0
  Pairwise [] = Unit {0}
  Pairwise (x ∷ xs) = AllByRecursion (R x) xs × Pairwise xs

  abbrev pub Across : List X → List X → Type 0
  Across xs ys = AllByRecursion (λ x. AllByRecursion (R x) ys) xs

  pub pairs_append : (xs ys : List X) → Pairwise xs → Pairwise ys → Across xs ys → Pairwise (xs ++ ys)
  pairs_append [] ys p q a = q
  pairs_append (x ∷ xs) ys p q a = (all_append (R x) xs ys p.0 a.0, pairs_append xs ys p.1 q a.1)

  pub pairs_filter : (test : X → Bool) (xs : List X) → Pairwise xs → Pairwise (filter test xs)
  pairs_filter test [] p = tt
  pairs_filter test (x ∷ xs) p = by (test x) (pairs_filter test xs p.1)
    where
      by : (b : Bool) → Pairwise (filter test xs) → Pairwise (cond b (x ∷ filter test xs) (filter test xs))
      by true rest = (all_filter (R x) test xs p.0, rest)
      by false rest = rest

-- the relation holds where another does, of elements that have a property
pub all_both : {X : Type 0} (P Q S : X → Type 0) → ((x : X) → P x → Q x → S x) → (xs : List X) → AllByRecursion P xs → AllByRecursion Q xs → AllByRecursion S xs
all_both P Q S gives [] p q = tt
all_both P Q S gives (x ∷ xs) p q = (gives x p.0 q.0, all_both P Q S gives xs p.1 q.1)

module _ {X : Type 0} (R S : X → X → Type 0) (P : X → Type 0) (gives : (x y : X) → P x → P y → R x y → S x y) where
  pub pairs_stronger : (xs : List X) → AllByRecursion P xs → Pairwise R xs → Pairwise S xs
  pairs_stronger [] all p = tt
  pairs_stronger (x ∷ xs) all p = (all_both P (R x) (S x) (λ y py r. gives x y all.0 py r) xs all.1 p.0, pairs_stronger xs all.1 p.1)

pub all_of : {X : Type 0} (P : X → Type 0) → ((x : X) → P x) → (xs : List X) → AllByRecursion P xs
all_of P each [] = tt
all_of P each (x ∷ xs) = (each x, all_of P each xs)

pub all_flat : {X Y : Type 0} (P : Y → Type 0) (f : X → List Y) (xs : List X) → AllByRecursion (λ x. AllByRecursion P (f x)) xs → AllByRecursion P (flat_map f xs)
all_flat P f [] all = tt
all_flat P f (x ∷ xs) all = all_append P (f x) (flat_map f xs) all.0 (all_flat P f xs all.1)

-- ---- what is mapped
pub filter_map_by : {X Y : Type 0} (f : X → Y) (p : Y → Bool) (q : X → Bool) → ((x : X) → p (f x) ≡ q x) → (xs : List X) → filter p (map f xs) ≡ map f (filter q xs)
filter_map_by f p q same [] = refl
filter_map_by f p q same (x ∷ xs) =
    ap (λ b. cond b (f x ∷ filter p (map f xs)) (filter p (map f xs))) (same x) ∙ by (q x) (filter_map_by f p q same xs)
  where
    by : (b : Bool) → filter p (map f xs) ≡ map f (filter q xs) → cond b (f x ∷ filter p (map f xs)) (filter p (map f xs)) ≡ map f (cond b (x ∷ filter q xs) (filter q xs))
    by true ih = ap (λ l. f x ∷ l) ih
    by false ih = ih

pub find_map_by : {X Y : Type 0} (f : X → Y) (p : Y → Bool) (q : X → Bool) → ((x : X) → p (f x) ≡ q x) → (xs : List X) → find p (map f xs) ≡ option_map f (find q xs)
find_map_by f p q same [] = refl
find_map_by f p q same (x ∷ xs) =
    ap (λ b. cond b (Some (f x)) (find p (map f xs))) (same x) ∙ by (q x) (find_map_by f p q same xs)
  where
    by : (b : Bool) → find p (map f xs) ≡ option_map f (find q xs) → cond b (Some (f x)) (find p (map f xs)) ≡ option_map f (cond b (Some x) (find q xs))
    by true ih = refl
    by false ih = ih

pub filter_whole : {X : Type 0} (p : X → Bool) (xs : List X) → AllByRecursion (λ x. p x ≡ true) xs → filter p xs ≡ xs
filter_whole p [] all = refl
filter_whole p (x ∷ xs) all = ap (λ b. cond b (x ∷ filter p xs) (filter p xs)) all.0 ∙ ap (λ l. x ∷ l) (filter_whole p xs all.1)

pub all_back : {X Y : Type 0} (P : Y → Type 0) (f : X → Y) (xs : List X) → AllByRecursion (λ x. P (f x)) xs → AllByRecursion P (map f xs)
all_back P f [] all = tt
all_back P f (x ∷ xs) all = (all.0, all_back P f xs all.1)

pub pairs_back : {X Y : Type 0} (R : Y → Y → Type 0) (f : X → Y) (xs : List X) → Pairwise (λ x y. R (f x) (f y)) xs → Pairwise R (map f xs)
pairs_back R f [] p = tt
pairs_back R f (x ∷ xs) p = (all_back (R (f x)) f xs p.0, pairs_back R f xs p.1)
