-- List words against a map of the elements: each test of the mapped element is a test of the element.
use Rattle.std.proofs.Common.{◌≡◌, Bool, true, false, cond, List, [], ◌∷◌, ◌++◌, map, Some, refl, ap, ◌∙◌}
use Rattle.std.specs.List.{list_any, filter, flat_map}
use Rattle.std.specs.Prelude.{find, fold}
use Rattle.std.specs.Option.{option_map}
use Rattle.std.proofs.lemmas.List.{map-append}
use Rattle.zq_key.specs.Changes.{change_first, update_first, insert_before}

pub map-map : {X Y Z : Type 0} (g : X → Y) (h : Y → Z) (k : X → Z) (same : (x : X) → h (g x) ≡ k x) (xs : List X) → map h (map g xs) ≡ map k xs
map-map g h k same [] = refl
map-map g h k same (x ∷ xs) = rw (same x, map-map g h k same xs) refl

module _ {X Y : Type 0} (g : X → Y) (p : Y → Bool) (q : X → Bool) (same : (x : X) → p (g x) ≡ q x) where
  pub any-map : (xs : List X) → list_any p (map g xs) ≡ list_any q xs
  any-map [] = refl
  any-map (x ∷ xs) = rw (same x, any-map xs) refl

  pub find-map : (xs : List X) → find p (map g xs) ≡ option_map g (find q xs)
  find-map [] = refl
  find-map (x ∷ xs) = rw (same x, find-map xs) (at (q x))
    where
      at : (b : Bool) → cond b (Some (g x)) (option_map g (find q xs)) ≡ option_map g (cond b (Some x) (find q xs))
      at true = refl
      at false = refl

  pub filter-map : (xs : List X) → filter p (map g xs) ≡ map g (filter q xs)
  filter-map [] = refl
  filter-map (x ∷ xs) = rw (same x, filter-map xs) (at (q x))
    where
      at : (b : Bool) → cond b (g x ∷ map g (filter q xs)) (map g (filter q xs)) ≡ map g (cond b (x ∷ filter q xs) (filter q xs))
      at true = refl
      at false = refl

  pub update_first-map : (f : Y → Y) (h : X → X) (goes : (x : X) → f (g x) ≡ g (h x)) (xs : List X) → update_first p f (map g xs) ≡ map g (update_first q h xs)
  update_first-map f h goes [] = refl
  update_first-map f h goes (x ∷ xs) = rw (same x, goes x, update_first-map f h goes xs) (at (q x))
    where
      at : (b : Bool) → cond b (g (h x) ∷ map g xs) (g x ∷ map g (update_first q h xs)) ≡ map g (cond b (h x ∷ xs) (x ∷ update_first q h xs))
      at true = refl
      at false = refl

  pub change_first-map : (f : Y → List Y) (h : X → List X) (goes : (x : X) → f (g x) ≡ map g (h x)) (xs : List X) → change_first p f (map g xs) ≡ map g (change_first q h xs)
  change_first-map f h goes [] = refl
  change_first-map f h goes (x ∷ xs) = rw (same x, goes x, change_first-map f h goes xs) (at (q x))
    where
      at : (b : Bool) → cond b (map g (h x) ++ map g xs) (g x ∷ map g (change_first q h xs)) ≡ map g (cond b (h x ++ xs) (x ∷ change_first q h xs))
      at true = rw (map-append g (h x) xs) refl
      at false = refl

  pub insert_before-map : (z : X) (xs : List X) → insert_before p (g z) (map g xs) ≡ map g (insert_before q z xs)
  insert_before-map z [] = refl
  insert_before-map z (x ∷ xs) = rw (same x, insert_before-map z xs) (at (q x))
    where
      at : (b : Bool) → cond b (g z ∷ g x ∷ map g xs) (g x ∷ map g (insert_before q z xs)) ≡ map g (cond b (z ∷ x ∷ xs) (x ∷ insert_before q z xs))
      at true = refl
      at false = refl

pub fold-map : {X Y S : Type 0} (g : X → Y) (step : S → Y → S) (step' : S → X → S) (same : (s : S) (x : X) → step s (g x) ≡ step' s x) (s : S) (xs : List X) → fold step s (map g xs) ≡ fold step' s xs
fold-map g step step' same s [] = refl
fold-map g step step' same s (x ∷ xs) = ap (λ t. fold step t (map g xs)) (same s x) ∙ fold-map g step step' same (step' s x) xs

-- a fold whose state is mapped, too
pub fold-moved : {X Y S T : Type 0} (g : X → Y) (k : S → T) (step : T → Y → T) (step' : S → X → S) (same : (s : S) (x : X) → step (k s) (g x) ≡ k (step' s x)) (s : S) (xs : List X) → fold step (k s) (map g xs) ≡ k (fold step' s xs)
fold-moved g k step step' same s [] = refl
fold-moved g k step step' same s (x ∷ xs) = ap (λ t. fold step t (map g xs)) (same s x) ∙ fold-moved g k step step' same (step' s x) xs

pub flat_map-map : {X Y Z W : Type 0} (g : X → Y) (k : Z → W) (f : Y → List W) (h : X → List Z) (same : (x : X) → f (g x) ≡ map k (h x)) (xs : List X) → flat_map f (map g xs) ≡ map k (flat_map h xs)
flat_map-map g k f h same [] = refl
flat_map-map g k f h same (x ∷ xs) = rw (same x, flat_map-map g k f h same xs, map-append k (h x) (flat_map h xs)) refl
