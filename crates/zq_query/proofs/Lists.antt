-- Filters and look-ups of lists, and the keys that a filter keeps.
use Rattle.std.proofs.Common.{◌≡◌, Bool, true, false, cond, List, [], ◌∷◌, ap, ◌∙◌, refl, Some, None, Option, sym}
use Rattle.std.specs.Prelude.{map, ◌&&◌, ◌||◌}
use Rattle.std.specs.declared.cmp.Ordering.{Ordering}
use Rattle.std.specs.Cmp.{IsTotalOrder}
use Rattle.std.specs.List.{filter, filter_map, cons_option, AllByRecursion}
use Rattle.std.specs.BTreeMap.{is_at}
use Rattle.std.specs.Map.{keys_of}
use Rattle.std.proofs.lemmas.Map.Lookups.{CmpEqualImpliesEq}
use Rattle.std.proofs.Math.Bool.{and-false}
use Rattle.zq_query.specs.FaceEntries.{has_key}
use Rattle.zq_key.proofs.Lookups.{same_key}

-- two tests that agree on the members
pub filter_members : {X : Type 0} (p q : X → Bool) (xs : List X) → AllByRecursion (λ x. p x ≡ q x) xs → filter p xs ≡ filter q xs
filter_members p q [] all = refl
filter_members p q (x ∷ xs) all = λ j. cond (all.0 j) (x ∷ filter_members p q xs all.1 j) (filter_members p q xs all.1 j)

chosen_by : {X Z : Type 0} (p : Z → Bool) (f : X → Z) (x : X) (l : List X) (m : List Z) (a : Bool) → filter p (map f l) ≡ m
    → filter p (map f (cond a (x ∷ l) l)) ≡ cons_option (cond (a && p (f x)) (Some (f x)) None) m
chosen_by p f x l m true ih = by_pass (p (f x)) refl
  where
    by_pass : (b : Bool) → p (f x) ≡ b → cond b (f x ∷ filter p (map f l)) (filter p (map f l)) ≡ cons_option (cond b (Some (f x)) None) m
    by_pass true e = ap (λ z. f x ∷ z) ih
    by_pass false e = ih
chosen_by p f x l m false ih = ih

-- what is left of a list by two tests and a function, at once
pub chosen : {X Z : Type 0} (q : X → Bool) (p : Z → Bool) (f : X → Z) (xs : List X) → filter p (map f (filter q xs)) ≡ filter_map (λ x. cond (q x && p (f x)) (Some (f x)) None) xs
chosen q p f [] = refl
chosen q p f (x ∷ xs) = chosen_by p f x (filter q xs) (filter_map (λ z. cond (q z && p (f z)) (Some (f z)) None) xs) (q x) (chosen q p f xs)

pub chosen_map : {X Y Z : Type 0} (h : Y → Option Z) (g : X → Y) (xs : List X) → filter_map h (map g xs) ≡ filter_map (λ x. h (g x)) xs
chosen_map h g [] = refl
chosen_map h g (x ∷ xs) = ap (cons_option (h (g x))) (chosen_map h g xs)

-- by the keys of entries
pub chosen_keys : {K X Z : Type 0} (h : K × X → Option Z) (g : K → Option Z) (es : List (K × X)) → AllByRecursion (λ e. h e ≡ g e.0) es → filter_map h es ≡ filter_map g (keys_of es)
chosen_keys h g [] all = refl
chosen_keys h g (e ∷ es) all = λ j. cons_option (all.0 j) (chosen_keys h g es all.1 j)

kept_by : {X Z : Type 0} (g : X → Option Z) (x : X) (l : List X) (m : List Z) (b : Bool) → filter_map g l ≡ m → cons_option (cond b (g x) None) m ≡ filter_map g (cond b (x ∷ l) l)
kept_by g x l m true ih = ap (cons_option (g x)) (sym ih)
kept_by g x l m false ih = sym ih

-- those that a test keeps
pub chosen_kept : {X Z : Type 0} (p : X → Bool) (g : X → Option Z) (xs : List X) → filter_map (λ x. cond (p x) (g x) None) xs ≡ filter_map g (filter p xs)
chosen_kept p g [] = refl
chosen_kept p g (x ∷ xs) = kept_by g x (filter p xs) (filter_map (λ z. cond (p z) (g z) None) xs) (p x) (sym (chosen_kept p g xs))

module _ {K : Type 0} {R : K → K → Ordering} (o : IsTotalOrder R) (exact : CmpEqualImpliesEq R) where
  key_by : (p : K → Bool) (q x : K) (xs : List K) (b c : Bool) → is_at (R q) x ≡ b → p x ≡ c → has_key R q (filter p xs) ≡ (p q && has_key R q xs) → has_key R q (cond c (x ∷ filter p xs) (filter p xs)) ≡ (p q && (b || has_key R q xs))
  key_by p q x xs true true e f ih =
      let passes : p q ≡ true = ap p (same_key o exact q x e) ∙ f in
      rw (e, passes) refl
  key_by p q x xs true false e f ih =
      let fails : p q ≡ false = ap p (same_key o exact q x e) ∙ f in
      rw fails at ih ∙ sym (ap (λ b. b && true) fails)
  key_by p q x xs false true e f ih = rw e ih
  key_by p q x xs false false e f ih = ih

  -- the keys that a test keeps
  pub has_kept : (p : K → Bool) (q : K) (xs : List K) → has_key R q (filter p xs) ≡ (p q && has_key R q xs)
  has_kept p q [] = sym (and-false (p q))
  has_kept p q (x ∷ xs) = key_by p q x xs (is_at (R q) x) (p x) refl refl (has_kept p q xs)
