-- What a change of the first element that passes does, by the place of that element.
use Rattle.std.proofs.Common.{◌≡◌, ℕ, zero, suc, ◌<◌, ◌≤◌, Bool, true, false, cond, ltb-false, List, [], ◌∷◌, ◌++◌, length, get_or, take, drop, ap, ◌∙◌, refl, arith, append_assoc, Some, None, sym}
use Rattle.std.specs.List.{position, list_any, position_or_len, remove}
use Rattle.std.specs.Prelude.{find, ◌||◌}
use Rattle.std.proofs.lemmas.List.Sums.{fails_before_first}
use Rattle.std.proofs.lemmas.List.Quantifiers.{position-Some}
use Rattle.std.proofs.lemmas.List.{take-set, drop-set-lt, get_or-set_same}
use Rattle.std.proofs.Common.{set}
use Rattle.std.proofs.lemmas.List.Folds.{list_any_at}
use Rattle.zq_key.specs.Changes.{change_first, update_first, insert_before}

none_false : (b : Bool) (n : ℕ) → cond b (Some n) None ≡ None → b ≡ false
none_false true n e = cc
none_false false n e = refl

module _ {X : Type 0} (p : X → Bool) (edit : X → List X) where
  at_place : (xs : List X) (i : ℕ) (d : X) → i < length xs → p (get_or xs i d) ≡ true → ((k : ℕ) → k < i → p (get_or xs k d) ≡ false) → change_first p edit xs ≡ take i xs ++ edit (get_or xs i d) ++ drop (suc i) xs
  at_place [] i d within here before = absurd (omega arith)
  at_place (x ∷ xs) zero d within here before = ap (λ b. cond b (edit x ++ xs) (x ∷ change_first p edit xs)) here
  at_place (x ∷ xs) (suc i) d within here before =
      ap (λ b. cond b (edit x ++ xs) (x ∷ change_first p edit xs)) (before 0 (omega arith))
      ∙ ap (λ l. x ∷ l) (at_place xs i d (omega arith) here (λ k l. before (suc k) (omega arith)))

  nowhere : (xs : List X) → ((k : ℕ) (d : X) → k < length xs → p (get_or xs k d) ≡ false) → change_first p edit xs ≡ xs
  nowhere [] none = refl
  nowhere (x ∷ xs) none =
      ap (λ b. cond b (edit x ++ xs) (x ∷ change_first p edit xs)) (none 0 x (omega arith))
      ∙ ap (λ l. x ∷ l) (nowhere xs (λ k d l. none (suc k) d (omega arith)))

  pub first_changed : (xs : List X) (i : ℕ) (d : X) → position p xs ≡ Some i → change_first p edit xs ≡ take i xs ++ edit (get_or xs i d) ++ drop (suc i) xs
  first_changed xs i d e = let found = position-Some p xs i d e in at_place xs i d found.0 found.1 found.2

  pub first_absent : (xs : List X) → position p xs ≡ None → change_first p edit xs ≡ xs
  first_absent xs e =
      let past : length xs ≤ position_or_len p xs = omega (arith, ltb-false _ _ (none_false _ _ e)) in
      nowhere xs (λ k d l. fails_before_first p xs k d (omega arith))

-- where the edit drops the element
pub first_removed : {X : Type 0} (p : X → Bool) (xs : List X) (i : ℕ) → position p xs ≡ Some i → change_first p (λ _. []) xs ≡ remove xs i
first_removed p [] i e = absurd (cc)
first_removed p (x ∷ xs) i e = first_changed p (λ _. []) (x ∷ xs) i x e ∙ append_assoc (take i (x ∷ xs)) [] (drop (suc i) (x ∷ xs))

module _ {X : Type 0} (p : X → Bool) where
  -- some element passes where there is a first one
  pub any_first : (xs : List X) (i : ℕ) → position p xs ≡ Some i → list_any p xs ≡ true
  any_first [] i e = absurd (cc)
  any_first (x ∷ xs) i e = let found = position-Some p (x ∷ xs) i x e in list_any_at p (x ∷ xs) i x found.0 found.1

  none_at : (xs : List X) → ((k : ℕ) (d : X) → k < length xs → p (get_or xs k d) ≡ false) → list_any p xs ≡ false
  none_at [] none = refl
  none_at (x ∷ xs) none = ap (λ b. b || list_any p xs) (none 0 x (omega arith)) ∙ none_at xs (λ k d l. none (suc k) d (omega arith))

  pub none_first : (xs : List X) → position p xs ≡ None → list_any p xs ≡ false
  none_first xs e =
      let past : length xs ≤ position_or_len p xs = omega (arith, ltb-false _ _ (none_false _ _ e)) in
      none_at xs (λ k d l. fails_before_first p xs k d (omega arith))

  find_at : (xs : List X) (i : ℕ) (d : X) → i < length xs → p (get_or xs i d) ≡ true → ((k : ℕ) → k < i → p (get_or xs k d) ≡ false) → find p xs ≡ Some (get_or xs i d)
  find_at [] i d within here before = absurd (omega arith)
  find_at (x ∷ xs) zero d within here before = ap (λ b. cond b (Some x) (find p xs)) here
  find_at (x ∷ xs) (suc i) d within here before =
      ap (λ b. cond b (Some x) (find p xs)) (before 0 (omega arith)) ∙ find_at xs i d (omega arith) here (λ k l. before (suc k) (omega arith))

  -- what `find` gives, by the place
  pub find_first : (xs : List X) (i : ℕ) (d : X) → position p xs ≡ Some i → find p xs ≡ Some (get_or xs i d)
  find_first xs i d e = let found = position-Some p xs i d e in find_at xs i d found.0 found.1 found.2

-- the first element is written over, and then the list is cut at its place
pub written_first : {X : Type 0} (p : X → Bool) (f : X → X) (keep : X → List X) (xs : List X) (i : ℕ) (r r' : X) → position p xs ≡ Some i → r ≡ get_or xs i r → r' ≡ f r → take i (set xs i r') ++ keep (get_or (set xs i r') i r') ++ drop (suc i) (set xs i r') ≡ change_first p (λ x. keep (f x)) xs
written_first p f keep xs i r r' e at is =
    let found = position-Some p xs i r e in
    let within : i < length xs = found.0 in
    let below : i < suc i = omega arith in
    rw (take-set, get_or-set_same xs i r' r' within, drop-set-lt (suc i) xs i r' below, is, first_changed p (λ x. keep (f x)) xs i r e, ← at) refl

pub found_first : {X : Type 0} (p : X → Bool) (xs : List X) (i : ℕ) (r : X) → position p xs ≡ Some i → r ≡ get_or xs i r → find p xs ≡ Some r
found_first p xs i r e at = find_first p xs i r e ∙ ap (λ x. Some x) (sym at)

module _ {X : Type 0} (p : X → Bool) (f : X → X) where
  set_at : (xs : List X) (i : ℕ) (d : X) → i < length xs → p (get_or xs i d) ≡ true → ((k : ℕ) → k < i → p (get_or xs k d) ≡ false) → update_first p f xs ≡ set xs i (f (get_or xs i d))
  set_at [] i d within here before = absurd (omega arith)
  set_at (x ∷ xs) zero d within here before = ap (λ b. cond b (f x ∷ xs) (x ∷ update_first p f xs)) here
  set_at (x ∷ xs) (suc i) d within here before =
      ap (λ b. cond b (f x ∷ xs) (x ∷ update_first p f xs)) (before 0 (omega arith))
      ∙ ap (λ l. x ∷ l) (set_at xs i d (omega arith) here (λ k l. before (suc k) (omega arith)))

  -- the first element is written over
  pub update_first_at : (xs : List X) (i : ℕ) (r : X) → position p xs ≡ Some i → r ≡ get_or xs i r → update_first p f xs ≡ set xs i (f r)
  update_first_at xs i r e at = let found = position-Some p xs i r e in set_at xs i r found.0 found.1 found.2 ∙ ap (λ x. set xs i (f x)) (sym at)

module _ {X : Type 0} (p : X → Bool) where
  find_nowhere : (xs : List X) → ((k : ℕ) (d : X) → k < length xs → p (get_or xs k d) ≡ false) → find p xs ≡ None
  find_nowhere [] none = refl
  find_nowhere (x ∷ xs) none = ap (λ b. cond b (Some x) (find p xs)) (none 0 x (omega arith)) ∙ find_nowhere xs (λ k d l. none (suc k) d (omega arith))

  pub find_none : (xs : List X) → position p xs ≡ None → find p xs ≡ None
  find_none xs e =
      let past : length xs ≤ position_or_len p xs = omega (arith, ltb-false _ _ (none_false _ _ e)) in
      find_nowhere xs (λ k d l. fails_before_first p xs k d (omega arith))

module _ {X : Type 0} (p : X → Bool) (x : X) where
  inserted_at : (xs : List X) (i : ℕ) (d : X) → i < length xs → p (get_or xs i d) ≡ true → ((k : ℕ) → k < i → p (get_or xs k d) ≡ false) → insert_before p x xs ≡ take i xs ++ x ∷ drop i xs
  inserted_at [] i d within here before = absurd (omega arith)
  inserted_at (y ∷ ys) zero d within here before = ap (λ b. cond b (x ∷ y ∷ ys) (y ∷ insert_before p x ys)) here
  inserted_at (y ∷ ys) (suc i) d within here before =
      ap (λ b. cond b (x ∷ y ∷ ys) (y ∷ insert_before p x ys)) (before 0 (omega arith))
      ∙ ap (λ l. y ∷ l) (inserted_at ys i d (omega arith) here (λ k l. before (suc k) (omega arith)))

  inserted_nowhere : (xs : List X) → ((k : ℕ) (d : X) → k < length xs → p (get_or xs k d) ≡ false) → insert_before p x xs ≡ xs ++ x ∷ []
  inserted_nowhere [] none = refl
  inserted_nowhere (y ∷ ys) none =
      ap (λ b. cond b (x ∷ y ∷ ys) (y ∷ insert_before p x ys)) (none 0 y (omega arith))
      ∙ ap (λ l. y ∷ l) (inserted_nowhere ys (λ k d l. none (suc k) d (omega arith)))

  pub insert_before_at : (xs : List X) (i : ℕ) → position p xs ≡ Some i → insert_before p x xs ≡ take i xs ++ x ∷ drop i xs
  insert_before_at xs i e = let found = position-Some p xs i x e in inserted_at xs i x found.0 found.1 found.2

  pub insert_before_none : (xs : List X) → position p xs ≡ None → insert_before p x xs ≡ xs ++ x ∷ []
  insert_before_none xs e =
      let past : length xs ≤ position_or_len p xs = omega (arith, ltb-false _ _ (none_false _ _ e)) in
      inserted_nowhere xs (λ k d l. fails_before_first p xs k d (omega arith))

pub position_within : {X : Type 0} (p : X → Bool) (xs : List X) (i : ℕ) → position p xs ≡ Some i → i < length xs
position_within p [] i e = absurd (cc)
position_within p (x ∷ xs) i e = (position-Some p (x ∷ xs) i x e).0
