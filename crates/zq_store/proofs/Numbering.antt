-- Storages by number: each is found by its face, and its pairs by its number.
use Rattle.std.proofs.Common.{◌≡◌, ◌∙◌, refl, sym, ap, ℕ, zero, suc, ◌+◌, ◌<◌, Bool, true, false, cond, not, List, [], ◌∷◌, ◌++◌, Some, None, length, arith, append_assoc, eqb-true, eq-eqb, length-append}
use Rattle.std.specs.Prelude.{◌==◌, nat_lt, position, slice_get}
use Rattle.std.specs.List.{AllByRecursion, list_all, position_or_len}
use Rattle.std.specs.Option.{option_map_or}
use Rattle.std.proofs.lemmas.Bool.{and_parts, lt-ltb}
use Rattle.zq_message.specs.declared.message.FaceId.{FaceId}
use Rattle.zq_local.specs.Picking.{Seat}
use Rattle.zq_local.specs.Seated.{AreNumbered}
use Rattle.zq_store.specs.Stores.{Stored, fits_store, held_at, holds_own, is_face, numbered}
use Rattle.zq_store.specs.Seats.{seats_from}

pub found_behind : {X : Type 0} (front : List X) (x : X) (rest : List X) → slice_get (front ++ x ∷ rest) (length front) ≡ Some x
found_behind [] x rest = refl
found_behind (y ∷ front) x rest = found_behind front x rest

-- ---- a storage by its face
place_is : (face : FaceId) (m i : ℕ) (xs : List Stored) → numbered m xs ≡ true → i < length xs → face.0 ≡ m + i → position_or_len (is_face face) xs ≡ i
place_is face m i [] all less is = absurd (omega (arith, less))
place_is face m zero (s ∷ xs) all less is =
    let here = and_parts (s.face.0 == m) (numbered (m + 1) xs) all in
    let same : s.face.0 ≡ face.0 = let e = eqb-true s.face.0 m here.0 in omega (arith, e, is) in
    ap (λ b. cond (not b) (1 + position_or_len (is_face face) xs) 0) (eq-eqb s.face.0 face.0 same)
place_is face m (suc i) (s ∷ xs) all less is =
    let here = and_parts (s.face.0 == m) (numbered (m + 1) xs) all in
    let apart : (s.face.0 == face.0) ≡ false = by (s.face.0 == face.0) refl (eqb-true s.face.0 m here.0) in
    let rest = place_is face (m + 1) i xs here.1 (omega (arith, less)) (omega (arith, is)) in
    ap (λ b. cond (not b) (1 + position_or_len (is_face face) xs) 0) apart ∙ omega (arith, rest)
  where
    by : (b : Bool) → (s.face.0 == face.0) ≡ b → s.face.0 ≡ m → b ≡ false
    by true e f = let same = eqb-true s.face.0 face.0 e in absurd (omega (arith, same, f, is))
    by false e f = refl

pub found_by_face : (face : FaceId) (m i : ℕ) (xs : List Stored) → numbered m xs ≡ true → i < length xs → face.0 ≡ m + i → position (is_face face) xs ≡ Some i
found_by_face face m i xs all less is =
    let e = place_is face m i xs all less is in
    (λ j. cond (nat_lt (e j) (length xs)) (Some (e j)) None) ∙ ap (λ b. cond b (Some i) None) (lt-ltb i (length xs) less)

-- ---- each storage
module _ (m : ℕ) (all : List Stored) where
  -- it has the face of its number, and holds what fits its key
  pub record IsPlaced (s : Seat) : Type 0 where
    pub face : s.face.0 ≡ m + s.number
    pub number : s.number < length all
    pub held : list_all (fits_store s.key) (held_at all s.number) ≡ true

  placed_from : (n k : ℕ) (front rest : List Stored) → n ≡ length front → k ≡ m + n → all ≡ front ++ rest → numbered k rest ≡ true → list_all holds_own rest ≡ true → AllByRecursion IsPlaced (seats_from n rest)
  placed_from n k front [] count base is nums held = tt
  placed_from n k front (s ∷ rest) count base is nums held =
      let here = and_parts (s.face.0 == k) (numbered (k + 1) rest) nums in
      let own = and_parts (holds_own s) (list_all holds_own rest) held in
      let there : slice_get all n ≡ Some s = (λ j. slice_get (is j) (count j)) ∙ found_behind front s rest in
      let long : length all ≡ length front + length (s ∷ rest) = ap length is ∙ length-append front (s ∷ rest) in (
        record {
          face = eqb-true s.face.0 k here.0 ∙ base;
          number = omega (arith, count, long);
          held = ap (λ o. list_all (fits_store s.key) (option_map_or (λ (x : Stored). x.held) o [])) there ∙ own.0;
        },
        placed_from (n + 1) (k + 1) (front ++ s ∷ []) rest (let e = length-append front (s ∷ []) in omega (arith, count, e)) (omega (arith, base)) (is ∙ sym (append_assoc front (s ∷ []) rest)) here.1 own.1,
      )

  pub all_placed : numbered m all ≡ true → list_all holds_own all ≡ true → AllByRecursion IsPlaced (seats_from 0 all)
  all_placed nums held = placed_from 0 m [] all refl (omega arith) refl nums held

-- the numbers of faces, as the gateway's theorem has them
pub numbers_are : (m n : ℕ) (xs : List Stored) → numbered m xs ≡ true → AreNumbered m (seats_from n xs)
numbers_are m n [] all = tt
numbers_are m n (s ∷ xs) all =
    let here = and_parts (s.face.0 == m) (numbered (m + 1) xs) all in
    (eqb-true s.face.0 m here.0, numbers_are (m + 1) (n + 1) xs here.1)
