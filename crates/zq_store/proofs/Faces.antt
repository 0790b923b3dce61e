-- Storages by the numbers of their faces.
use Rattle.std.proofs.Common.{◌≡◌, ◌∙◌, ℕ, ◌+◌, ◌-◌, ◌<◌, ◌≤◌, Bool, true, false, cond, List, [], ◌∷◌, Option, Some, None, refl, sym, ap, length, arith}
use Rattle.std.specs.Prelude.{◌==◌, position}
use Rattle.std.specs.List.{position_from}
use Rattle.std.proofs.lemmas.Bool.{and_parts}
use Rattle.std.proofs.lemmas.Iterator.Adapters.{position_from-zero}
use Rattle.zq_message.specs.declared.message.FaceId.{FaceId}
use Rattle.zq_store.specs.Stores.{Stored, is_face, numbered}

same : (a b : ℕ) → (a == b) ≡ true → a ≡ b
same a b e = grind (arith, e)

other : (a b : ℕ) → b < a → (a == b) ≡ false
other a b lt = grind (arith, lt)

-- from a place on, no storage has a lower face
below_from : (face : FaceId) (n k : ℕ) (ss : List Stored) → numbered n ss ≡ true → face.0 < n → position_from (is_face face) k ss ≡ None
below_from face n k [] h lt = refl
below_from face n k (s ∷ ss) h lt =
    let parts = and_parts (s.face.0 == n) (numbered (n + 1) ss) h in
    let here = same s.face.0 n parts.0 in
    let no : (s.face.0 == face.0) ≡ false = other s.face.0 face.0 (omega (arith, here, lt)) in
    ap (λ b. cond b (Some k) (position_from (is_face face) (k + 1) ss)) no ∙ below_from face (n + 1) (k + 1) ss parts.1 (omega (arith, lt))

-- the storage that has the face
at_from : (face : FaceId) (n k : ℕ) (ss : List Stored) → numbered n ss ≡ true → n ≤ face.0 → face.0 < n + length ss → position_from (is_face face) k ss ≡ Some (k + (face.0 - n))
at_from face n k [] h le lt = absurd (omega (arith, le, lt))
at_from face n k (s ∷ ss) h le lt =
    let parts = and_parts (s.face.0 == n) (numbered (n + 1) ss) h in
    by (s.face.0 == face.0) refl (same s.face.0 n parts.0) (at_from face (n + 1) (k + 1) ss parts.1)
  where
    by : (b : Bool) → (s.face.0 == face.0) ≡ b → s.face.0 ≡ n → (n + 1 ≤ face.0 → face.0 < n + 1 + length ss → position_from (is_face face) (k + 1) ss ≡ Some (k + 1 + (face.0 - (n + 1)))) → cond b (Some k) (position_from (is_face face) (k + 1) ss) ≡ Some (k + (face.0 - n))
    by true e here more = let f = same s.face.0 face.0 e in let z : k ≡ k + (face.0 - n) = omega (arith, f, here) in ap (λ m. Some m) z
    by false e here more =
        let apart : n < face.0 = grind (arith, e, here, le) in
        let longer : length (s ∷ ss) ≡ length ss + 1 = grind (arith) in
        more (omega (arith, apart)) (omega (arith, lt, longer)) ∙ ap (λ m. Some m) (omega (arith, apart))

-- from a place on, no storage has a higher face
above_from : (face : FaceId) (n k : ℕ) (ss : List Stored) → numbered n ss ≡ true → n + length ss ≤ face.0 → position_from (is_face face) k ss ≡ None
above_from face n k [] h le = refl
above_from face n k (s ∷ ss) h le =
    let parts = and_parts (s.face.0 == n) (numbered (n + 1) ss) h in
    let here = same s.face.0 n parts.0 in
    let longer : length (s ∷ ss) ≡ length ss + 1 = grind (arith) in
    let no : (s.face.0 == face.0) ≡ false = grind (arith, here, le, longer) in
    ap (λ b. cond b (Some k) (position_from (is_face face) (k + 1) ss)) no ∙ above_from face (n + 1) (k + 1) ss parts.1 (omega (arith, le, longer))

plus : (m : ℕ) → 0 + m ≡ m
plus m = omega arith

whole : (face : FaceId) (ss : List Stored) (r : Option ℕ) → position_from (is_face face) 0 ss ≡ r → r ≡ position (is_face face) ss
whole face ss r e = sym (position_from-zero (is_face face) ss ∙ e)

pub found_below : (face : FaceId) (n : ℕ) (ss : List Stored) → numbered n ss ≡ true → face.0 < n → None ≡ position (is_face face) ss
found_below face n ss h lt = whole face ss None (below_from face n 0 ss h lt)

pub found_there : (face : FaceId) (n : ℕ) (ss : List Stored) → numbered n ss ≡ true → n ≤ face.0 → face.0 - n < length ss → Some (face.0 - n) ≡ position (is_face face) ss
found_there face n ss h le lt = whole face ss (Some (face.0 - n)) (at_from face n 0 ss h le (omega (arith, le, lt)) ∙ ap (λ m. Some m) (plus (face.0 - n)))

pub found_above : (face : FaceId) (n : ℕ) (ss : List Stored) → numbered n ss ≡ true → n ≤ face.0 → length ss ≤ face.0 - n → None ≡ position (is_face face) ss
found_above face n ss h le lt = whole face ss None (above_from face n 0 ss h (omega (arith, le, lt)))
