-- The first seat of an id is the first one from the id on.
use Rattle.std.proofs.Common.{Option, ◌≡◌, ◌≤◌, ℕ, subst, Bool, true, false, cond, List, [], ◌∷◌, refl, ap, ◌∙◌, sym, arith, Some, None, eqb, eqb-true, filter, true≢false}
use Rattle.std.specs.Prelude.{◌&&◌, find}
use Rattle.std.specs.Option.{option_map, option_and_then}
use Rattle.std.specs.Prelude.{map, if◌then◌else◌}
use Rattle.std.specs.List.{AllByRecursion, cons_option, filter_map}
use Rattle.std.specs.List.Sorted.{IsStrictlySortedBy}
use Rattle.std.specs.BTreeMap.Range.{range_contains}
use Rattle.std.specs.Ordering.{is_le, nat_cmp, ordering_then}
use Rattle.std.specs.declared.cmp.Ordering.{Ordering}
use Rattle.std.specs.declared.cmp.Ordering.TheVariants.{Less, Equal, Greater}
use Rattle.std.specs.declared.ops.Bound.TheVariants.{Included, Unbounded}
use Rattle.std.proofs.lemmas.Bool.{eqb-false, false≢true}
use Rattle.std.proofs.lemmas.List.Kept.{IsStrictlySortedBy-filter}
use Rattle.std.proofs.lemmas.Map.Keys.{le_from_is_le, sorted_head}
use Rattle.zq_message.specs.declared.message.Zid.{Zid}
use Rattle.zq_strategy.specs.Seating.{Seat, faces_by, is_of_zid, is_other, number, other_seated, seat_cmp, seated}

-- the seat is not before those of the id
abbrev pub is_from : Zid → Seat → Bool
is_from zid seat = range_contains seat_cmp (Included (zid.0, 0)) Unbounded seat

then_le : (a b : ℕ) (r o : Ordering) → nat_cmp a b ≡ r → is_le (ordering_then r o) ≡ true → a ≤ b
then_le a b Less o is le = le_from_is_le a b (ap is_le is)
then_le a b Equal o is le = le_from_is_le a b (ap is_le is)
then_le a b Greater o is le = absurd (false≢true le)

first_le : (a b : Seat) → is_le (seat_cmp a b) ≡ true → a.0 ≤ b.0
first_le a b le = then_le a.0 b.0 (nat_cmp a.0 b.0) (nat_cmp a.1 b.1) refl le

from_le : (zid : Zid) (seat : Seat) → is_from zid seat ≡ true → zid.0 ≤ seat.0
from_le zid seat h = first_le (zid.0, 0) seat (by (is_le (seat_cmp (zid.0, 0) seat)) h)
  where
    by : (b : Bool) → (b && true) ≡ true → b ≡ true
    by true h = refl
    by false h = absurd (false≢true h)

-- a test passes first where a wider one kept all that passes it
module _ {X : Type 0} (p q : X → Bool) (wider : (x : X) → p x ≡ true → q x ≡ true) where
  kept_by : (x : X) (xs kept : List X) (a b : Bool) → p x ≡ a → q x ≡ b → find p kept ≡ find p xs → find p (cond b (x ∷ kept) kept) ≡ cond a (Some x) (find p xs)
  kept_by x xs kept a true is found ih = ap (λ c. cond c (Some x) (find p kept)) is ∙ ap (cond a (Some x)) ih
  kept_by x xs kept false false is found ih = ih
  kept_by x xs kept true false is found ih = absurd (true≢false (sym (wider x is) ∙ found))

  find_kept : (xs : List X) → find p (filter q xs) ≡ find p xs
  find_kept [] = refl
  find_kept (x ∷ xs) = kept_by x xs (filter q xs) (p x) (q x) refl refl (find_kept xs)

-- what a filter begins with passes it
first_by : {X : Type 0} (p : X → Bool) (y x : X) (ys rest : List X) (b : Bool) → p y ≡ b → cond b (y ∷ filter p ys) (filter p ys) ≡ x ∷ rest → (filter p ys ≡ x ∷ rest → p x ≡ true) → p x ≡ true
first_by p y x ys rest true e is later = let same : y ≡ x = cc in ap p (sym same) ∙ e
first_by p y x ys rest false e is later = later is

first_passes : {X : Type 0} (p : X → Bool) (xs : List X) (x : X) (rest : List X) → filter p xs ≡ x ∷ rest → p x ≡ true
first_passes p [] x rest is = absurd (let gap : [] ≡ x ∷ rest = is in cc)
first_passes p (y ∷ ys) x rest is = first_by p y x ys rest (p y) refl is (λ i. first_passes p ys x rest i)

-- a seat of the id is not before the id
of_from : (zid : Zid) (seat : Seat) → is_of_zid zid seat ≡ true → is_from zid seat ≡ true
of_from zid seat h = ap (λ r. is_le (ordering_then r (nat_cmp 0 seat.1)) && true) (same_number zid.0 seat.0 (eqb-true zid.0 seat.0 h)) ∙ least seat.1
  where
    same_number : (a b : ℕ) → a ≡ b → nat_cmp a b ≡ Equal
    same_number a b e = grind arith

    least : (n : ℕ) → (is_le (nat_cmp 0 n) && true) ≡ true
    least n = by (nat_cmp 0 n) refl
      where
        by : (r : Ordering) → nat_cmp 0 n ≡ r → (is_le r && true) ≡ true
        by Less e = refl
        by Equal e = refl
        by Greater e = grind arith

module _ (zid : Zid) where
  -- what is left of a list of seats from the id on starts with its first seat
  pub first_seat : (seat : Seat) (seats rest : List Seat) → filter (is_from zid) seats ≡ seat ∷ rest → seat.0 ≡ zid.0 → seated zid seats ≡ Some seat.1
  first_seat seat seats rest is same =
      let of : eqb zid.0 seat.0 ≡ true = grind arith in
      ap (option_map (λ (s : Seat). s.1)) (sym (find_kept (is_of_zid zid) (is_from zid) (of_from zid) seats) ∙ ap (find (is_of_zid zid)) is ∙ ap (λ b. cond b (Some seat) (find (is_of_zid zid) rest)) of)

  later : (seat : Seat) (rest : List Seat) → zid.0 ≤ seat.0 → eqb zid.0 seat.0 ≡ false → AllByRecursion (λ s. seat_cmp seat s ≡ Less) rest → find (is_of_zid zid) rest ≡ None
  later seat [] le ne all = refl
  later seat (s ∷ rest) le ne all = ap (λ b. cond b (Some s) (find (is_of_zid zid) rest)) (by (eqb zid.0 s.0) refl) ∙ later seat rest le ne all.1
    where
      by : (b : Bool) → eqb zid.0 s.0 ≡ b → b ≡ false
      by false e = refl
      by true e =
          let up : seat.0 ≤ s.0 = first_le seat s (ap is_le all.0) in
          let same : zid.0 ≡ s.0 = eqb-true zid.0 s.0 e in
          absurd (eqb-false zid.0 seat.0 ne (omega arith))

  -- it starts with another seat: the id has none
  pub other_seat : (seat : Seat) (seats rest : List Seat) → IsStrictlySortedBy seat_cmp seats → filter (is_from zid) seats ≡ seat ∷ rest → (seat.0 ≡ zid.0 → ⊥) → seated zid seats ≡ None
  other_seat seat seats rest sorted is apart =
      let ne : eqb zid.0 seat.0 ≡ false = grind arith in
      let kept : IsStrictlySortedBy seat_cmp (seat ∷ rest) = subst (IsStrictlySortedBy seat_cmp) is (IsStrictlySortedBy-filter seat_cmp (is_from zid) seats sorted) in
      let from : is_from zid seat ≡ true = first_passes (is_from zid) seats seat rest is in
      ap (option_map (λ (s : Seat). s.1))
      (sym (find_kept (is_of_zid zid) (is_from zid) (of_from zid) seats)
      ∙ ap (find (is_of_zid zid)) is
      ∙ ap (λ b. cond b (Some seat) (find (is_of_zid zid) rest)) ne
      ∙ later seat rest (from_le zid seat from) ne (sorted_head seat_cmp seat rest kept))

  -- nothing is left: the id has no seat
  pub no_seat : (seats : List Seat) → filter (is_from zid) seats ≡ [] → seated zid seats ≡ None
  no_seat seats is = ap (option_map (λ (s : Seat). s.1)) (sym (find_kept (is_of_zid zid) (is_from zid) (of_from zid) seats) ∙ ap (find (is_of_zid zid)) is)

-- ---- the faces of ids
module _ (from : Option ℕ) (seats : List Seat) where
  face_by : (o : Option ℕ) (rest : List Zid) → map number (filter_map (other_seated from seats) rest) ≡ faces_by from (λ z. seated z seats) rest
      → map number (cons_option (option_and_then (λ n. if is_other from n then Some (record { 0 = n }) else None) o) (filter_map (other_seated from seats) rest))
      ≡ filter (is_other from) (cons_option o (filter_map (λ z. seated z seats) rest))
  face_by None rest ih = ih
  face_by (Some n) rest ih = by (is_other from n)
    where
      by : (b : Bool) → map number (cons_option (if b then Some (record { 0 = n }) else None) (filter_map (other_seated from seats) rest)) ≡ cond b (n ∷ faces_by from (λ z. seated z seats) rest) (faces_by from (λ z. seated z seats) rest)
      by true = ap (λ l. n ∷ l) ih
      by false = ih

  -- the faces of the ids' first seats, without the one that the call came from
  pub faces_are : (zids : List Zid) → map number (filter_map (other_seated from seats) zids) ≡ faces_by from (λ z. seated z seats) zids
  faces_are [] = refl
  faces_are (zid ∷ zids) = face_by (seated zid seats) zids (faces_are zids)
