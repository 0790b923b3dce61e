-- The least face of an id.
use Rattle.std.proofs.Common.{◌≡◌, ◌<◌, ◌≤◌, ℕ, Bool, true, false, cond, List, [], ◌∷◌, refl, ap, ◌∙◌, sym, subst, arith, Some, None, Option, eqb, eqb-true, true≢false}
use Rattle.std.specs.Prelude.{◌||◌, find}
use Rattle.std.specs.Option.{option_map}
use Rattle.std.specs.List.{AllByRecursion}
use Rattle.std.specs.List.Sorted.{IsStrictlySortedBy}
use Rattle.std.specs.BTreeMap.{is_at}
use Rattle.std.specs.Cmp.{IsTotalOrder, nat_cmp_total, then_total, on_total}
use Rattle.std.specs.Ordering.{nat_cmp, ordering_then}
use Rattle.std.specs.declared.cmp.Ordering.{Ordering}
use Rattle.std.specs.declared.cmp.Ordering.TheVariants.{Less, Equal, Greater}
use Rattle.std.proofs.lemmas.Bool.{eqb-false, false≢true}
use Rattle.std.proofs.lemmas.Map.Keys.{sorted_head, sorted_tail}
use Rattle.std.proofs.lemmas.Map.Lookups.{CmpEqualImpliesEq, exact_pairs, exact_unsigned}
use Rattle.zq_message.specs.declared.message.Zid.{Zid}
use Rattle.zq_key.proofs.Lookups.{at_itself, same_key}
use Rattle.zq_strategy.specs.Seating.{Seat, has_seat, is_of_zid, seat_cmp, seated}

pub seat_total : IsTotalOrder seat_cmp
seat_total = then_total (on_total (λ (s : Seat). s.0) nat_cmp_total) (on_total (λ (s : Seat). s.1) nat_cmp_total)

pub seat_exact : CmpEqualImpliesEq seat_cmp
seat_exact = exact_pairs nat_cmp nat_cmp exact_unsigned exact_unsigned

-- the least of the numbers that belong, if any does
abbrev pub IsFirst : (ℕ → Bool) → Option ℕ → Type 0
IsFirst belongs None = (n : ℕ) → belongs n ≡ false
IsFirst belongs (Some n) = (belongs n ≡ true) × ((m : ℕ) → belongs m ≡ true → n ≤ m)

-- there is one at most
pub one_first : (belongs : ℕ → Bool) (a b : Option ℕ) → IsFirst belongs a → IsFirst belongs b → a ≡ b
one_first belongs None None x y = refl
one_first belongs None (Some n) x y = absurd (true≢false (sym y.0 ∙ x n))
one_first belongs (Some n) None x y = absurd (true≢false (sym x.0 ∙ y n))
one_first belongs (Some n) (Some m) x y = let up = x.1 m y.0 in let down = y.1 n x.0 in ap Some (omega (arith, up, down))

then_lt : (a b c d : ℕ) (r : Ordering) → nat_cmp a b ≡ r → ordering_then r (nat_cmp c d) ≡ Less → a ≡ b → c < d
then_lt a b c d Less is less same = grind arith
then_lt a b c d Equal is less same = grind arith
then_lt a b c d Greater is less same = grind arith

-- a seat of the same id that comes later is of a greater face
seat_lt : (a b : Seat) → seat_cmp a b ≡ Less → a.0 ≡ b.0 → a.1 < b.1
seat_lt a b less same = then_lt a.0 b.0 a.1 b.1 (nat_cmp a.0 b.0) refl less same

seat_apart : (a b : Seat) → eqb a.0 b.0 ≡ false → is_at (seat_cmp a) b ≡ false
seat_apart a b ne = by (is_at (seat_cmp a) b) refl
  where
    by : (c : Bool) → is_at (seat_cmp a) b ≡ c → c ≡ false
    by false e = refl
    by true e = absurd (eqb-false a.0 b.0 ne (ap (λ (s : Seat). s.0) (same_key seat_total seat_exact a b e)))

-- a seat among those after another comes after it
after_by : (s q x : Seat) (xs : List Seat) (b : Bool) → is_at (seat_cmp q) x ≡ b → AllByRecursion (λ y. seat_cmp s y ≡ Less) (x ∷ xs) → (b || has_seat q xs) ≡ true → (has_seat q xs ≡ true → seat_cmp s q ≡ Less) → seat_cmp s q ≡ Less
after_by s q x xs true at all has later = ap (seat_cmp s) (same_key seat_total seat_exact q x at) ∙ all.0
after_by s q x xs false at all has later = later has

after_all : (s q : Seat) (seats : List Seat) → AllByRecursion (λ x. seat_cmp s x ≡ Less) seats → has_seat q seats ≡ true → seat_cmp s q ≡ Less
after_all s q [] all has = absurd (false≢true has)
after_all s q (x ∷ xs) all has = after_by s q x xs (is_at (seat_cmp q) x) refl all has (λ h. after_all s q xs all.1 h)

module _ (zid : Zid) where
  abbrev belongs : List Seat → ℕ → Bool
  belongs seats n = has_seat (zid.0, n) seats

  least_by : (s : Seat) (xs : List Seat) (m : ℕ) (b : Bool) → is_at (seat_cmp (zid.0, m)) s ≡ b → zid.0 ≡ s.0 → AllByRecursion (λ x. seat_cmp s x ≡ Less) xs → (b || belongs xs m) ≡ true → s.1 ≤ m
  least_by s xs m true at same above has = let e = ap (λ (x : Seat). x.1) (same_key seat_total seat_exact (zid.0, m) s at) in omega (arith, e)
  least_by s xs m false at same above has = let l = seat_lt s (zid.0, m) (after_all s (zid.0, m) xs above has) (sym same) in omega (arith, l)

  firsts_by : (s : Seat) (xs : List Seat) (b : Bool) → eqb zid.0 s.0 ≡ b → AllByRecursion (λ x. seat_cmp s x ≡ Less) xs → IsFirst (belongs xs) (seated zid xs) → IsFirst (belongs (s ∷ xs)) (option_map (λ (x : Seat). x.1) (cond b (Some s) (find (is_of_zid zid) xs)))
  firsts_by s xs true is above ih =
      let same : zid.0 ≡ s.0 = eqb-true zid.0 s.0 is in
      (ap (λ b. b || belongs xs s.1) (ap (λ z. is_at (seat_cmp (z, s.1)) s) same ∙ at_itself seat_total seat_exact s), λ m has. least_by s xs m _ refl same above has)
  firsts_by s xs false is above ih =
      subst (λ (f : ℕ → Bool). IsFirst f (seated zid xs)) (λ i n. sym (ap (λ b. b || belongs xs n) (seat_apart (zid.0, n) s is)) i) ih

  -- the face of an id's first seat is the least that has a seat of it
  pub seated_first : (seats : List Seat) → IsStrictlySortedBy seat_cmp seats → IsFirst (belongs seats) (seated zid seats)
  seated_first [] sorted = λ n. refl
  seated_first (s ∷ xs) sorted = firsts_by s xs (eqb zid.0 s.0) refl (sorted_head seat_cmp s xs sorted) (seated_first xs (sorted_tail seat_cmp s xs sorted))
