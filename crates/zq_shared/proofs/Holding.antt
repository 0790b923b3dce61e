-- Slots that are held, one more at a time.
use Rattle.std.proofs.Common.{◌≡◌, ◌≢◌, Option, Some, ne_eqb, ℕ, ◌+◌, ◌<◌, ◌≤◌, List, [], ◌∷◌, ◌++◌, length, get_or, take, zero, suc, eqb, refl, ap, ◌∙◌, arith, eq-eqb}
use Rattle.std.proofs.lemmas.List.{map-append, take_more}
use Rattle.zq_hold.specs.declared.slot.Slot.{Slot}
use Rattle.zq_hold.specs.Slots.{stood, times, weight}
use Rattle.zq_hold.specs.Owners.{owned, owner_at}
use Rattle.zq_shared.specs.Holding.{AreHeld, places}

pub times_append : (k : ℕ) (xs ys : List ℕ) → times k (xs ++ ys) ≡ times k xs + times k ys
times_append k [] ys = omega arith
times_append k (x ∷ xs) ys = let ih = times_append k xs ys in omega (arith, ih)

pub places_push : (k : ℕ) (hs : List Slot) (h : Slot) → times k (places (hs ++ h ∷ [])) ≡ times k (places hs) + weight (eqb h.0 k)
places_push k hs h =
    let both = ap (times k) (map-append (λ (s : Slot). s.0) hs (h ∷ [])) in
    let sum = times_append k (places hs) (h.0 ∷ []) in
    omega (arith, both, sum)

pub places_more : (k : ℕ) (hs : List Slot) (i : ℕ) (d : Slot) → i < length hs → times k (places (take (i + 1) hs)) ≡ times k (places (take i hs)) + weight (eqb (get_or hs i d).0 k)
places_more k hs i d inside = ap (λ (l : List Slot). times k (places l)) (take_more hs i d inside) ∙ places_push k (take i hs) (get_or hs i d)

pub place_here : (k : ℕ) (hs : List Slot) (i : ℕ) (d : Slot) → i < length hs → (get_or hs i d).0 ≡ k → 0 < times k (places hs)
place_here k [] i d inside e = absurd (omega (arith, inside))
place_here k (h ∷ hs) zero d inside e = let one = ap weight (eq-eqb h.0 k e) in omega (arith, one)
place_here k (h ∷ hs) (suc i) d inside e = let ih = place_here k hs i d (omega (arith, inside)) e in omega (arith, ih)

-- a slot that is held joins both lists
pub held_more : (hs : List Slot) (held : List ℕ) (h : Slot) → AreHeld hs held → AreHeld (hs ++ h ∷ []) (h.0 ∷ held)
held_more hs held h are k = let was = are k in let more = places_push k hs h in omega (arith, was, more)

pub places_none : (k : ℕ) (hs : List Slot) (i : ℕ) (d : Slot) → i < length hs → (get_or hs i d).0 ≢ k → times k (places (take i hs)) ≡ 0 → times k (places (take (i + 1) hs)) ≡ 0
places_none k hs i d inside other none =
    let more = places_more k hs i d inside in
    let no = ap weight (ne_eqb (get_or hs i d).0 k other) in
    omega (arith, more, no, none)

-- ---- a request owns one slot
pub has_owner : (n : ℕ) (owners : List (Option ℕ)) (k : ℕ) → owner_at owners k ≡ Some n → 0 < owned n owners
has_owner n [] k e = absurd (cc)
has_owner n (x ∷ xs) zero e = let mine = ap (stood n) e in let one = ap weight (eq-eqb n n refl) in omega (arith, mine, one)
has_owner n (x ∷ xs) (suc k) e = let ih = has_owner n xs k e in omega (arith, ih)

pub one_owner : (n : ℕ) (owners : List (Option ℕ)) (j k : ℕ) → owner_at owners j ≡ Some n → owner_at owners k ≡ Some n → owned n owners ≤ 1 → j ≡ k
one_owner n [] j k first second once = absurd (cc)
one_owner n (x ∷ xs) zero zero first second once = refl
one_owner n (x ∷ xs) zero (suc k) first second once = let mine = ap (stood n) first in let one = ap weight (eq-eqb n n refl) in let more = has_owner n xs k second in absurd (omega (arith, mine, one, more, once))
one_owner n (x ∷ xs) (suc j) zero first second once = let mine = ap (stood n) second in let one = ap weight (eq-eqb n n refl) in let more = has_owner n xs j first in absurd (omega (arith, mine, one, more, once))
one_owner n (x ∷ xs) (suc j) (suc k) first second once = ap suc (one_owner n xs j k first second (omega (arith, once)))
