-- While ids rise, no entry's id is above the last one given at its face; so the next id needs no search.
use Rattle.std.proofs.Common.{◌≡◌, ℕ, zero, suc, ◌+◌, ◌-◌, ◌<◌, ◌^◌, Bool, true, false, cond, List, [], ◌∷◌, length, take, get_or, ap, ◌∙◌, refl, arith, Some, None, Option, sym, subst, true≢false}
use Rattle.std.specs.Prelude.{not, ◌&&◌, ◌||◌}
use Rattle.std.proofs.lemmas.Bool.{ltb-false}
use Rattle.std.specs.Ordering.{nat_cmp}
use Rattle.std.specs.Cmp.{nat_cmp_total, first_so, second_so}
use Rattle.std.specs.Option.{is_some, unwrap_or}
use Rattle.std.specs.List.Sorted.{IsStrictlySortedBy}
use Rattle.std.specs.Map.{keys_of, remove_entry}
use Rattle.std.specs.BTreeMap.{is_at, insert_entry}
use Rattle.std.proofs.lemmas.Map.Lookups.{exact_unsigned}
use Rattle.zq_query.specs.declared.queries.Open.{Open}
use Rattle.zq_query.specs.declared.queries.Owed.{Owed}
use Rattle.zq_query.specs.Records.{first_free}
use Rattle.zq_query.specs.Asking.{giving}
use Rattle.zq_query.specs.Tables.{Dues, Place, place_cmp, lists, at_number, at_place, filled, records_of, IsTied, IsReached, IsRising, rises, all_rise}
use Rattle.zq_query.proofs.Keys.{place_total, place_exact, kept}
use Rattle.zq_query.proofs.Entries.{pending_is}
use Rattle.zq_query.proofs.Filling.{at_filled}
use Rattle.zq_query.proofs.Ids.{stops}
use Rattle.zq_key.proofs.Lookups.{same_key, at_itself, found_after_insertion}

-- ---- last ids
-- each last id is still reached
abbrev pub NoneFell : List (ℕ × ℕ) → List (ℕ × ℕ) → Type 0
NoneFell was now = (n id : ℕ) → at_number n was ≡ Some id → IsReached id (at_number n now)

put_by : (ls : List (ℕ × ℕ)) (n id m low : ℕ) (b : Bool) → is_at (nat_cmp n) m ≡ b → rises (at_number n ls) id ≡ true → at_number m ls ≡ Some low → IsReached low (cond b (Some id) (at_number m ls))
put_by ls n id m low true e up is =
    let here : at_number n ls ≡ Some low = ap (λ k. at_number k ls) (same_key nat_cmp_total exact_unsigned n m e) ∙ is in
    (id, refl, ltb-false id low (not_true _ (ap (λ q. rises q id) (sym here) ∙ up)))
  where
    not_true : (b : Bool) → not b ≡ true → b ≡ false
    not_true true h = absurd (true≢false (sym h))
    not_true false h = refl
put_by ls n id m low false e up is = (low, is, omega arith)

-- after one id that rises
pub none_fell : (ls : List (ℕ × ℕ)) (n id : ℕ) → rises (at_number n ls) id ≡ true → NoneFell ls (insert_entry nat_cmp ls n id)
none_fell ls n id up m low is = subst (IsReached low) (sym (found_after_insertion nat_cmp_total exact_unsigned n m id ls)) (put_by ls n id m low _ refl up is)

reached_from : (was now : List (ℕ × ℕ)) → NoneFell was now → (m low : ℕ) → IsReached low (at_number m was) → IsReached low (at_number m now)
reached_from was now fell m low (last, is, l) =
    let up = fell m last is in
    (up.0, up.1, omega (arith, l, up.2))

-- after all of them
pub all_risen : (ls : List (ℕ × ℕ)) (ps : List Place) → all_rise ls ps ≡ true → NoneFell ls (giving ls ps)
all_risen ls [] up m low is = (low, is, omega arith)
all_risen ls (p ∷ ps) up m low is =
    reached_from (insert_entry nat_cmp ls p.0 p.1) (giving ls (p ∷ ps)) (all_risen (insert_entry nat_cmp ls p.0 p.1) ps (second_so _ _ up)) m low
    (none_fell ls p.0 p.1 (first_so _ _ up) m low is)

put_here : (ls : List (ℕ × ℕ)) (n id : ℕ) → at_number n (insert_entry nat_cmp ls n id) ≡ Some id
put_here ls n id = found_after_insertion nat_cmp_total exact_unsigned n n id ls ∙ ap (λ b. cond b (Some id) (at_number n ls)) (at_itself nat_cmp_total exact_unsigned n)

given_by : (ls : List (ℕ × ℕ)) (p q : Place) (ps : List Place) (b : Bool) → is_at (place_cmp q) p ≡ b → all_rise (insert_entry nat_cmp ls p.0 p.1) ps ≡ true → (b || lists q ps) ≡ true
    → (lists q ps ≡ true → IsReached q.1 (at_number q.0 (giving ls (p ∷ ps)))) → IsReached q.1 (at_number q.0 (giving ls (p ∷ ps)))
given_by ls p q ps true e up h ih =
    subst (λ (z : Place). IsReached z.1 (at_number z.0 (giving ls (p ∷ ps)))) (sym (same_key place_total place_exact q p e))
    (all_risen (insert_entry nat_cmp ls p.0 p.1) ps up p.0 p.1 (put_here ls p.0 p.1))
given_by ls p q ps false e up h ih = ih h

-- each id that was given is reached
pub given_reached : (ls : List (ℕ × ℕ)) (ps : List Place) (q : Place) → all_rise ls ps ≡ true → lists q ps ≡ true → IsReached q.1 (at_number q.0 (giving ls ps))
given_reached ls [] q up h = absurd (true≢false (sym h))
given_reached ls (p ∷ ps) q up h = given_by ls p q ps _ refl (second_so _ _ up) h (given_reached (insert_entry nat_cmp ls p.0 p.1) ps q (second_so _ _ up))

pub and_over : (a b c : Bool) → (a && (b && c)) ≡ ((a && b) && c)
and_over true b c = refl
and_over false b c = refl

-- one more
pub rise_more : (ls : List (ℕ × ℕ)) (ps : List Place) (i : ℕ) (d : Place) → i < length ps
    → all_rise ls (take (i + 1) ps) ≡ (all_rise ls (take i ps) && rises (at_number (get_or ps i d).0 (giving ls (take i ps))) (get_or ps i d).1)
rise_more ls [] i d l = absurd (omega (arith, l))
rise_more ls (p ∷ ps) zero d l = and_true (rises (at_number p.0 ls) p.1)
  where
    and_true : (b : Bool) → (b && true) ≡ b
    and_true true = refl
    and_true false = refl
rise_more ls (p ∷ ps) (suc i) d l =
    let e : suc i + 1 ≡ suc (i + 1) = omega arith in
    rw e (ap (λ b. rises (at_number p.0 ls) p.1 && b) (rise_more (insert_entry nat_cmp ls p.0 p.1) ps i d (omega (arith, l)))
    ∙ and_over (rises (at_number p.0 ls) p.1) _ _)

-- ---- what is owed
-- at the start nothing is
pub rising_none : (rising : Bool) (ls : List (ℕ × ℕ)) → IsRising rising [] ls
rising_none rising ls h k v is = absurd (cc)

-- without one entry
pub rising_without : (rising : Bool) (pending : List (Place × Owed)) (ls : List (ℕ × ℕ)) (p : Place) → IsStrictlySortedBy place_cmp (keys_of pending) → IsRising rising pending ls → IsRising rising (remove_entry (is_at (place_cmp p)) pending) ls
rising_without rising pending ls p s all h k v is = all h k v (kept place_total place_exact p k v pending s is).1

-- after one last id is set
pub rising_set : (rising : Bool) (pending : List (Place × Owed)) (ls : List (ℕ × ℕ)) (n id : ℕ) → IsRising rising pending ls → IsRising (rising && rises (at_number n ls) id) pending (insert_entry nat_cmp ls n id)
rising_set rising pending ls n id all h k v is =
    reached_from ls (insert_entry nat_cmp ls n id) (none_fell ls n id (second_so _ _ h)) k.0 k.1 (all (first_so _ _ h) k v is)

filled_by : (pending : List (Place × Owed)) (ls : List (ℕ × ℕ)) (ps : List Place) (v w : Owed) (k : Place) (b : Bool) → lists k ps ≡ b → all_rise ls ps ≡ true → cond b (Some v) (at_place k pending) ≡ Some w
    → (at_place k pending ≡ Some w → IsReached k.1 (at_number k.0 ls)) → IsReached k.1 (at_number k.0 (giving ls ps))
filled_by pending ls ps v w k true e up h old = given_reached ls ps k up e
filled_by pending ls ps v w k false e up h old = reached_from ls (giving ls ps) (all_risen ls ps up) k.0 k.1 (old h)

-- with an entry at each place
pub rising_filled : (rising : Bool) (pending : List (Place × Owed)) (ls : List (ℕ × ℕ)) (ps : List Place) (v : Owed) → IsRising rising pending ls → IsRising (rising && all_rise ls ps) (filled pending ps v) (giving ls ps)
rising_filled rising pending ls ps v all h k w is =
    filled_by pending ls ps v w k _ refl (second_so _ _ h) (sym (at_filled pending ps v k) ∙ is) (all (first_so _ _ h) k w)

-- ---- the next id
above_by : (q : Option ℕ) (first id : ℕ) → id ≡ unwrap_or q first + 1 → IsReached id q → ⊥
above_by q first id next (last, is, l) =
    let e : unwrap_or q first ≡ last = ap (λ o. unwrap_or o first) is in
    omega (arith, next, l, e)

none_above : (pending : List (Place × Owed)) (ls : List (ℕ × ℕ)) (first : ℕ) (k : Place) (q : Option Owed) → IsRising true pending ls → at_place k pending ≡ q → k.1 ≡ unwrap_or (at_number k.0 ls) first + 1 → is_some q ≡ false
none_above pending ls first k None all is next = refl
none_above pending ls first k (Some v) all is next = absurd (above_by (at_number k.0 ls) first k.1 next (all refl k v is))

-- it is the one after the last
pub next_is : (heads : List (ℕ × Open)) (pending : List (Place × Owed)) (dues : Dues) (replies : List (ℕ × ℕ)) (ls : List (ℕ × ℕ)) (first face : ℕ) → IsTied heads pending dues replies → IsRising true pending ls
    → unwrap_or (at_number face ls) first + 1 < 2 ^ 32 → first_free face (records_of heads pending replies) (unwrap_or (at_number face ls) first) (2 ^ 32) ≡ Some (unwrap_or (at_number face ls) first + 1)
next_is heads pending dues replies ls first face tied all l =
    let last = unwrap_or (at_number face ls) first in
    stops face (records_of heads pending replies) last (last + 1) (2 ^ 32) (2 ^ 32 - 1) (omega (arith, l)) (omega arith)
    (sym (pending_is face (last + 1) heads pending dues replies tied) ∙ none_above pending ls first (face, last + 1) _ all refl refl)
