-- How many entries of a request are pending, and which they are.
use Rattle.std.proofs.Common.{◌≡◌, ℕ, ◌<◌, ◌≤◌, Bool, true, false, cond, List, [], ◌∷◌, map, length, Option, Some, refl, sym, ap, ◌∙◌, arith, inl, inr}
use Rattle.std.specs.Prelude.{find, ◌==◌, ◌||◌, ◌&&◌, ◌⊎◌}
use Rattle.std.specs.List.{filter, list_any}
use Rattle.std.specs.Option.{option_map, option_map_or}
use Rattle.std.proofs.lemmas.Bool.{eq-eqb, false≢true, or_cases, or_left, or_parts, or_right}
use Rattle.zq_query.specs.declared.records.Final.{Final}
use Rattle.zq_query.specs.Records.{Pending, Record, final_of, has_entry, has_number, is_entry, owner, pending_count}
use Rattle.zq_machine.specs.Agreeing.{number_of}
use Rattle.zq_machine.specs.Waiting.{is_same, owes}
use Rattle.zq_machine.proofs.Lists.{count, count_none}
use Rattle.zq_machine.proofs.Lists as lists
use Rattle.zq_shared.proofs.Distinct.{none_counted}

-- an entry that passes is one
some_there : {X : Type 0} (p : X → Bool) (xs : List X) → list_any p xs ≡ true → 0 < length xs
some_there p [] h = absurd (false≢true h)
some_there p (x ∷ xs) h = omega arith

-- a number that no record has
none_owes : (n : ℕ) (e : Pending) (rs : List Record) → list_any (lists.is_same n) (map number_of rs) ≡ false → owes n e rs ≡ false
none_owes n e [] h = refl
none_owes n e (r ∷ rs) h =
    let p = or_parts (r.number == n) (list_any (lists.is_same n) (map number_of rs)) h in
    ap (λ b. (b && list_any (is_same e) r.pending) || owes n e rs) p.0 ∙ none_owes n e rs p.1

-- an entry that is pending is counted, where no two records have the number
pub owed_counts : (n : ℕ) (e : Pending) (rs : List Record) → count (lists.is_same n) (map number_of rs) ≤ 1 → owes n e rs ≡ true → 0 < pending_count n rs
owed_counts n e [] once h = absurd (false≢true h)
owed_counts n e (r ∷ rs) once h = by (r.number == n) h once (owed_counts n e rs)
  where
    by : (b : Bool) → ((b && list_any (is_same e) r.pending) || owes n e rs) ≡ true → length (cond b (r.number ∷ filter (lists.is_same n) (map number_of rs)) (filter (lists.is_same n) (map number_of rs))) ≤ 1
        → (count (lists.is_same n) (map number_of rs) ≤ 1 → owes n e rs ≡ true → 0 < pending_count n rs) → 0 < option_map_or (λ (r : Record). length r.pending) (cond b (Some r) (find (has_number n) rs)) 0
    by false g one ih = ih one g
    by true g one ih = here (or_cases (list_any (is_same e) r.pending) (owes n e rs) g)
      where
        here : ((list_any (is_same e) r.pending ≡ true) ⊎ (owes n e rs ≡ true)) → 0 < length r.pending
        here (inl found) = some_there (is_same e) r.pending found
        here (inr other) = absurd (false≢true (sym (none_owes n e rs (none_counted (lists.is_same n) (map number_of rs) (omega (arith, one)))) ∙ other))

pub same_itself : (e : Pending) → is_same e e ≡ true
same_itself e = (λ j. eq-eqb e.face e.face refl j && (eq-eqb e.id e.id refl j && eq-eqb e.deadline e.deadline refl j))

-- what is counted is pending
pub counted_owes : (n : ℕ) (rs : List Record) → 0 < pending_count n rs → (e : Pending) × (owes n e rs ≡ true)
counted_owes n [] h = absurd (omega (arith, h))
counted_owes n (r ∷ rs) h = by (r.number == n) h (counted_owes n rs)
  where
    first : (es : List Pending) → 0 < length es → (e : Pending) × (list_any (is_same e) es ≡ true)
    first [] g = absurd (omega (arith, g))
    first (e ∷ es) g = (e, or_left (is_same e e) (list_any (is_same e) es) (same_itself e))

    by : (b : Bool) → 0 < option_map_or (λ (r : Record). length r.pending) (cond b (Some r) (find (has_number n) rs)) 0
        → (0 < pending_count n rs → (e : Pending) × (owes n e rs ≡ true)) → (e : Pending) × (((b && list_any (is_same e) r.pending) || owes n e rs) ≡ true)
    by false g ih = ih g
    by true g ih = let f = first r.pending g in (f.0, or_left (list_any (is_same f.0) r.pending) (owes n f.0 rs) f.1)

-- the request that has an entry at a place
pub owner_owes : (face id : ℕ) (rs : List Record) (f : Final) → owner face id rs ≡ Some f → (e : Pending) × (owes f.number e rs ≡ true)
owner_owes face id [] f h = absurd (cc)
owner_owes face id (r ∷ rs) f h = by (has_entry face id r) refl h (owner_owes face id rs f)
  where
    found : (es : List Pending) → list_any (is_entry face id) es ≡ true → (e : Pending) × (list_any (is_same e) es ≡ true)
    found [] g = absurd (false≢true g)
    found (e ∷ es) g = (e, or_left (is_same e e) (list_any (is_same e) es) (same_itself e))

    by : (b : Bool) → has_entry face id r ≡ b → option_map final_of (cond b (Some r) (find (has_entry face id) rs)) ≡ Some f
        → (owner face id rs ≡ Some f → (e : Pending) × (owes f.number e rs ≡ true)) → (e : Pending) × (owes f.number e (r ∷ rs) ≡ true)
    by true e g ih =
        let there = found r.pending e in
        let same : r.number ≡ f.number = by_number f g in
        (there.0, or_left ((r.number == f.number) && list_any (is_same there.0) r.pending) (owes f.number there.0 rs) (λ j. eq-eqb r.number f.number same j && there.1 j))
      where
        by_number : (f : Final) → ◌≡◌ {A = Option Final} (Some (final_of r)) (Some f) → r.number ≡ f.number
        by_number f g = let e : final_of r ≡ f = cc in ap (λ (x : Final). x.number) e
    by false e g ih = let there = ih g in (there.0, or_right ((r.number == f.number) && list_any (is_same there.0) r.pending) (owes f.number there.0 rs) there.1)
