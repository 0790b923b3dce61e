-- How many finals of a request are to come, by a run's trace; and that a call hands one in exactly the cases that the trace tells.
use Rattle.std.proofs.Common.{◌≡◌, ◌∙◌, refl, sym, ap, subst, ℕ, ◌≤◌, Bool, true, false, cond, not, List, [], ◌∷◌, map, length, Option, Some, None, arith, true≢false, eqb-true, ◌⊎◌, inl, inr}
use Rattle.std.specs.Prelude.{◌==◌, ◌&&◌, ◌||◌}
use Rattle.std.specs.List.{Contains, filter, list_any}
use Rattle.std.specs.Option.{option_map_or}
use Rattle.std.proofs.lemmas.Bool.{and_from, and_parts, cases_Bool}
use Rattle.zq_message.specs.declared.message.FaceId.{FaceId}
use Rattle.zq_query.specs.declared.records.Final.{Final}
use Rattle.zq_query.specs.Balance.{owed_by}
use Rattle.zq_query.specs.Records.{Record, final_of, has_number, is_closed as counts_closed}
use Rattle.zq_machine.specs.Configs.{Settings}
use Rattle.zq_machine.specs.Agreeing.{Agrees, number_of}
use Rattle.zq_machine.proofs.Lists.{all_failing, count, count_none, count_stricter, is_same as is_number, none_passing, one_of_sorted}
use Rattle.zq_trace.specs.Faces.{Trace}
use Rattle.zq_trace.specs.Awaited.{request, waits}
use Rattle.zq_trace.proofs.Asked.{records_asked}
use Rattle.zq_trace.proofs.Open.{Found, all_at, any_from, found, waits_alike}
use Rattle.zq_trace.proofs.Runs.{IsRun, reached, run_promise, state_of}

-- what the machine keeps agrees, at the end of each trace
pub agrees_now : (config : Settings) (past : Trace) → Agrees (reached config past)
agrees_now config past = subst Agrees (state_of config past) (run_promise config past).agrees

count_map : (n : ℕ) (rs : List Record) → count (is_number n) (map number_of rs) ≡ count (has_number n) rs
count_map n [] = refl
count_map n (r ∷ rs) = by (r.number == n) (count_map n rs)
  where
    by : (b : Bool) → count (is_number n) (map number_of rs) ≡ count (has_number n) rs
        → length (cond b (r.number ∷ filter (is_number n) (map number_of rs)) (filter (is_number n) (map number_of rs))) ≡ length (cond b (r ∷ filter (has_number n) rs) (filter (has_number n) rs))
    by true ih = omega (arith, ih)
    by false ih = ih

pub count_some : {X : Type 0} (p : X → Bool) (xs : List X) → list_any p xs ≡ true → 1 ≤ count p xs
count_some p [] h = absurd (true≢false (sym h))
count_some p (x ∷ xs) h = by (p x) h (count_some p xs)
  where
    by : (b : Bool) → (b || list_any p xs) ≡ true → (list_any p xs ≡ true → 1 ≤ count p xs) → 1 ≤ length (cond b (x ∷ filter p xs) (filter p xs))
    by true h ih = omega arith
    by false h ih = ih h

module _ (config : Settings) (past : Trace) (run : IsRun config past) (closed : List ℕ) (n : ℕ) where
  abbrev records : List Record
  records = (reached config past).core.queries.records

  abbrev is_open_one : Record → Bool
  is_open_one r = (r.number == n) && not (counts_closed closed r.asker.0)

  one_record : count (has_number n) records ≤ 1
  one_record =
      let one = one_of_sorted n (map number_of records) (agrees_now config past).numbered.numbers in
      let same = count_map n records in
      omega (arith, one, same)

  abbrev pub owing_by : Bool → Option Final → ℕ
  owing_by b None = 0
  owing_by b (Some f) = cond (b && not (counts_closed closed f.asker.0)) 1 0

  abbrev pub owing : Option Final → ℕ
  owing o = owing_by (waits config past n) o

  none_owed : list_any (has_number n) records ≡ false → owed_by closed n records ≡ 0
  none_owed h =
      let none : count (has_number n) records ≡ 0 = count_none (has_number n) records h in
      let fewer : owed_by closed n records ≤ count (has_number n) records = count_stricter (has_number n) (λ (r : Record). not (counts_closed closed r.asker.0)) records in
      omega (arith, none, fewer)

  asked_so : (r : Record) → Contains records r → (r.number == n) ≡ true → request past n ≡ Some (final_of r)
  asked_so r has is = subst (λ k. request past k ≡ Some (final_of r)) (eqb-true r.number n is) (all_at (λ (q : Record). request past q.number ≡ Some (final_of q)) records r (records_asked config past run) has)

  one_owed : (r : Record) → Contains records r → (r.number == n) ≡ true → (b : Bool) → counts_closed closed r.asker.0 ≡ b → owed_by closed n records ≡ cond (not b) 1 0
  one_owed r has is true shut = count_none is_open_one records (none_passing is_open_one records (all_failing is_open_one records (none (cases_Bool (list_any is_open_one records)))))
    where
      none : (list_any is_open_one records ≡ true) ⊎ (list_any is_open_one records ≡ false) → list_any is_open_one records ≡ false
      none (inr h) = h
      none (inl h) =
          let q : Found is_open_one records = found is_open_one records h in
          let parts = and_parts (q.0.number == n) (not (counts_closed closed q.0.asker.0)) q.1 in
          let same : Some (final_of q.0) ≡ Some (final_of r) = sym (asked_so q.0 q.2 parts.0) ∙ asked_so r has is in
          let asker : q.0.asker ≡ r.asker = ap (λ (o : Option Final). option_map_or (λ (f : Final). f.asker) o r.asker) same in
          absurd (true≢false (sym parts.1 ∙ ap (λ (f : FaceId). not (counts_closed closed f.0)) asker ∙ ap not shut))
  one_owed r has is false stays =
      let some : 1 ≤ count is_open_one records = count_some is_open_one records (any_from is_open_one records r has (and_from (r.number == n) (not (counts_closed closed r.asker.0)) is (ap not stays))) in
      let fewer : owed_by closed n records ≤ count (has_number n) records = count_stricter (has_number n) (λ (q : Record). not (counts_closed closed q.asker.0)) records in
      let one = one_record in
      omega (arith, some, fewer, one)

  -- what is owed of a request is one final, while it waits and its asker is open
  pub owed_is : owed_by closed n records ≡ owing (request past n)
  owed_is = by (list_any (has_number n) records) refl
    where
      zero_of : (o : Option Final) → owing_by false o ≡ 0
      zero_of None = refl
      zero_of (Some f) = refl

      by : (b : Bool) → list_any (has_number n) records ≡ b → owed_by closed n records ≡ owing (request past n)
      by false h = none_owed h ∙ sym (ap (λ b. owing_by b (request past n)) (sym (waits_alike config past run n) ∙ h) ∙ zero_of (request past n))
      by true h =
          let r : Found (has_number n) records = found (has_number n) records h in
          one_owed r.0 r.2 r.1 (counts_closed closed r.0.asker.0) refl
          ∙ sym (ap owing (asked_so r.0 r.2 r.1) ∙ ap (λ b. cond (b && not (counts_closed closed r.0.asker.0)) 1 0) (sym (waits_alike config past run n) ∙ h))
