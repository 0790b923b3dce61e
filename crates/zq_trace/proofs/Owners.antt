-- Whose an entry is, and where a reply goes, by a run's trace.
use Rattle.std.proofs.Common.{◌≡◌, ◌∙◌, refl, sym, ap, subst, ℕ, ◌+◌, ◌<◌, ◌≤◌, Bool, true, false, cond, List, [], ◌∷◌, ◌++◌, length, Option, Some, None, append-nil, append_assoc, arith, true≢false, eqb-true, eq-eqb, ◌⊎◌, inl, inr, length-append}
use Rattle.std.specs.Prelude.{◌==◌, ◌||◌, find}
use Rattle.std.specs.List.{Contains, filter, list_any}
use Rattle.std.specs.Option.{is_some, option_and_then, option_map}
use Rattle.std.proofs.lemmas.Bool.{and_from, and_parts}
use Rattle.std.proofs.lemmas.List.Elements.{Contains-append_cases, Contains-append_left, Contains-append_right, Contains-push, Contains-push_cases, filter-append}
use Rattle.zq_query.specs.declared.records.Final.{Final}
use Rattle.zq_query.specs.Records.{Record, final_of, has_entry, is_entry, owner as machine_owner}
use Rattle.zq_query.proofs.Putting.{owner_pending}
use Rattle.zq_machine.specs.declared.call.Call.{Call}
use Rattle.zq_machine.specs.declared.call.Step.{Step}
use Rattle.zq_machine.specs.Configs.{Settings}
use Rattle.zq_machine.specs.Agreeing.{all_pending}
use Rattle.zq_machine.specs.Asked.{AreCounted, replies_in, replies_of}
use Rattle.zq_machine.specs.Machine.{step}
use Rattle.zq_machine.specs.Waiting.{is_same, waits as has_entry_of}
use Rattle.zq_machine.proofs.Lists.{count}
use Rattle.zq_trace.specs.Faces.{Trace}
use Rattle.zq_trace.specs.Awaited.{Owed, is_taken, next_reply, owner, pending, request}
use Rattle.zq_trace.proofs.Asked.{records_asked}
use Rattle.zq_trace.proofs.Ids.{taken_alike}
use Rattle.zq_trace.proofs.Open.{Found, all_at, any_from, found, same_itself}
use Rattle.zq_trace.proofs.Owing.{agrees_now, count_some}
use Rattle.zq_trace.proofs.Pending.{entries_alike, is_owed, same_is}
use Rattle.zq_trace.proofs.Runs.{IsRun, reached, run_promise, steps_is, steps_of}

-- ---- finding
found_none : {X : Type 0} (p : X → Bool) (xs : List X) → list_any p xs ≡ false → find p xs ≡ None
found_none p [] h = refl
found_none p (x ∷ xs) h = by (p x) h (found_none p xs)
  where
    by : (b : Bool) → (b || list_any p xs) ≡ false → (list_any p xs ≡ false → find p xs ≡ None) → cond b (Some x) (find p xs) ≡ None
    by true e rest = absurd (true≢false e)
    by false e rest = rest e

abbrev First : {X : Type 0} → (X → Bool) → List X → Type 0
First {X} p xs = (x : X) × (find p xs ≡ Some x) × (p x ≡ true) × Contains xs x

first_by : {X : Type 0} (p : X → Bool) (x : X) (xs : List X) (b : Bool) → p x ≡ b → (b || list_any p xs) ≡ true → (list_any p xs ≡ true → First p xs) → First p (x ∷ xs)
first_by p x xs true e h rest = (x, ap (λ b. cond b (Some x) (find p xs)) e, e, Contains-append_left (x ∷ []) xs x (Contains-push [] x))
first_by p x xs false e h rest = let y : First p xs = rest h in (y.0, ap (λ b. cond b (Some x) (find p xs)) e ∙ y.1, y.2, Contains-append_right (x ∷ []) xs y.0 y.3)

first_found : {X : Type 0} (p : X → Bool) (xs : List X) → list_any p xs ≡ true → First p xs
first_found p [] h = absurd (true≢false (sym h))
first_found p (x ∷ xs) h = first_by p x xs (p x) refl h (first_found p xs)

-- ---- an entry is of one record
module _ (face id : ℕ) where
  count_here : (r : Record) (rs : List Record) → count (is_entry face id) (all_pending (r ∷ rs)) ≡ count (is_entry face id) r.pending + count (is_entry face id) (all_pending rs)
  count_here r rs = ap length (filter-append (is_entry face id) r.pending (all_pending rs)) ∙ length-append (filter (is_entry face id) r.pending) (filter (is_entry face id) (all_pending rs))

  count_among : (rs : List Record) (r : Record) → Contains rs r → has_entry face id r ≡ true → 1 ≤ count (is_entry face id) (all_pending rs)
  count_among [] r has h = absurd (let low : has.0 < 0 = has.1 in omega (arith, low))
  count_among (x ∷ rs) r has h = by (Contains-append_cases (x ∷ []) rs r has) (count_among rs r)
    where
      here : Contains (x ∷ []) r → x ≡ r
      here l = of (Contains-push_cases [] x r l)
        where
          of : Contains {X = Record} [] r ⊎ (x ≡ r) → x ≡ r
          of (inl gone) = absurd (let low : gone.0 < 0 = gone.1 in omega (arith, low))
          of (inr same) = same

      by : Contains (x ∷ []) r ⊎ Contains rs r → (Contains rs r → has_entry face id r ≡ true → 1 ≤ count (is_entry face id) (all_pending rs)) → 1 ≤ count (is_entry face id) (all_pending (x ∷ rs))
      by (inl l) rest =
          let some : 1 ≤ count (is_entry face id) x.pending = count_some (is_entry face id) x.pending (ap (has_entry face id) (here l) ∙ h) in
          let both = count_here x rs in
          omega (arith, some, both)
      by (inr l) rest = let some = rest l h in let both = count_here x rs in omega (arith, some, both)

  one_owner : (rs : List Record) (r : Record) → count (is_entry face id) (all_pending rs) ≤ 1 → Contains rs r → has_entry face id r ≡ true → find (has_entry face id) rs ≡ Some r
  one_owner [] r one has h = absurd (let low : has.0 < 0 = has.1 in omega (arith, low))
  one_owner (x ∷ rs) r one has h = by (has_entry face id x) refl (Contains-append_cases (x ∷ []) rs r has) (one_owner rs r (let both = count_here x rs in omega (arith, one, both)))
    where
      here : Contains (x ∷ []) r → x ≡ r
      here l = of (Contains-push_cases [] x r l)
        where
          of : Contains {X = Record} [] r ⊎ (x ≡ r) → x ≡ r
          of (inl gone) = absurd (let low : gone.0 < 0 = gone.1 in omega (arith, low))
          of (inr same) = same

      by : (b : Bool) → has_entry face id x ≡ b → Contains (x ∷ []) r ⊎ Contains rs r → (Contains rs r → has_entry face id r ≡ true → find (has_entry face id) rs ≡ Some r) → cond b (Some x) (find (has_entry face id) rs) ≡ Some r
      by true e (inl l) rest = ap Some (here l)
      by true e (inr l) rest =
          let some : 1 ≤ count (is_entry face id) x.pending = count_some (is_entry face id) x.pending e in
          let more = count_among rs r l h in
          let both = count_here x rs in
          absurd (omega (arith, some, more, both, one))
      by false e (inl l) rest = absurd (true≢false (sym (ap (has_entry face id) (here l) ∙ h) ∙ e))
      by false e (inr l) rest = rest l h

module _ (config : Settings) (past : Trace) (run : IsRun config past) (face id : ℕ) where
  abbrev records : List Record
  records = (reached config past).core.queries.records

  abbrev test : Owed → Bool
  test e = is_entry face id e.1

  none_of : (o : Option Final) → is_some o ≡ false → o ≡ None
  none_of None h = refl
  none_of (Some x) h = absurd (true≢false h)

  -- the request that has an entry
  pub owner_alike : machine_owner face id records ≡ owner config past face id
  owner_alike = by (is_taken (pending config past) face id) refl
    where
      by : (b : Bool) → is_taken (pending config past) face id ≡ b → machine_owner face id records ≡ owner config past face id
      by false h =
          none_of (machine_owner face id records) (owner_pending face id records ∙ taken_alike config past run face id ∙ h)
          ∙ sym (ap (option_and_then (λ (e : Owed). request past e.0)) (found_none test (pending config past) h))
      by true h =
          let e : First test (pending config past) = first_found test (pending config past) h in
          let owed : list_any (is_owed e.0.0 e.0.1) (pending config past) ≡ true = any_from (is_owed e.0.0 e.0.1) (pending config past) e.0 e.3 (and_from (e.0.0 == e.0.0) (is_same e.0.1 e.0.1) (eq-eqb e.0.0 e.0.0 refl) (same_itself e.0.1)) in
          let r : Found (has_entry_of e.0.0 e.0.1) records = found (has_entry_of e.0.0 e.0.1) records (entries_alike config past run e.0.0 e.0.1 ∙ owed) in
          let parts = and_parts (r.0.number == e.0.0) (list_any (is_same e.0.1) r.0.pending) r.1 in
          let p : Found (is_same e.0.1) r.0.pending = found (is_same e.0.1) r.0.pending parts.1 in
          let has : has_entry face id r.0 ≡ true = any_from (is_entry face id) r.0.pending p.0 p.2 (ap (is_entry face id) (same_is e.0.1 p.0 p.1) ∙ e.2) in
          let number : r.0.number ≡ e.0.0 = eqb-true r.0.number e.0.0 parts.0 in
          ap (option_map final_of) (one_owner face id records r.0 ((agrees_now config past).numbered.places face id) r.2 has)
          ∙ sym (all_at (λ (q : Record). request past q.number ≡ Some (final_of q)) records r.0 (records_asked config past run) r.2)
          ∙ ap (request past) number
          ∙ sym (ap (option_and_then (λ (x : Owed). request past x.0)) e.1)

-- ---- numbers of replies
counted_rest : (n : ℕ) (xs ys : List ℕ) → AreCounted n (xs ++ ys) → AreCounted (n + length xs) ys
counted_rest n [] ys are = subst (λ k. AreCounted k ys) (let e : n ≡ n + 0 = omega arith in e) are
counted_rest n (x ∷ xs) ys are = subst (λ k. AreCounted k ys) (let e : n + 1 + length xs ≡ n + length (x ∷ xs) = omega arith in e) (counted_rest (n + 1) xs ys are.1)

flat_more : (ts : List Step) (t : Step) → replies_in (ts ++ t ∷ []) ≡ replies_in ts ++ replies_of t
flat_more [] t = append-nil (replies_of t)
flat_more (u ∷ ts) t = ap (λ l. replies_of u ++ l) (flat_more ts t) ∙ sym (append_assoc (replies_of u) (replies_in ts) (replies_of t))

counted_replies : (config : Settings) (past : Trace) → next_reply config past ≡ config.start.replies + length (replies_in (steps_of past))
counted_replies config [] = let e : config.start.replies ≡ config.start.replies + 0 = omega arith in e
counted_replies config (x ∷ past) =
    let before = counted_replies config past in
    let both : length (replies_in (steps_of past ++ x.1 ∷ [])) ≡ length (replies_in (steps_of past)) + length (replies_of x.1) = ap length (flat_more (steps_of past) x.1) ∙ length-append (replies_in (steps_of past)) (replies_of x.1) in
    omega (arith, before, both)

-- the replies of a call have the next numbers
pub replies_numbered : (config : Settings) (past : Trace) → IsRun config past → (c : Call) → AreCounted (next_reply config past) (replies_of (step (reached config past) c))
replies_numbered config past run c =
    let t : Step = step (reached config past) c in
    subst (λ k. AreCounted k (replies_of t)) (sym (counted_replies config past))
    (counted_rest config.start.replies (replies_in (steps_of past)) (replies_of t)
    (subst (AreCounted config.start.replies) (flat_more (steps_of past) t)
    (subst (λ l. AreCounted config.start.replies (replies_in l)) (steps_is config ((c, t) ∷ past) (refl, run)) (run_promise config ((c, t) ∷ past)).replies)))
