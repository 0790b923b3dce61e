-- A call hands a final of exactly the requests that the trace tells.
use Rattle.std.proofs.Common.{◌≡◌, ◌∙◌, refl, sym, ap, subst, ℕ, ◌+◌, ◌<◌, ◌≤◌, Bool, true, false, cond, not, List, [], ◌∷◌, ◌++◌, map, length, Option, Some, None, arith, true≢false, eqb-true, eq-eqb, ◌⊎◌, inl, inr, length-append}
use Rattle.std.specs.Prelude.{◌==◌, ◌&&◌, ◌||◌, nat_lt, if◌then◌else◌, find}
use Rattle.std.specs.List.{AllByRecursion, Contains, filter, list_any}
use Rattle.std.proofs.lemmas.Bool.{and_from, and_parts, cases_lt, le-ltb, lt-ltb, or_left, or_right}
use Rattle.std.proofs.lemmas.List.Elements.{All-contains_itself, Contains-append_cases, Contains-append_left, Contains-append_right, Contains-push, Contains-push_cases, recursion_from_All}
use Rattle.std.proofs.lemmas.List.Folds.{list_any-append}
use Rattle.zq_message.specs.declared.message.FaceId.{FaceId}
use Rattle.zq_message.specs.declared.message.Request.{Request}
use Rattle.zq_query.specs.declared.records.Final.{Final}
use Rattle.zq_query.specs.Balance.{owed_by}
use Rattle.zq_query.specs.Records.{is_closed as counts_closed}
use Rattle.zq_machine.specs.declared.call.Call.{Call}
use Rattle.zq_machine.specs.declared.call.Call.TheVariants as call
use Rattle.zq_machine.specs.declared.call.Outcome.{Outcome}
use Rattle.zq_machine.specs.declared.call.Outcome.TheVariants as outcome
use Rattle.zq_machine.specs.declared.call.Refusal.{Refusal}
use Rattle.zq_machine.specs.declared.call.Step.{Step}
use Rattle.zq_machine.specs.Configs.{Settings}
use Rattle.zq_machine.specs.State.{State, is_open}
use Rattle.zq_machine.specs.Asked.{AreCounted, asked_number}
use Rattle.zq_machine.specs.Deciding.{Cause, causes, first_of, is_accepted, refusal_of}
use Rattle.zq_machine.specs.Headline.{KeepsPromises, RefusesBy, finals_of as finals_handed, to_come}
use Rattle.zq_machine.specs.Machine.{after, step}
use Rattle.zq_machine.specs.TextCalls.{read}
use Rattle.zq_machine.proofs.Lists.{all_passing}
use Rattle.zq_trace.specs.Faces.{Trace, is_closed}
use Rattle.zq_trace.specs.Awaited.{asked_by, request, requests, waits}
use Rattle.zq_trace.specs.Expected.{open_to}
use Rattle.zq_trace.proofs.Asked.{closed_alike, counted_now, each_above, numbered_now, request_of}
use Rattle.zq_trace.proofs.Open.{Found, all_at, any_from, found}
use Rattle.zq_trace.proofs.Owing.{agrees_now, owed_is, owing}
use Rattle.zq_trace.proofs.Runs.{IsRun, call_promise, reached}

-- ---- lists
contains_filter : {X : Type 0} (p : X → Bool) (xs : List X) (x : X) → Contains (filter p xs) x → Contains xs x × (p x ≡ true)
contains_filter p xs x has =
    all_at (λ y. Contains xs y × (p y ≡ true)) (filter p xs) x
    (all_passing (Contains xs) (λ y. Contains xs y × (p y ≡ true)) p (λ y passed in'. (in', passed)) xs (recursion_from_All (Contains xs) xs (All-contains_itself xs))) has

pub filter_any : {X : Type 0} (p q : X → Bool) (xs : List X) → list_any (λ x. p x && q x) xs ≡ list_any q (filter p xs)
filter_any p q [] = refl
filter_any p q (x ∷ xs) = by (p x) (filter_any p q xs)
  where
    by : (b : Bool) → list_any (λ y. p y && q y) xs ≡ list_any q (filter p xs) → ((b && q x) || list_any (λ y. p y && q y) xs) ≡ list_any q (cond b (x ∷ filter p xs) (filter p xs))
    by true ih = ap (λ z. q x || z) ih
    by false ih = ih

found_there : (n : ℕ) (fs : List Final) (f : Final) → find (λ (g : Final). g.number == n) fs ≡ Some f → Contains fs f × (f.number ≡ n)
found_there n [] f h = absurd (let gap : None ≡ Some f = h in cc)
found_there n (g ∷ fs) f h = by (g.number == n) refl h (found_there n fs f)
  where
    by : (b : Bool) → (g.number == n) ≡ b → cond b (Some g) (find (λ (x : Final). x.number == n) fs) ≡ Some f → (find (λ (x : Final). x.number == n) fs ≡ Some f → Contains fs f × (f.number ≡ n)) → Contains (g ∷ fs) f × (f.number ≡ n)
    by true e it rest =
        let same : g ≡ f = let it' : Some g ≡ Some f = it in cc in
        (subst (Contains (g ∷ fs)) same (Contains-append_left (g ∷ []) fs g (Contains-push [] g)), ap (λ (x : Final). x.number) (sym same) ∙ eqb-true g.number n e)
    by false e it rest = let y : Contains fs f × (f.number ≡ n) = rest it in (Contains-append_right (g ∷ []) fs f y.0, y.1)

each_below : (n : ℕ) (fs : List Final) (m : ℕ) → AreCounted n (map asked_number fs) → n + length fs ≤ m → AllByRecursion (λ (f : Final). f.number < m) fs
each_below n [] m are low = tt
each_below n (f ∷ fs) m are low =
    let first : f.number ≡ n = are.0 in
    (omega (arith, first, low), each_below (n + 1) fs m are.1 (omega (arith, low)))

counted_has : (k : ℕ) (fs : List Final) (n : ℕ) → AreCounted k (map asked_number fs) → k ≤ n → n < k + length fs → list_any (λ (f : Final). f.number == n) fs ≡ true
counted_has k [] n are low high = absurd (omega (arith, low, high))
counted_has k (f ∷ fs) n are low high = by (f.number == n) refl (counted_has (k + 1) fs n are.1)
  where
    first : f.number ≡ k
    first = are.0

    by : (b : Bool) → (f.number == n) ≡ b → (k + 1 ≤ n → n < k + 1 + length fs → list_any (λ (g : Final). g.number == n) fs ≡ true) → (b || list_any (λ (g : Final). g.number == n) fs) ≡ true
    by true e ih = refl
    by false e ih = ih (apart (cases_lt k n)) (omega (arith, high))
      where
        apart : (k < n) ⊎ (n ≤ k) → k + 1 ≤ n
        apart (inl l) = omega (arith, l)
        apart (inr l) = absurd (true≢false (sym (eq-eqb f.number n (omega (arith, l, low, first))) ∙ e))

-- ---- an asker is open
pub none_hold : (cs : List Cause) → first_of cs ≡ None → AllByRecursion (λ (x : Cause). x.0 ≡ false) cs
none_hold [] h = tt
none_hold (x ∷ cs) h = by x.0 refl h (none_hold cs)
  where
    by : (b : Bool) → x.0 ≡ b → (cond b (Some x.1) (first_of cs)) ≡ None → (first_of cs ≡ None → AllByRecursion (λ (y : Cause). y.0 ≡ false) cs) → AllByRecursion (λ (y : Cause). y.0 ≡ false) (x ∷ cs)
    by true e it rest = absurd (let gap : Some x.1 ≡ None = it in cc)
    by false e it rest = (e, rest it)

pub not_closed : (b : Bool) → not b ≡ false → b ≡ true
not_closed true h = refl
not_closed false h = absurd (true≢false h)

module _ (config : Settings) (past : Trace) (c : Call) where
  abbrev s : State
  s = reached config past

  abbrev promise : KeepsPromises s c
  promise = call_promise config past c

  pub none_refuses : is_accepted (step s c).outcome ≡ true → refusal_of s.core (read s c) ≡ None
  none_refuses yes' = by (refusal_of s.core (read s c)) refl promise.refusals
    where
      by : (x : Option Refusal) → refusal_of s.core (read s c) ≡ x → RefusesBy x s c → refusal_of s.core (read s c) ≡ None
      by None e told = e
      by (Some r) e told = absurd (true≢false (sym yes' ∙ ap (λ (t : Step). is_accepted t.outcome) told.0))

face_open : (config : Settings) (past : Trace) (face : FaceId) (r : Request) (now : ℕ) → is_accepted (step (reached config past) (call.Request face r now)).outcome ≡ true → counts_closed (after (reached config past) (call.Request face r now)).core.queries.closed face.0 ≡ false
face_open config past face r now accepted =
    (promise config past (call.Request face r now)).closed face.0
    ∙ (agrees_now config past).apart face.0 (not_closed (is_open face.0 (reached config past).core) (none_hold (causes (reached config past).core (read (reached config past) (call.Request face r now))) (none_refuses config past (call.Request face r now) accepted)).0)

asker_open : (config : Settings) (past : Trace) (c : Call) (f : Final) → Contains (asked_by c (step (reached config past) c).outcome) f → counts_closed (after (reached config past) c).core.queries.closed f.asker.0 ≡ false
asker_open config past (call.Request face r now) f has = by (step (reached config past) (call.Request face r now)).outcome refl has
  where
    none : Contains {X = Final} [] f → counts_closed (after (reached config past) (call.Request face r now)).core.queries.closed f.asker.0 ≡ false
    none h = absurd (let low : h.0 < 0 = h.1 in omega (arith, low))

    by : (o : Outcome) → (step (reached config past) (call.Request face r now)).outcome ≡ o → Contains (asked_by (call.Request face r now) o) f → counts_closed (after (reached config past) (call.Request face r now)).core.queries.closed f.asker.0 ≡ false
    by (outcome.Asked n) e h = it (Contains-push_cases [] (record { number = n; asker = face; id = r.id; qos = r.qos }) f h)
      where
        it : Contains {X = Final} [] f ⊎ (record { number = n; asker = face; id = r.id; qos = r.qos } ≡ f) → counts_closed (after (reached config past) (call.Request face r now)).core.queries.closed f.asker.0 ≡ false
        it (inl l) = none l
        it (inr same) = ap (λ (g : Final). counts_closed (after (reached config past) (call.Request face r now)).core.queries.closed g.asker.0) (sym same) ∙ face_open config past face r now (ap is_accepted e)
    by (outcome.Opened x) e h = none h
    by (outcome.Replied x) e h = none h
    by outcome.Done e h = none h
    by (outcome.Refused x) e h = none h
asker_open config past c f has = absurd (let low : has.0 < 0 = has.1 in omega (arith, low))

counted_tail : (n : ℕ) (fs gs : List Final) → AreCounted n (map asked_number (fs ++ gs)) → AreCounted (n + length fs) (map asked_number gs)
counted_tail n [] gs are = subst (λ k. AreCounted k (map asked_number gs)) (let e : n ≡ n + 0 = omega arith in e) are
counted_tail n (f ∷ fs) gs are = subst (λ k. AreCounted k (map asked_number gs)) (let e : n + 1 + length fs ≡ n + length (f ∷ fs) = omega arith in e) (counted_tail (n + 1) fs gs are.1)

abbrev pub keeps : Settings → Trace → Final → Bool
keeps config past f = not (waits config past f.number) && not (is_closed past f.asker.0)

-- the finals that are due to a call
abbrev pub due_to : Settings → Trace → Call → Step → List Final
due_to config past c t = filter (keeps config ((c, t) ∷ past)) (open_to config past c t)

module _ (config : Settings) (past : Trace) (run : IsRun config past) (c : Call) (n : ℕ) where
  abbrev t : Step
  t = step (reached config past) c

  abbrev later : Trace
  later = (c, t) ∷ past

  ran : IsRun config later
  ran = (refl, run)

  abbrev new : List Final
  new = asked_by c t.outcome

  abbrev shut : List ℕ
  shut = (after (reached config past) c).core.queries.closed

  abbrev first : ℕ
  first = (reached config past).core.queries.requests

  abbrev next : ℕ
  next = (after (reached config past) c).core.queries.requests

  abbrev is_it : Final → Bool
  is_it f = f.number == n

  first_is : config.start.requests + length (requests past) ≡ first
  first_is = counted_now config past run

  next_is : config.start.requests + length (requests past ++ new) ≡ next
  next_is = counted_now config later ran

  next_long : next ≡ first + length new
  next_long =
      let a = first_is in
      let b = next_is in
      let d : length (requests past ++ new) ≡ length (requests past) + length new = length-append (requests past) new in
      omega (arith, a, b, d)

  pub old_below : AllByRecursion (λ (f : Final). f.number < first) (requests past)
  old_below = each_below config.start.requests (requests past) first (numbered_now config past run) (let a = first_is in omega (arith, a))

  pub new_counted : AreCounted first (map asked_number new)
  new_counted = subst (λ k. AreCounted k (map asked_number new)) first_is (counted_tail config.start.requests (requests past) new (numbered_now config later ran))

  pub new_above : AllByRecursion (λ (f : Final). first ≤ f.number) new
  new_above = each_above first new new_counted

  all_below : AllByRecursion (λ (f : Final). f.number < next) (requests past ++ new)
  all_below = each_below config.start.requests (requests past ++ new) next (numbered_now config later ran) (let a = next_is in omega (arith, a))

  balance : finals_handed n t + to_come shut n (after (reached config past) c).core.queries ≡ to_come shut n (reached config past).core.queries
  balance = ((promise config past c).finals n).balance

  owed_before : owed_by shut n (reached config past).core.queries.records ≡ owing config past run shut n (request past n)
  owed_before = owed_is config past run shut n

  owed_after : owed_by shut n (after (reached config past) c).core.queries.records ≡ owing config later ran shut n (request later n)
  owed_after = owed_is config later ran shut n

  -- ---- what is due is handed
  none_after : (f : Final) → Contains (requests past ++ new) f → f.number ≡ n → waits config later n ≡ false → to_come shut n (after (reached config past) c).core.queries ≡ 0
  none_after f has is waits_not =
      let below : f.number < next = all_at (λ (g : Final). g.number < next) (requests past ++ new) f all_below has in
      let less : nat_lt n next ≡ true = lt-ltb n next (omega (arith, below, is)) in
      let of_it : request later n ≡ Some f = subst (λ k. request later k ≡ Some f) is (request_of config later ran f has) in
      let owed : owed_by shut n (after (reached config past) c).core.queries.records ≡ 0 = owed_after ∙ ap (owing config later ran shut n) of_it ∙ ap (λ b. cond (b && not (counts_closed shut f.asker.0)) 1 0) waits_not in
      let rest : ◌≡◌ {A = ℕ} (if nat_lt n next then 0 else 1) 0 = ap (λ b. cond b 0 1) less in
      omega (arith, owed, rest)

  some_before : (f : Final) → Contains (requests past) f → f.number ≡ n → waits config past n ≡ true → counts_closed shut f.asker.0 ≡ false → 1 ≤ to_come shut n (reached config past).core.queries
  some_before f has is waits_so stays =
      let of_it : request past n ≡ Some f = subst (λ k. request past k ≡ Some f) is (request_of config past run f has) in
      let owed : owed_by shut n (reached config past).core.queries.records ≡ 1 =
      owed_before ∙ ap (owing config past run shut n) of_it ∙ ap (λ b. cond (b && not (counts_closed shut f.asker.0)) 1 0) waits_so ∙ ap (λ b. cond (not b) 1 0) stays in
      omega (arith, owed)

  new_before : first ≤ n → 1 ≤ to_come shut n (reached config past).core.queries
  new_before low = let rest : ◌≡◌ {A = ℕ} (if nat_lt n first then 0 else 1) 1 = ap (λ b. cond b 0 1) (le-ltb n first low) in omega (arith, rest)

  kept_parts : (f : Final) → keeps config later f ≡ true → (waits config later f.number ≡ false) × (counts_closed shut f.asker.0 ≡ false)
  kept_parts f h =
      let parts = and_parts (not (waits config later f.number)) (not (is_closed later f.asker.0)) h in
      (untrue (waits config later f.number) parts.0, closed_alike config later ran f.asker.0 ∙ untrue (is_closed later f.asker.0) parts.1)
    where
      untrue : (b : Bool) → not b ≡ true → b ≡ false
      untrue true e = absurd (true≢false (sym e))
      untrue false e = refl

  pub due_handed : list_any is_it (due_to config past c t) ≡ true → 1 ≤ finals_handed n t
  due_handed h =
      let x : Found is_it (due_to config past c t) = found is_it (due_to config past c t) h in
      let f : Final = x.0 in
      let is : f.number ≡ n = eqb-true f.number n x.1 in
      let kept = contains_filter (keeps config later) (open_to config past c t) f x.2 in
      let parts = kept_parts f kept.1 in
      by f is parts.1 (subst (λ k. waits config later k ≡ false) is parts.0) (Contains-append_cases (filter (λ (g : Final). waits config past g.number) (requests past)) new f kept.0)
    where
      by : (f : Final) → f.number ≡ n → counts_closed shut f.asker.0 ≡ false → waits config later n ≡ false → Contains (filter (λ (g : Final). waits config past g.number) (requests past)) f ⊎ Contains new f → 1 ≤ finals_handed n t
      by f is stays waits_not (inl old) =
          let had = contains_filter (λ (g : Final). waits config past g.number) (requests past) f old in
          let before = some_before f had.0 is (subst (λ k. waits config past k ≡ true) is had.1) stays in
          let after' = none_after f (Contains-append_left (requests past) new f had.0) is waits_not in
          let all = balance in
          omega (arith, before, after', all)
      by f is stays waits_not (inr fresh) =
          let low : first ≤ f.number = all_at (λ (g : Final). first ≤ g.number) new f new_above fresh in
          let before = new_before (omega (arith, low, is)) in
          let after' = none_after f (Contains-append_right (requests past) new f fresh) is waits_not in
          let all = balance in
          omega (arith, before, after', all)

  -- ---- what is handed is due
  abbrev both : Final → Bool
  both f = keeps config later f && is_it f

  due_by : list_any both (open_to config past c t) ≡ true → list_any is_it (due_to config past c t) ≡ true
  due_by h = sym (filter_any (keeps config later) is_it (open_to config past c t)) ∙ h

  kept_so : (f : Final) → f.number ≡ n → waits config later n ≡ false → counts_closed shut f.asker.0 ≡ false → both f ≡ true
  kept_so f is waits_not stays =
      and_from (keeps config later f) (is_it f)
      (and_from (not (waits config later f.number)) (not (is_closed later f.asker.0)) (ap not (ap (waits config later) is ∙ waits_not)) (ap not (sym (closed_alike config later ran f.asker.0) ∙ stays)))
      (eq-eqb f.number n is)

  old_due : (f : Final) → Contains (requests past) f → both f ≡ true → waits config past f.number ≡ true → list_any is_it (due_to config past c t) ≡ true
  old_due f has so waits_so =
      due_by
      (list_any-append both (filter (λ (g : Final). waits config past g.number) (requests past)) new
      ∙ or_left (list_any both (filter (λ (g : Final). waits config past g.number) (requests past))) (list_any both new)
      (sym (filter_any (λ (g : Final). waits config past g.number) both (requests past)) ∙ any_from (λ (g : Final). waits config past g.number && both g) (requests past) f has (and_from (waits config past f.number) (both f) waits_so so)))

  new_due : (f : Final) → Contains new f → both f ≡ true → list_any is_it (due_to config past c t) ≡ true
  new_due f has so =
      due_by
      (list_any-append both (filter (λ (g : Final). waits config past g.number) (requests past)) new
      ∙ or_right (list_any both (filter (λ (g : Final). waits config past g.number) (requests past))) (list_any both new) (any_from both new f has so))

  later_if_before : (g : Final) → request past n ≡ Some g → request later n ≡ Some g
  later_if_before g e =
      let x : Contains (requests past) g × (g.number ≡ n) = found_there n (requests past) g e in
      subst (λ k. request later k ≡ Some g) x.1 (request_of config later ran g (Contains-append_left (requests past) new g x.0))

  before_low : (g : Final) → request past n ≡ Some g → n < first
  before_low g e =
      let x : Contains (requests past) g × (g.number ≡ n) = found_there n (requests past) g e in
      let low : g.number < first = all_at (λ (f : Final). f.number < first) (requests past) g old_below x.0 in
      let is : g.number ≡ n = x.1 in
      omega (arith, low, is)

  abbrev extra : ℕ → ℕ
  extra k = if nat_lt n k then 0 else 1

  -- no such request was asked: none is owed before and after
  none_asked : request later n ≡ None → 1 ≤ finals_handed n t → ⊥
  none_asked e some = by (request past n) refl
    where
      gone : (g : Final) → request later n ≡ Some g → ⊥
      gone g it = let gap : None ≡ Some g = sym e ∙ it in true≢false (absurd (let x : None ≡ Some g = gap in cc))

      fresh : first ≤ n → n < next → ⊥
      fresh low high =
          let there : list_any is_it new ≡ true = counted_has first new n new_counted low (let a = next_long in omega (arith, a, high)) in
          let x : Found is_it new = found is_it new there in
          gone x.0 (subst (λ k. request later k ≡ Some x.0) (eqb-true x.0.number n x.1) (request_of config later ran x.0 (Contains-append_right (requests past) new x.0 x.2)))

      owed_none : owed_by shut n (after (reached config past) c).core.queries.records ≡ 0
      owed_none = owed_after ∙ ap (owing config later ran shut n) e

      by : (o : Option Final) → request past n ≡ o → ⊥
      by (Some g) it = gone g (later_if_before g it)
      by None it =
          let before : owed_by shut n (reached config past).core.queries.records ≡ 0 = owed_before ∙ ap (owing config past run shut n) it in
          let behind = owed_none in
          let all = balance in
          place (cases_lt n first) (cases_lt n next) before
        where
          place : (n < first) ⊎ (first ≤ n) → (n < next) ⊎ (next ≤ n) → owed_by shut n (reached config past).core.queries.records ≡ 0 → ⊥
          place (inl low) other before =
              let rest : extra first ≡ 0 = ap (λ b. cond b 0 1) (lt-ltb n first low) in
              let all = balance in
              omega (arith, rest, before, all, some)
          place (inr low) (inl high) before = fresh low high
          place (inr low) (inr high) before =
              let rest : extra first ≡ 1 = ap (λ b. cond b 0 1) (le-ltb n first low) in
              let more : extra next ≡ 1 = ap (λ b. cond b 0 1) (le-ltb n next high) in
              let behind = owed_none in
              let all = balance in
              omega (arith, rest, more, before, behind, all, some)

  -- a request that was asked before: it waited, its asker is open, and it waits no more
  old_handed : (f : Final) → Contains (requests past) f → f.number ≡ n → request past n ≡ Some f → request later n ≡ Some f → 1 ≤ finals_handed n t → list_any is_it (due_to config past c t) ≡ true
  old_handed f has is it later_it some = by (waits config past n) (counts_closed shut f.asker.0) (waits config later n) refl refl refl
    where
      low : n < first
      low = before_low f it

      rest : extra first ≡ 0
      rest = ap (λ b. cond b 0 1) (lt-ltb n first low)

      before : (w b : Bool) → waits config past n ≡ w → counts_closed shut f.asker.0 ≡ b → owed_by shut n (reached config past).core.queries.records ≡ cond (w && not b) 1 0
      before w b u v = owed_before ∙ ap (owing config past run shut n) it ∙ (λ j. cond (u j && not (v j)) 1 0)

      behind : (w b : Bool) → waits config later n ≡ w → counts_closed shut f.asker.0 ≡ b → owed_by shut n (after (reached config past) c).core.queries.records ≡ cond (w && not b) 1 0
      behind w b u v = owed_after ∙ ap (owing config later ran shut n) later_it ∙ (λ j. cond (u j && not (v j)) 1 0)

      none : owed_by shut n (reached config past).core.queries.records ≡ 0 → list_any is_it (due_to config past c t) ≡ true
      none zero' =
          let a = rest in
          let all = balance in
          absurd (omega (arith, a, zero', all, some))

      by : (w b v : Bool) → waits config past n ≡ w → counts_closed shut f.asker.0 ≡ b → waits config later n ≡ v → list_any is_it (due_to config past c t) ≡ true
      by false b v e g h = none (before false b e g)
      by true true v e g h = none (before true true e g)
      by true false true e g h =
          let a = rest in
          let all = balance in
          let one : owed_by shut n (reached config past).core.queries.records ≡ 1 = before true false e g in
          let still : owed_by shut n (after (reached config past) c).core.queries.records ≡ 1 = behind true false h g in
          absurd (omega (arith, a, one, still, all, some))
      by true false false e g h = old_due f has (kept_so f is h g) (ap (waits config past) is ∙ e)

  -- a request that is asked now: it does not wait
  new_handed : (f : Final) → Contains new f → f.number ≡ n → request later n ≡ Some f → 1 ≤ finals_handed n t → list_any is_it (due_to config past c t) ≡ true
  new_handed f has is later_it some = by (waits config later n) refl
    where
      stays : counts_closed shut f.asker.0 ≡ false
      stays = asker_open config past c f has

      low : first ≤ n
      low = let l : first ≤ f.number = all_at (λ (g : Final). first ≤ g.number) new f new_above has in omega (arith, l, is)

      none_yet : (o : Option Final) → request past n ≡ o → owed_by shut n (reached config past).core.queries.records ≡ 0
      none_yet None e = owed_before ∙ ap (owing config past run shut n) e
      none_yet (Some g) e = let l = before_low g e in let m = low in absurd (omega (arith, l, m))

      by : (w : Bool) → waits config later n ≡ w → list_any is_it (due_to config past c t) ≡ true
      by false h = new_due f has (kept_so f is h stays)
      by true h =
          let rest : extra first ≡ 1 = ap (λ b. cond b 0 1) (le-ltb n first low) in
          let zero' = none_yet (request past n) refl in
          let one : owed_by shut n (after (reached config past) c).core.queries.records ≡ 1 = owed_after ∙ ap (owing config later ran shut n) later_it ∙ (λ j. cond (h j && not (stays j)) 1 0) in
          let all = balance in
          absurd (omega (arith, rest, zero', one, all, some))

  pub handed_due : 1 ≤ finals_handed n t → list_any is_it (due_to config past c t) ≡ true
  handed_due some = by (request later n) refl
    where
      by : (o : Option Final) → request later n ≡ o → list_any is_it (due_to config past c t) ≡ true
      by None e = absurd (none_asked e some)
      by (Some f) e = part (found_there n (requests past ++ new) f e)
        where
          part : Contains (requests past ++ new) f × (f.number ≡ n) → list_any is_it (due_to config past c t) ≡ true
          part x = of (Contains-append_cases (requests past) new f x.0)
            where
              of : Contains (requests past) f ⊎ Contains new f → list_any is_it (due_to config past c t) ≡ true
              of (inl old) = old_handed f old x.1 (subst (λ k. request past k ≡ Some f) x.1 (request_of config past run f old)) e some
              of (inr fresh) = new_handed f fresh x.1 e some
