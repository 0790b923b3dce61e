-- The requests of a run, by its trace: who asked each open record, and how many there are.
use Rattle.std.proofs.Common.{◌≡◌, ◌∙◌, refl, sym, ap, subst, ℕ, ◌+◌, ◌≤◌, cond, List, [], ◌∷◌, ◌++◌, map, length, Some, arith, length-append, eq-eqb, ne_eqb}
use Rattle.std.specs.Prelude.{◌==◌, ◌||◌, find}
use Rattle.std.specs.List.{AllByRecursion, Contains}
use Rattle.std.proofs.lemmas.List.{length-map, map-append}
use Rattle.std.proofs.lemmas.List.Elements.{All-contains, All-from_recursion}
use Rattle.zq_machine.proofs.Lists.{all_weaker}
use Rattle.zq_query.specs.declared.records.Final.{Final}
use Rattle.zq_query.specs.Records.{Record, final_of, is_closed as counts_closed}
use Rattle.zq_machine.specs.declared.call.Call.{Call}
use Rattle.zq_machine.specs.declared.call.Call.TheVariants as call
use Rattle.zq_machine.specs.declared.call.Outcome.{Outcome}
use Rattle.zq_machine.specs.declared.call.Outcome.TheVariants as outcome
use Rattle.zq_machine.specs.declared.call.Step.{Step}
use Rattle.zq_machine.specs.Configs.{Settings}
use Rattle.zq_machine.specs.Machine.{after, step}
use Rattle.zq_machine.specs.Asked.{AreCounted, IsAsked, asked_as, asked_by as machine_asked_by, asked_number, closes as machine_closes}
use Rattle.zq_trace.specs.Faces.{Trace, closes, is_closed}
use Rattle.zq_trace.specs.Awaited.{asked_by, request, requests}
use Rattle.zq_trace.specs.Expected.{next_request}
use Rattle.zq_trace.proofs.Runs.{IsRun, call_promise, reached}
use Rattle.zq_machine.proofs.Asking.{Asks, call_tells}

-- ---- closed faces
closes_same : (face : ℕ) (c : Call) (t : Step) → machine_closes face c t ≡ closes face c t.outcome
closes_same face (call.Close f) t = refl
closes_same face c t = refl

pub closed_alike : (config : Settings) (past : Trace) → IsRun config past → (face : ℕ) → counts_closed (reached config past).core.queries.closed face ≡ is_closed past face
closed_alike config [] run face = refl
closed_alike config (x ∷ past) run face =
    (call_promise config past x.0).closed face
    ∙ (λ j. (closes_same face x.0 (step (reached config past) x.0) ∙ ap (λ (t : Step). closes face x.0 t.outcome) (sym run.0)) j || closed_alike config past run.1 face j)

-- ---- what a call asks
asked_same : (c : Call) (t : Step) → machine_asked_by c t ≡ asked_by c t.outcome
asked_same (call.Request face r now) t = by t.outcome
  where
    by : (o : Outcome) → asked_as face r o ≡ asked_by (call.Request face r now) o
    by (outcome.Asked n) = refl
    by (outcome.Opened f) = refl
    by (outcome.Replied k) = refl
    by outcome.Done = refl
    by (outcome.Refused x) = refl
asked_same c t = refl

pub asked_now : (config : Settings) (x : Call × Step) (past : Trace) → x.1 ≡ step (reached config past) x.0 → machine_asked_by x.0 (step (reached config past) x.0) ≡ asked_by x.0 x.1.outcome
asked_now config x past is = ap (machine_asked_by x.0) (sym is) ∙ asked_same x.0 x.1

-- each record is of a request that was accepted
pub asks_now : (config : Settings) (past : Trace) → IsRun config past → Asks (requests past) (reached config past)
asks_now config [] run = tt
asks_now config (x ∷ past) run =
    subst (λ l. Asks (requests past ++ l) (after (reached config past) x.0)) (asked_now config x past run.0)
    (call_tells (requests past) (reached config past) (asks_now config past run.1) x.0).records

-- ---- numbers
in_all : (m k : ℕ) (new : List Final) → ((rest : List ℕ) → AreCounted k rest → AreCounted m (map asked_number new ++ rest)) → k ≡ m + length new
in_all m k [] counted = let at : k ≡ m = (counted (k ∷ []) (refl, tt)).0 in omega (arith, at)
in_all m k (f ∷ new) counted = let more : k ≡ m + 1 + length new = in_all (m + 1) k new (λ rest are. (counted rest are).1) in omega (arith, more)

one_more : (n m k : ℕ) (fs new : List Final) → n + length fs ≡ m → ((rest : List ℕ) → AreCounted k rest → AreCounted m (map asked_number new ++ rest)) → n + length (fs ++ new) ≡ k
one_more n m k fs new now counted =
    let all : k ≡ m + length new = in_all m k new counted in
    let both : length (fs ++ new) ≡ length fs + length new = length-append fs new in
    omega (arith, all, both, now)

pub counted_now : (config : Settings) (past : Trace) → IsRun config past → next_request config past ≡ (reached config past).core.queries.requests
counted_now config [] run = let e : config.start.requests + 0 ≡ config.start.requests = omega arith in e
counted_now config (x ∷ past) run =
    one_more config.start.requests (reached config past).core.queries.requests (after (reached config past) x.0).core.queries.requests (requests past) (asked_by x.0 x.1.outcome) (counted_now config past run.1)
    (subst (λ (l : List Final). (rest : List ℕ) → AreCounted (after (reached config past) x.0).core.queries.requests rest → AreCounted (reached config past).core.queries.requests (map asked_number l ++ rest)) (asked_now config x past run.0)
    (call_tells (requests past) (reached config past) (asks_now config past run.1) x.0).counted)

-- they are numbered one after another
numbered_more : (n : ℕ) (xs ys : List ℕ) → AreCounted n xs → AreCounted (n + length xs) ys → AreCounted n (xs ++ ys)
numbered_more n [] ys are more = subst (λ k. AreCounted k ys) (let e : n + 0 ≡ n = omega arith in e) more
numbered_more n (x ∷ xs) ys are more = (are.0, numbered_more (n + 1) xs ys are.1 (subst (λ k. AreCounted k ys) (let e : n + length (x ∷ xs) ≡ n + 1 + length xs = omega arith in e) more))

none_over : (n : ℕ) (xs ys : List ℕ) → AreCounted n (xs ++ ys) → AreCounted n xs
none_over n [] ys are = tt
none_over n (x ∷ xs) ys are = (are.0, none_over (n + 1) xs ys are.1)

pub numbered_now : (config : Settings) (past : Trace) → IsRun config past → AreCounted config.start.requests (map asked_number (requests past))
numbered_now config [] run = tt
numbered_now config (x ∷ past) run =
    subst (AreCounted config.start.requests) (sym (map-append asked_number (requests past) (asked_by x.0 x.1.outcome)))
    (numbered_more config.start.requests (map asked_number (requests past)) (map asked_number (asked_by x.0 x.1.outcome)) (numbered_now config past run.1)
    (subst (λ (l : List Final). AreCounted (config.start.requests + length (map asked_number (requests past))) (map asked_number l)) (asked_now config x past run.0)
    (subst (λ k. AreCounted k (map asked_number (machine_asked_by x.0 (step (reached config past) x.0)))) count
    (none_over (reached config past).core.queries.requests (map asked_number (machine_asked_by x.0 (step (reached config past) x.0))) []
    ((call_tells (requests past) (reached config past) (asks_now config past run.1) x.0).counted [] tt)))))
  where
    count : (reached config past).core.queries.requests ≡ config.start.requests + length (map asked_number (requests past))
    count = sym (counted_now config past run.1) ∙ ap (λ k. config.start.requests + k) (sym (length-map (requests past) asked_number))

-- ---- the request of a number
pub each_above : (n : ℕ) (fs : List Final) → AreCounted n (map asked_number fs) → AllByRecursion (λ (f : Final). n ≤ f.number) fs
each_above n [] are = tt
each_above n (f ∷ fs) are =
    let first : f.number ≡ n = are.0 in
    (omega (arith, first), all_weaker (λ (g : Final). n + 1 ≤ g.number) (λ (g : Final). n ≤ g.number) (λ g above. omega (arith, above)) fs (each_above (n + 1) fs are.1))

pub with_both : {X : Type 0} (P Q R : X → Type 0) → ((x : X) → P x → Q x → R x) → (xs : List X) → AllByRecursion P xs → AllByRecursion Q xs → AllByRecursion R xs
with_both P Q R gives [] p q = tt
with_both P Q R gives (x ∷ xs) p q = (gives x p.0 q.0, with_both P Q R gives xs p.1 q.1)

pub each_found : (n : ℕ) (fs : List Final) → AreCounted n (map asked_number fs) → AllByRecursion (λ (f : Final). find (λ (g : Final). g.number == f.number) fs ≡ Some f) fs
each_found n [] are = tt
each_found n (f ∷ fs) are =
    let first : f.number ≡ n = are.0 in (
      ap (λ b. cond b (Some f) (find (λ (g : Final). g.number == f.number) fs)) (eq-eqb f.number f.number refl),
      with_both (λ (g : Final). n + 1 ≤ g.number) (λ (g : Final). find (λ (h : Final). h.number == g.number) fs ≡ Some g) (λ (g : Final). find (λ (h : Final). h.number == g.number) (f ∷ fs) ≡ Some g)
          (λ g above it. ap (λ b. cond b (Some f) (find (λ (h : Final). h.number == g.number) fs)) (ne_eqb f.number g.number (λ same. absurd (omega (arith, same, first, above)))) ∙ it)
          fs (each_above (n + 1) fs are.1) (each_found (n + 1) fs are.1),
    )

-- the request of a number, where it was accepted
pub request_of : (config : Settings) (past : Trace) → IsRun config past → (f : Final) → Contains (requests past) f → request past f.number ≡ Some f
request_of config past run f has =
    All-contains (λ (g : Final). request past g.number ≡ Some g) (requests past) f
    (All-from_recursion (λ (g : Final). request past g.number ≡ Some g) (requests past) (each_found config.start.requests (requests past) (numbered_now config past run))) has

-- each record is of the request of its number
pub records_asked : (config : Settings) (past : Trace) → IsRun config past → AllByRecursion (λ (r : Record). request past r.number ≡ Some (final_of r)) (reached config past).core.queries.records
records_asked config past run =
    all_weaker (λ (r : Record). IsAsked (requests past) r.number r.asker r.id r.qos) (λ (r : Record). request past r.number ≡ Some (final_of r))
    (λ r has. request_of config past run (final_of r) has) (reached config past).core.queries.records (asks_now config past run)
