-- The finals that a call hands are those that the trace tells, in order.
use Rattle.std.proofs.Common.{◌≡◌, ◌∙◌, refl, sym, ap, subst, ℕ, ◌+◌, ◌<◌, ◌≤◌, Bool, true, false, cond, not, List, [], ◌∷◌, ◌++◌, map, Option, Some, None, arith, true≢false, eqb-true, eq-eqb, eqb}
use Rattle.std.specs.Prelude.{◌==◌, ◌&&◌, ◌||◌, if◌then◌else◌}
use Rattle.std.specs.List.{AllByRecursion, cons_option, filter, filter_map, list_any}
use Rattle.std.specs.List.Sorted.{IsStrictlySortedBy}
use Rattle.std.specs.BTreeMap.{is_at}
use Rattle.std.specs.Option.{is_some, option_map, option_map_or}
use Rattle.std.specs.Ordering.{nat_cmp}
use Rattle.std.specs.declared.cmp.Ordering.TheVariants.{Less, Equal, Greater}
use Rattle.std.proofs.lemmas.Bool.{false≢true, lt-ltb}
use Rattle.std.proofs.lemmas.Cmp.{nat_cmp_total}
use Rattle.std.proofs.lemmas.List.{map-append}
use Rattle.std.proofs.lemmas.Map.Lookups.{exact_unsigned}
use Rattle.zq_key.proofs.Sorted.{same_keys}
use Rattle.zq_message.specs.declared.message.FaceId.{FaceId}
use Rattle.zq_message.specs.declared.message.Message.{Message}
use Rattle.zq_message.specs.declared.message.Message.TheVariants as message
use Rattle.zq_query.specs.declared.records.Final.{Final}
use Rattle.zq_machine.specs.declared.call.Call.{Call}
use Rattle.zq_machine.specs.declared.call.Step.{Step}
use Rattle.zq_machine.specs.Handing.{Handed}
use Rattle.zq_machine.specs.Configs.{Settings}
use Rattle.zq_machine.specs.Asked.{AreCounted, GoesToAsker, IsHandedToAsker, asked_number, is_declaration}
use Rattle.zq_machine.specs.Headline.{IsFit, ended_in, ends, finals_of as finals_handed, is_final, is_response, may_hand}
use Rattle.zq_machine.specs.Machine.{step}
use Rattle.zq_machine.proofs.Changing.{number_test}
use Rattle.zq_machine.proofs.Lists.{all_append, all_filter, all_mapped, all_parts, all_weaker, count_none, sorted_numbers}
use Rattle.zq_trace.specs.Faces.{Trace}
use Rattle.zq_trace.specs.Awaited.{asked_by, request, requests, waits}
use Rattle.zq_trace.specs.Expected.{Shown, final_to, finals_of, open_to, shown}
use Rattle.zq_trace.specs.Headline.{of_kind}
use Rattle.zq_trace.proofs.Asked.{asked_now, asks_now, each_above, each_found, numbered_now, request_of}
use Rattle.zq_machine.proofs.Asking.{call_tells}
use Rattle.zq_trace.proofs.Ending.{due_handed, due_to, handed_due, keeps, new_above, new_counted, old_below}
use Rattle.zq_trace.proofs.Open.{same_bool}
use Rattle.zq_trace.proofs.Owing.{count_some}
use Rattle.zq_trace.proofs.Runs.{IsRun, call_promise, reached}

-- ---- numbers
eqb_swap : (a b : ℕ) → eqb a b ≡ eqb b a
eqb_swap a b = same_bool (eqb a b) (eqb b a) (λ h. eq-eqb b a (sym (eqb-true a b h))) (λ h. eq-eqb a b (sym (eqb-true b a h)))

pub at_number : (q m : ℕ) → is_at (nat_cmp q) m ≡ (m == q)
at_number q m = number_test q m ∙ eqb_swap q m

any_number : (q : ℕ) (ns : List ℕ) → list_any (is_at (nat_cmp q)) ns ≡ list_any (λ m. m == q) ns
any_number q [] = refl
any_number q (m ∷ ns) = λ j. at_number q m j || any_number q ns j

any_asked : (q : ℕ) (fs : List Final) → list_any (λ m. m == q) (map asked_number fs) ≡ list_any (λ (f : Final). f.number == q) fs
any_asked q [] = refl
any_asked q (f ∷ fs) = ap (λ b. (f.number == q) || b) (any_asked q fs)

one_ended : (q : ℕ) (b : Bool) (o : Option ℕ) (ns : List ℕ) → list_any (λ m. m == q) (cons_option (if b then o else None) ns) ≡ ((b && option_map_or (λ m. m == q) o false) || list_any (λ m. m == q) ns)
one_ended q false o ns = refl
one_ended q true None ns = refl
one_ended q true (Some m) ns = refl

any_ended : (q : ℕ) (hs : List Handed) → list_any (λ m. m == q) (ended_in hs) ≡ list_any (ends q) hs
any_ended q [] = refl
any_ended q (h ∷ hs) = one_ended q (is_final h.message) h.number (ended_in hs) ∙ ap (λ b. ends q h || b) (any_ended q hs)

pub less_so : (n m : ℕ) → n < m → nat_cmp n m ≡ Less
less_so n m l = ap (λ b. cond b Less (cond (n == m) Equal Greater)) (lt-ltb n m l)

sorted_join : (xs ys : List ℕ) → IsStrictlySortedBy nat_cmp xs → IsStrictlySortedBy nat_cmp ys → AllByRecursion (λ x. AllByRecursion (λ y. nat_cmp x y ≡ Less) ys) xs → IsStrictlySortedBy nat_cmp (xs ++ ys)
unfolding IsStrictlySortedBy
sorted_join [] ys s r all = r
sorted_join (x ∷ xs) ys s r all = (all_append (λ y. nat_cmp x y ≡ Less) xs ys s.0 all.0, sorted_join xs ys s.1 r all.1)

counted_sorted : (n : ℕ) (fs : List Final) → AreCounted n (map asked_number fs) → IsStrictlySortedBy nat_cmp (map asked_number fs)
unfolding IsStrictlySortedBy
counted_sorted n [] are = tt
counted_sorted n (f ∷ fs) are =
    let first : f.number ≡ n = are.0 in (
      all_mapped (λ m. nat_cmp f.number m ≡ Less) asked_number fs
          (all_weaker (λ (g : Final). n + 1 ≤ g.number) (λ (g : Final). nat_cmp f.number g.number ≡ Less) (λ g above. less_so f.number g.number (omega (arith, above, first))) fs (each_above (n + 1) fs are.1)),
      counted_sorted (n + 1) fs are.1,
    )

-- ---- a call
module _ (config : Settings) (past : Trace) (run : IsRun config past) (c : Call) where
  abbrev t : Step
  t = step (reached config past) c

  abbrev later : Trace
  later = (c, t) ∷ past

  ran : IsRun config later
  ran = (refl, run)

  abbrev old : List Final
  old = filter (λ (f : Final). waits config past f.number) (requests past)

  abbrev new : List Final
  new = asked_by c t.outcome

  open_sorted : IsStrictlySortedBy nat_cmp (map asked_number (open_to config past c t))
  open_sorted =
      subst (IsStrictlySortedBy nat_cmp) (sym (map-append asked_number old new))
      (sorted_join (map asked_number old) (map asked_number new)
      (sorted_numbers asked_number (λ (f : Final). waits config past f.number) (requests past) (counted_sorted config.start.requests (requests past) (numbered_now config past run)))
      (counted_sorted (reached config past).core.queries.requests new (new_counted config past run c 0))
      (all_mapped (λ x. AllByRecursion (λ y. nat_cmp x y ≡ Less) (map asked_number new)) asked_number old
      (all_weaker (λ (f : Final). f.number < (reached config past).core.queries.requests) (λ (f : Final). AllByRecursion (λ y. nat_cmp f.number y ≡ Less) (map asked_number new))
      (λ f low. all_mapped (λ y. nat_cmp f.number y ≡ Less) asked_number new
      (all_weaker (λ (g : Final). (reached config past).core.queries.requests ≤ g.number) (λ (g : Final). nat_cmp f.number g.number ≡ Less) (λ g high. less_so f.number g.number (omega (arith, low, high))) new (new_above config past run c 0)))
      old (all_filter (λ (f : Final). f.number < (reached config past).core.queries.requests) (λ (f : Final). waits config past f.number) (requests past) (old_below config past run c 0)))))

  due_sorted : IsStrictlySortedBy nat_cmp (map asked_number (due_to config past c t))
  due_sorted = sorted_numbers asked_number (keeps config later) (open_to config past c t) open_sorted

  none_ended : (n : ℕ) → list_any (ends n) t.handed ≡ false → 1 ≤ finals_handed n t → ⊥
  none_ended n h some = let none = count_none (ends n) t.handed h in omega (arith, none, some)

  some_ended : (n : ℕ) (b : Bool) → list_any (ends n) t.handed ≡ b → 1 ≤ finals_handed n t → b ≡ true
  some_ended n true h some = refl
  some_ended n false h some = absurd (none_ended n h some)

  same_numbers : (n : ℕ) → list_any (is_at (nat_cmp n)) (ended_in t.handed) ≡ list_any (is_at (nat_cmp n)) (map asked_number (due_to config past c t))
  same_numbers n =
      any_number n (ended_in t.handed) ∙ any_ended n t.handed
      ∙ same_bool (list_any (ends n) t.handed) (list_any (λ (f : Final). f.number == n) (due_to config past c t))
      (λ h. handed_due config past run c n (count_some (ends n) t.handed h))
      (λ h. some_ended n (list_any (ends n) t.handed) refl (due_handed config past run c n h))
      ∙ sym (any_asked n (due_to config past c t)) ∙ sym (any_number n (map asked_number (due_to config past c t)))

  pub numbers_same : ended_in t.handed ≡ map asked_number (due_to config past c t)
  numbers_same = same_keys nat_cmp_total exact_unsigned (ended_in t.handed) (map asked_number (due_to config past c t)) (call_promise config past c).ordered due_sorted same_numbers

  -- ---- finals by their numbers
  abbrev by_number : ℕ → Option Shown
  by_number n = option_map final_to (request later n)

  due_shown : (fs : List Final) → AllByRecursion (λ (f : Final). request later f.number ≡ Some f) fs → filter_map by_number (map asked_number fs) ≡ map final_to fs
  due_shown [] all = refl
  due_shown (f ∷ fs) all = λ j. cons_option (option_map final_to (all.0 j)) (due_shown fs all.1 j)

  abbrev Says : List Handed → Type 0
  Says hs = map (shown past) (of_kind 2 hs) ≡ filter_map by_number (ended_in hs)

  handed_shown : (hs : List Handed) → AllByRecursion (IsFit (may_hand c)) hs → AllByRecursion (IsHandedToAsker (requests later)) hs → map (shown past) (of_kind 2 hs) ≡ filter_map by_number (ended_in hs)
  handed_shown [] fit all = refl
  handed_shown (h ∷ hs) fit all = by h.to h.number h.reply h.message h.leaves fit.0.number fit.0.flying all.0 (handed_shown hs fit.1 all.1)
    where
      by : (to : FaceId) (o p : Option ℕ) (m : Message) (l : Option Message) → is_some o ≡ not (is_declaration m) → is_some p ≡ is_response m → GoesToAsker (requests later) o to m
          → Says hs → Says (record { to = to; number = o; reply = p; message = m; leaves = l } ∷ hs)
      by to (Some n) None (message.ResponseFinal f) l some none goes rest =
          λ j. cons_option (option_map final_to (sym (request_of config later ran (record { number = n; asker = to; id = f.rid; qos = f.qos }) goes) j)) (rest j)
      by to None p (message.ResponseFinal f) l some none goes rest = absurd (false≢true some)
      by to (Some n) (Some k) (message.ResponseFinal f) l some none goes rest = absurd (true≢false none)
      by to o p (message.Request r) l some none goes rest = rest
      by to o p (message.Response r) l some none goes rest = rest
      by to o p (message.Interest r) l some none goes rest = rest
      by to o p (message.InterestFinal r) l some none goes rest = rest
      by to o p (message.Declare r) l some none goes rest = rest

  all_asked : AllByRecursion (λ (f : Final). request later f.number ≡ Some f) (requests past ++ new)
  all_asked = each_found config.start.requests (requests past ++ new) (numbered_now config later ran)

  pub finals_shown : map (shown past) (of_kind 2 t.handed) ≡ finals_of config past c t
  finals_shown =
      handed_shown t.handed (call_promise config past c).fit
      (subst (λ l. AllByRecursion (IsHandedToAsker (requests past ++ l)) t.handed) (asked_now config (c, t) past refl) (call_tells (requests past) (reached config past) (asks_now config past run) c).handed)
      ∙ ap (filter_map by_number) numbers_same
      ∙ due_shown (due_to config past c t) (all_filter (λ (f : Final). request later f.number ≡ Some f) (keeps config later) (open_to config past c t)
      (let parts = all_parts (λ (f : Final). request later f.number ≡ Some f) (requests past) new all_asked in
      all_append (λ (f : Final). request later f.number ≡ Some f) old new (all_filter (λ (f : Final). request later f.number ≡ Some f) (λ (f : Final). waits config past f.number) (requests past) parts.0) parts.1))
