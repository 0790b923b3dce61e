-- Of each request one final comes at most, and nothing of it behind that, whatever calls and steps keep the headline.
use Rattle.std.proofs.Common.{◌≡◌, ◌∙◌, refl, sym, ap, subst, ℕ, suc, ◌+◌, ◌<◌, ◌≤◌, Bool, true, false, cond, not, List, [], ◌∷◌, ◌++◌, fold, map, length, Option, Some, None, arith, true≢false, eqb-true, eq-eqb, length-append, ◌⊎◌, inl, inr}
use Rattle.std.specs.Prelude.{◌==◌, ◌&&◌, ◌||◌, find, unwrap_or}
use Rattle.std.specs.List.{AllByRecursion, Contains, cons_option, filter, filter_map, list_any}
use Rattle.std.specs.BTreeSet.{insert_key}
use Rattle.std.specs.Option.{is_some, option_and_then, option_map, option_map_or}
use Rattle.std.specs.Ordering.{match_ordering}
use Rattle.std.specs.declared.cmp.Ordering.{Ordering}
use Rattle.std.specs.declared.cmp.Ordering.TheVariants.{Less, Equal, Greater}
use Rattle.std.proofs.lemmas.List.Elements.{Contains-append_left, Contains-append_right, Contains-push}
use Rattle.std.proofs.lemmas.Bool.{and_parts, or_parts, or_left, or_right}
use Rattle.zq_message.specs.declared.message.Message.{Message}
use Rattle.zq_message.specs.declared.message.Message.TheVariants as message
use Rattle.zq_message.specs.declared.message.Request.{Request}
use Rattle.zq_message.specs.declared.message.Response.{Response}
use Rattle.zq_message.specs.declared.message.FaceId.{FaceId}
use Rattle.zq_strategy.specs.declared.offer.QueryTargetQabl.{QueryTargetQabl}
use Rattle.zq_query.specs.declared.records.Final.{Final}
use Rattle.zq_query.specs.Polling.{is_due}
use Rattle.zq_query.specs.Records.{is_entry}
use Rattle.zq_query.specs.Tables.{Due, due_cmp}
use Rattle.zq_machine.specs.declared.call.Call.{Call}
use Rattle.zq_machine.specs.declared.call.Call.TheVariants as call
use Rattle.zq_machine.specs.declared.call.Outcome.TheVariants as outcome
use Rattle.zq_machine.specs.declared.call.Refusal.{Refusal}
use Rattle.zq_machine.specs.declared.call.Step.{Step}
use Rattle.zq_machine.specs.Configs.{Settings}
use Rattle.zq_machine.specs.Deciding.{is_accepted}
use Rattle.zq_machine.specs.Handing.{Handed}
use Rattle.zq_machine.specs.Selecting.{full_text}
use Rattle.zq_tables.specs.Naming.{FaceNaming, plain}
use Rattle.zq_machine.specs.Headline.{ends, finals_of as finals_in, finals_over, is_final}
use Rattle.zq_machine.specs.Waiting.{ends_entry, is_of, lands}
use Rattle.zq_machine.proofs.Lists.{all_append, all_failing, all_filter, all_parts, all_passing, all_weaker, count, count_append, count_filter, count_none, none_passing}
use Rattle.zq_trace.specs.Faces.{Trace, is_closed}
use Rattle.zq_trace.specs.Awaited.{Owed, asked_by, deadline, flight, in_flight, next_reply, owed, owed_by, owner, pending, request, requests, waits}
use Rattle.zq_trace.specs.Selected.{asked_key, select}
use Rattle.zq_trace.specs.Expected.{Shown, error_replies, final_to, finals_of, if_open, late, late_reply, next_request, open_to, replies_of, reply_says, reply_to, request_to, read_message, requests_of, shown}
use Rattle.zq_trace.specs.Refusals.{Lacks, refusal_of}
use Rattle.zq_trace.specs.Headline.{CallHeadline, Headline, HeadlineFrom, answer, if_accepted, is_numbered, kind, of_kind}
use Rattle.zq_trace.specs.Laws.{AreSilent, BackFrom, GoesBack, IsBack}
use Rattle.zq_trace.proofs.Open.{all_at, found}

-- ---- lists
all_put : {K : Type 0} (T : K → Type 0) (cmp : K → K → Ordering) (ks : List K) (k : K) → AllByRecursion T ks → T k → AllByRecursion T (insert_key cmp ks k)
all_put T cmp [] k all it = (it, tt)
all_put T cmp (x ∷ ks) k all it = by (cmp k x) (all_put T cmp ks k all.1 it)
  where
    by : (r : Ordering) → AllByRecursion T (insert_key cmp ks k) → AllByRecursion T (match_ordering r (k ∷ x ∷ ks) (x ∷ ks) (x ∷ insert_key cmp ks k))
    by Less ih = (it, all)
    by Equal ih = all
    by Greater ih = (all.0, ih)

all_gathered : {K : Type 0} (T : K → Type 0) (cmp : K → K → Ordering) (ks new : List K) → AllByRecursion T ks → AllByRecursion T new → AllByRecursion T (fold (insert_key cmp) ks new)
all_gathered T cmp ks [] all more = all
all_gathered T cmp ks (x ∷ new) all more = all_gathered T cmp (insert_key cmp ks x) new (all_put T cmp ks x all more.0) more.1

-- the first that passes a test has what all have, and passes it
abbrev IfThere : {X : Type 0} → (X → Type 0) → Option X → Type 0
IfThere P None = Unit {0}
IfThere P (Some x) = P x

first_has : {X : Type 0} (P : X → Type 0) (test : X → Bool) (xs : List X) → AllByRecursion P xs → IfThere (λ x. P x × (test x ≡ true)) (find test xs)
first_has P test [] all = tt
first_has P test (x ∷ xs) all = by (test x) refl (first_has P test xs all.1)
  where
    by : (b : Bool) → test x ≡ b → IfThere (λ y. P y × (test y ≡ true)) (find test xs) → IfThere (λ y. P y × (test y ≡ true)) (cond b (Some x) (find test xs))
    by true e rest = (all.0, e)
    by false e rest = rest

-- each of a list is found in it
each_there : {X : Type 0} (number : X → ℕ) (front xs : List X) → AllByRecursion (λ x. list_any (λ y. number y == number x) (front ++ xs) ≡ true) xs
each_there {X} number front [] = tt
each_there {X} number front (x ∷ xs) = (here front, all_weaker _ _ (λ y it. it) xs (subst (λ l. AllByRecursion (λ y. list_any (λ z. number z == number y) l ≡ true) xs) (shift front) (each_there number (front ++ x ∷ []) xs)))
  where
    here : (front : List X) → list_any (λ y. number y == number x) (front ++ x ∷ xs) ≡ true
    here [] = or_left (number x == number x) (list_any (λ y. number y == number x) xs) (eq-eqb (number x) (number x) refl)
    here (f ∷ front) = or_right (number f == number x) (list_any (λ y. number y == number x) (front ++ x ∷ xs)) (here front)

    shift : (front : List X) → (front ++ x ∷ []) ++ xs ≡ front ++ x ∷ xs
    shift [] = refl
    shift (f ∷ front) = ap (λ l. f ∷ l) (shift front)

-- ---- what a call hands
-- what is said of each message, where R is said of the request that it is of
module _ (T : Shown → Type 0) (R : Final → Type 0) (replied : (f : Final) → R f → (k : ℕ) (r : Response) → T (reply_to f k r)) (finished : (f : Final) → R f → T (final_to f)) where
  abbrev Showns : List Shown → Type 0
  Showns ss = AllByRecursion T ss

  unshown : (past : Trace) (hs : List Handed) → Showns (map (shown past) hs) → AllByRecursion (λ (h : Handed). T (shown past h)) hs
  unshown past [] all = tt
  unshown past (h ∷ hs) all = (all.0, unshown past hs all.1)

  module _ (lacks : Lacks) (config : Settings) (past : Trace) (asked : AllByRecursion (λ (f : Final). waits config past f.number ≡ true → R f) (requests past)) where
    -- a request that has an entry waits
    entry_waits : AllByRecursion (λ (e : Owed). waits config past e.0 ≡ true) (pending config past)
    entry_waits =
        all_weaker (λ (e : Owed). list_any (λ (x : Owed). x.0 == e.0) (pending config past) ≡ true) (λ (e : Owed). waits config past e.0 ≡ true)
        (λ e it. or_left (list_any (λ (x : Owed). x.0 == e.0) (pending config past)) (list_any (λ (f : ℕ × ℕ). f.0 == e.0) (in_flight past)) it)
        (pending config past) (each_there (λ (e : Owed). e.0) [] (pending config past))

    -- so what is said of its number is said
    request_has : (m : ℕ) → waits config past m ≡ true → IfThere R (request past m)
    request_has m waiting = by (request past m) (first_has (λ (f : Final). waits config past f.number ≡ true → R f) (λ (f : Final). f.number == m) (requests past) asked)
      where
        by : (x : Option Final) → IfThere (λ (f : Final). (waits config past f.number ≡ true → R f) × ((f.number == m) ≡ true)) x → IfThere R x
        by None it = tt
        by (Some f) it = it.0 (ap (waits config past) (eqb-true f.number m it.1) ∙ waiting)

    owner_has : (face id : ℕ) → IfThere R (owner config past face id)
    owner_has face id = by (find (λ (e : Owed). is_entry face id e.1) (pending config past)) (first_has (λ (e : Owed). waits config past e.0 ≡ true) (λ (e : Owed). is_entry face id e.1) (pending config past) entry_waits)
      where
        by : (x : Option Owed) → IfThere (λ (e : Owed). (waits config past e.0 ≡ true) × (is_entry face id e.1 ≡ true)) x → IfThere R (option_and_then (λ (e : Owed). request past e.0) x)
        by None it = tt
        by (Some e) it = request_has e.0 it.0

    -- of those alone whose asker is open
    open_has : (x : Option Final) → IfThere R x → IfThere R (option_and_then (if_open past) x)
    open_has None it = tt
    open_has (Some f) it = by (is_closed past f.asker.0)
      where
        by : (b : Bool) → IfThere R (cond b None (Some f))
        by true = tt
        by false = it

    late_wait : (now : ℕ) → AllByRecursion (λ (d : Due). waits config past d.1 ≡ true) (late config past now)
    late_wait now = all_gathered (λ (d : Due). waits config past d.1 ≡ true) due_cmp [] (map (λ (e : Owed). (e.1.deadline, e.0, e.1.face)) (filter (λ (e : Owed). is_due now e.1) (pending config past))) tt (moved (filter (λ (e : Owed). is_due now e.1) (pending config past)) (all_filter (λ (e : Owed). waits config past e.0 ≡ true) (λ (e : Owed). is_due now e.1) (pending config past) entry_waits))
      where
        moved : (es : List Owed) → AllByRecursion (λ (e : Owed). waits config past e.0 ≡ true) es → AllByRecursion (λ (d : Due). waits config past d.1 ≡ true) (map (λ (e : Owed). (e.1.deadline, e.0, e.1.face)) es)
        moved [] all = tt
        moved (e ∷ es) all = (all.0, moved es all.1)

    abbrev timeouts_in : List Due → List (Final × ℕ)
    timeouts_in ds = filter_map (λ (d : Due). option_map (λ f. (f, d.2)) (option_and_then (if_open past) (request past d.1))) ds

    errors_have : (ds : List Due) → AllByRecursion (λ (d : Due). waits config past d.1 ≡ true) ds → (k : ℕ) → Showns (error_replies past k (timeouts_in ds))
    errors_have [] all k = tt
    errors_have (d ∷ ds) all k = by (option_and_then (if_open past) (request past d.1)) (open_has (request past d.1) (request_has d.1 all.0)) (errors_have ds all.1)
      where
        by : (x : Option Final) → IfThere R x → ((n : ℕ) → Showns (error_replies past n (timeouts_in ds))) → Showns (error_replies past k (cons_option (option_map (λ f. (f, d.2)) x) (timeouts_in ds)))
        by None it rest = rest k
        by (Some f) it rest = (replied f it k (late_reply past d.2), rest (k + 1))

    -- ---- each kind
    -- an accepted request is answered its number
    answered_next : (face : FaceId) (r : Request) (now : ℕ) (t : Step) → t.outcome ≡ answer lacks config past (call.Request face r now) → is_accepted t.outcome ≡ true → t.outcome ≡ outcome.Asked (next_request config past)
    answered_next face r now t is h = by (refusal_of lacks config past (call.Request face r now)) is
      where
        by : (x : Option Refusal) → t.outcome ≡ option_map_or (λ y. outcome.Refused y) x (outcome.Asked (next_request config past)) → t.outcome ≡ outcome.Asked (next_request config past)
        by (Some y) e = absurd (true≢false (sym h ∙ ap is_accepted e))
        by None e = e

    module _ (t : Step) (asks : (f : Final) → R f → f.number ≡ next_request config past → (r : Request) (q : List ℕ) (x : QueryTargetQabl) → T (request_to config past r q x)) where
      requests_have : (c : Call) → CallHeadline lacks config past c t → AllByRecursion R (asked_by c t.outcome) → is_accepted t.outcome ≡ true → Showns (requests_of config past c)
      requests_have (call.Request face r now) k new h =
          let it = subst (λ a. AllByRecursion R (asked_by (call.Request face r now) a)) (answered_next face r now t k.answered h) new in
          all_picked it.0 (select config past face r)
        where
          this : Final
          this = record { number = next_request config past; asker = face; id = r.id; qos = r.qos }

          all_picked : R this → (os : List QueryTargetQabl) → Showns (map (request_to config past r (unwrap_or (asked_key past face r) [])) os)
          all_picked it [] = tt
          all_picked it (x ∷ os) = (asks this it refl r (unwrap_or (asked_key past face r) []) x, all_picked it os)
      requests_have c k new h = tt

      replies_have : (c : Call) → Showns (replies_of config past c)
      replies_have (call.Response face r) = by (option_and_then (if_open past) (owner config past face.0 r.rid)) (open_has (owner config past face.0 r.rid) (owner_has face.0 r.rid))
        where
          by : (x : Option Final) → IfThere R x → Showns (option_map_or (λ f. reply_to f (next_reply config past) (record r { wire = plain (full_text (reply_says past face r)) }) ∷ []) x [])
          by None it = tt
          by (Some f) it = (replied f it (next_reply config past) (record r { wire = plain (full_text (reply_says past face r)) }), tt)
      replies_have (call.Poll now) = errors_have (late config past now) (late_wait now) (next_reply config past)
      replies_have c = tt

      finals_have : (c : Call) → AllByRecursion R (asked_by c t.outcome) → Showns (finals_of config past c t)
      finals_have c new =
          shown_all (filter (λ (f : Final). not (waits config ((c, t) ∷ past) f.number) && not (is_closed ((c, t) ∷ past) f.asker.0)) (open_to config past c t))
          (all_filter R (λ (f : Final). not (waits config ((c, t) ∷ past) f.number) && not (is_closed ((c, t) ∷ past) f.asker.0)) (open_to config past c t)
          (all_append R (filter (λ (f : Final). waits config past f.number) (requests past)) (asked_by c t.outcome)
          (all_passing (λ (f : Final). waits config past f.number ≡ true → R f) R (λ (f : Final). waits config past f.number) (λ f waiting it. it waiting) (requests past) asked) new))
        where
          shown_all : (fs : List Final) → AllByRecursion R fs → Showns (map final_to fs)
          shown_all [] all = tt
          shown_all (f ∷ fs) all = (finished f all.0, shown_all fs all.1)

      pub all_handed : (c : Call) → CallHeadline lacks config past c t → AllByRecursion R (asked_by c t.outcome) → AllByRecursion (λ (h : Handed). T (shown past h)) (of_kind 3 t.handed) → AllByRecursion (λ (h : Handed). T (shown past h)) t.handed
      all_handed c k new rest =
          let zero' = unshown past (of_kind 0 t.handed) (subst Showns (sym k.requests) (if_accepted_all (requests_of config past c) (requests_have c k new))) in
          let one' = unshown past (of_kind 1 t.handed) (subst Showns (sym k.replies) (if_accepted_all (replies_of config past c) (λ h. replies_have c))) in
          let two' = unshown past (of_kind 2 t.handed) (subst Showns (sym k.finals) (if_accepted_all (finals_of config past c t) (λ h. finals_have c new))) in
          subst (AllByRecursion P) k.ordered
          (all_append P (of_kind 0 t.handed ++ of_kind 1 t.handed ++ of_kind 2 t.handed) (of_kind 3 t.handed)
          (all_append P (of_kind 0 t.handed ++ of_kind 1 t.handed) (of_kind 2 t.handed) (all_append P (of_kind 0 t.handed) (of_kind 1 t.handed) zero' one') two') rest)
        where
          P : Handed → Type 0
          P h = T (shown past h)

          if_accepted_all : (xs : List Shown) → (is_accepted t.outcome ≡ true → Showns xs) → Showns (if_accepted t xs)
          if_accepted_all xs all = by (is_accepted t.outcome) refl
            where
              by : (b : Bool) → is_accepted t.outcome ≡ b → Showns (cond b xs [])
              by true h = all h
              by false h = tt

-- ---- the numbers of what a call hands
module _ (Q : Option ℕ → Type 0) (bare : Q None) where
  bare_at : (number reply : Option ℕ) → (is_some number || is_some reply) ≡ false → Q number
  bare_at None reply none = bare
  bare_at (Some n) reply none = absurd (true≢false none)

  unnumbered : (hs : List Handed) → AllByRecursion (λ h. is_numbered h ≡ false) hs → AllByRecursion (λ (h : Handed). Q h.number) hs
  unnumbered [] all = tt
  unnumbered (h ∷ hs) all = (bare_at h.number h.reply all.0, unnumbered hs all.1)

  all_numbers : (lacks : Lacks) (config : Settings) (past : Trace) → AllByRecursion (λ (f : Final). waits config past f.number ≡ true → Q (Some f.number)) (requests past)
      → (t : Step) (c : Call) → CallHeadline lacks config past c t → AllByRecursion (λ (f : Final). Q (Some f.number)) (asked_by c t.outcome) → AllByRecursion (λ (h : Handed). Q h.number) t.handed
  all_numbers lacks config past asked t c k new =
      all_handed (λ (s : Shown). Q s.number) (λ (f : Final). Q (Some f.number)) (λ f it reply r. it) (λ f it. it) lacks config past asked t
      (λ f it is r q x. subst (λ m. Q (Some m)) is it) c k new (unnumbered (of_kind 3 t.handed) (all_failing is_numbered (of_kind 3 t.handed) k.apart))

-- ---- what is over stays so
everywhere : {X : Type 0} (P : X → Type 0) → ((x : X) → P x) → (xs : List X) → AllByRecursion P xs
everywhere P it [] = tt
everywhere P it (x ∷ xs) = (it x, everywhere P it xs)

and_false : (a b : Bool) → b ≡ false → (a && b) ≡ false
and_false true b it = it
and_false false b it = refl

not_true : (b : Bool) → not b ≡ true → b ≡ false
not_true true it = sym it
not_true false it = refl

longer : {X Y : Type 0} (b : Bool) (x : X) (y : Y) (xs : List X) (ys : List Y) → length xs ≡ length ys → length (cond b (x ∷ xs) xs) ≡ length (cond b (y ∷ ys) ys)
longer true x y xs ys same = ap suc same
longer false x y xs ys same = same

filtered_none : {X : Type 0} (test p : X → Bool) (xs : List X) → list_any test xs ≡ false → list_any test (filter p xs) ≡ false
filtered_none test p xs none = none_passing test (filter p xs) (all_filter (λ x. test x ≡ false) p xs (all_failing test xs none))

joined_none : {X : Type 0} (test : X → Bool) (xs ys : List X) → list_any test xs ≡ false → list_any test ys ≡ false → list_any test (xs ++ ys) ≡ false
joined_none test xs ys none more = none_passing test (xs ++ ys) (all_append (λ x. test x ≡ false) xs ys (all_failing test xs none) (all_failing test ys more))

-- a request that was accepted, and that waits no more
record IsOver (config : Settings) (past : Trace) (n : ℕ) : Type 0 where
  asked : n < next_request config past
  quiet : waits config past n ≡ false

-- the requests of a trace have numbers below the next one, each another
record AreNumbered (config : Settings) (past : Trace) : Type 0 where
  below : AllByRecursion (λ (f : Final). f.number < next_request config past) (requests past)
  once : (n : ℕ) → count (λ (f : Final). f.number == n) (requests past) ≤ 1

none_numbered : (config : Settings) → AreNumbered config []
none_numbered config = record { below = tt; once = λ n. omega arith }

-- a call asks nothing, or one request, of the next number
abbrev AsksNext : ℕ → List Final → Type 0
AsksNext n fs = (fs ≡ []) ⊎ ((f : Final) × (fs ≡ f ∷ []) × (f.number ≡ n))

module _ (lacks : Lacks) (config : Settings) (past : Trace) where
  asks_next : (c : Call) (t : Step) → t.outcome ≡ answer lacks config past c → AsksNext (next_request config past) (asked_by c t.outcome)
  asks_next (call.Request face r now) t is = by (refusal_of lacks config past (call.Request face r now)) is
    where
      by : (x : Option Refusal) → t.outcome ≡ option_map_or (λ y. outcome.Refused y) x (outcome.Asked (next_request config past)) → AsksNext (next_request config past) (asked_by (call.Request face r now) t.outcome)
      by (Some y) e = inl (ap (asked_by (call.Request face r now)) e)
      by None e = inr (record { number = next_request config past; asker = face; id = r.id; qos = r.qos }, ap (asked_by (call.Request face r now)) e, refl)
  asks_next c t is = inl refl

  module _ (c : Call) (t : Step) (k : CallHeadline lacks config past c t) where
    abbrev later : Trace
    later = (c, t) ∷ past

    abbrev new : List Final
    new = asked_by c t.outcome

    -- the request's final comes, if it waited before
    abbrev goes : Final → Bool
    goes f = not (waits config later f.number) && not (is_closed later f.asker.0)

    abbrev due : List Shown
    due = if_accepted t (finals_of config past c t)

    new_asked : AsksNext (next_request config past) new
    new_asked = asks_next c t k.answered

    new_are : AllByRecursion (λ (f : Final). f.number ≡ next_request config past) new
    new_are = by new_asked
      where
        by : AsksNext (next_request config past) new → AllByRecursion (λ (f : Final). f.number ≡ next_request config past) new
        by (inl e) = subst (AllByRecursion (λ (f : Final). f.number ≡ next_request config past)) (sym e) tt
        by (inr x) = subst (AllByRecursion (λ (f : Final). f.number ≡ next_request config past)) (sym x.1) (x.2, tt)

    grown : next_request config later ≡ next_request config past + length new
    grown = let sum = length-append (requests past) new in omega (arith, sum)

    module _ (n : ℕ) where
      abbrev has : Final → Bool
      has f = f.number == n

      -- ---- a request that is over
      module _ (over : IsOver config past n) where
        apart_from : (f : Final) → waits config past f.number ≡ true → has f ≡ false
        apart_from f waiting = by (has f) refl
          where
            by : (b : Bool) → has f ≡ b → b ≡ false
            by true e = absurd (true≢false (sym waiting ∙ ap (waits config past) (eqb-true f.number n e) ∙ over.quiet))
            by false e = refl

        next_apart : (f : Final) → f.number ≡ next_request config past → has f ≡ false
        next_apart f is = by (has f) refl
          where
            by : (b : Bool) → has f ≡ b → b ≡ false
            by true e = absurd (let same = eqb-true f.number n e in let low = over.asked in omega (arith, is, same, low))
            by false e = refl

        -- the call hands nothing of it
        silent : AllByRecursion (λ (h : Handed). is_of n h ≡ false) t.handed
        silent = all_numbers (λ x. option_map_or (λ m. m == n) x false ≡ false) refl lacks config past
            (everywhere (λ (f : Final). waits config past f.number ≡ true → has f ≡ false) apart_from (requests past)) t c k
            (all_weaker (λ (f : Final). f.number ≡ next_request config past) (λ (f : Final). has f ≡ false) next_apart new new_are)

        owed_apart : (moment : ℕ) (hs : List Handed) → AllByRecursion (λ (h : Handed). is_of n h ≡ false) hs → AllByRecursion (λ (e : Owed). (e.0 == n) ≡ false) (filter_map (owed moment) hs)
        owed_apart moment [] all = tt
        owed_apart moment (h ∷ hs) all = by (is_some h.leaves) h.number h.message all.0 (owed_apart moment hs all.1)
          where
            by : (b : Bool) (x : Option ℕ) (m : Message) → option_map_or (λ y. y == n) x false ≡ false → AllByRecursion (λ (e : Owed). (e.0 == n) ≡ false) (filter_map (owed moment) hs)
                → AllByRecursion (λ (e : Owed). (e.0 == n) ≡ false) (cons_option (cond b (option_and_then (λ y. owed_by moment h.to.0 y m) x) None) (filter_map (owed moment) hs))
            by false x m it rest = rest
            by true None m it rest = rest
            by true (Some y) (message.Request r) it rest = (it, rest)
            by true (Some y) (message.Response r) it rest = rest
            by true (Some y) (message.ResponseFinal f) it rest = rest
            by true (Some y) (message.Interest i) it rest = rest
            by true (Some y) (message.InterestFinal i) it rest = rest
            by true (Some y) (message.Declare d) it rest = rest

        flights_apart : (hs : List Handed) → AllByRecursion (λ (h : Handed). is_of n h ≡ false) hs → AllByRecursion (λ (f : ℕ × ℕ). (f.0 == n) ≡ false) (filter_map flight hs)
        flights_apart [] all = tt
        flights_apart (h ∷ hs) all = by h.number h.reply all.0 (flights_apart hs all.1)
          where
            by : (x y : Option ℕ) → option_map_or (λ z. z == n) x false ≡ false → AllByRecursion (λ (f : ℕ × ℕ). (f.0 == n) ≡ false) (filter_map flight hs)
                → AllByRecursion (λ (f : ℕ × ℕ). (f.0 == n) ≡ false) (cons_option (option_and_then (λ (z : ℕ). option_map (λ (w : ℕ). (z, w)) y) x) (filter_map flight hs))
            by None y it rest = rest
            by (Some z) None it rest = rest
            by (Some z) (Some w) it rest = (it, rest)

        -- and it waits no more behind it
        still : waits config later n ≡ false
        still =
            let parts = or_parts (list_any (λ (e : Owed). e.0 == n) (pending config past)) (list_any (λ (f : ℕ × ℕ). f.0 == n) (in_flight past)) over.quiet in
            λ j. owing (is_accepted t.outcome) parts.0 j || flying (is_accepted t.outcome) parts.1 j
          where
            owing : (b : Bool) → list_any (λ (e : Owed). e.0 == n) (pending config past) ≡ false
                → list_any (λ (e : Owed). e.0 == n) (cond b (filter (λ (e : Owed). not (ends_entry c e.1)) (pending config past) ++ filter_map (owed (deadline config c)) t.handed) (pending config past)) ≡ false
            owing true none =
                joined_none (λ (e : Owed). e.0 == n) (filter (λ (e : Owed). not (ends_entry c e.1)) (pending config past)) (filter_map (owed (deadline config c)) t.handed)
                (filtered_none (λ (e : Owed). e.0 == n) (λ (e : Owed). not (ends_entry c e.1)) (pending config past) none)
                (none_passing (λ (e : Owed). e.0 == n) (filter_map (owed (deadline config c)) t.handed) (owed_apart (deadline config c) t.handed silent))
            owing false none = none

            flying : (b : Bool) → list_any (λ (f : ℕ × ℕ). f.0 == n) (in_flight past) ≡ false
                → list_any (λ (f : ℕ × ℕ). f.0 == n) (cond b (filter (λ (f : ℕ × ℕ). not (lands c f.1)) (in_flight past) ++ filter_map flight t.handed) (in_flight past)) ≡ false
            flying true none =
                joined_none (λ (f : ℕ × ℕ). f.0 == n) (filter (λ (f : ℕ × ℕ). not (lands c f.1)) (in_flight past)) (filter_map flight t.handed)
                (filtered_none (λ (f : ℕ × ℕ). f.0 == n) (λ (f : ℕ × ℕ). not (lands c f.1)) (in_flight past) none)
                (none_passing (λ (f : ℕ × ℕ). f.0 == n) (filter_map flight t.handed) (flights_apart t.handed silent))
            flying false none = none

        stays_over : IsOver config later n
        stays_over = let low = over.asked in record { asked = omega (arith, grown, low); quiet = still }

      -- ---- at most one final
      abbrev names : Shown → Bool
      names s = option_map_or (λ m. m == n) s.number false

      finals_shown : (hs : List Handed) → count (ends n) hs ≡ count names (map (shown past) (of_kind 2 hs))
      finals_shown [] = refl
      finals_shown (h ∷ hs) = by h.message (finals_shown hs)
        where
          by : (m : Message) → count (ends n) hs ≡ count names (map (shown past) (of_kind 2 hs))
              → length (cond (is_final m && is_of n h) (h ∷ filter (ends n) hs) (filter (ends n) hs)) ≡ count names (map (shown past) (cond (kind m == 2) (h ∷ of_kind 2 hs) (of_kind 2 hs)))
          by (message.Request r) same = same
          by (message.Response r) same = same
          by (message.ResponseFinal f) same = longer (is_of n h) h (shown past h) (filter (ends n) hs) (filter names (map (shown past) (of_kind 2 hs))) same
          by (message.Interest i) same = same
          by (message.InterestFinal i) same = same
          by (message.Declare d) same = same

      finals_are : finals_in n t ≡ count names (if_accepted t (finals_of config past c t))
      finals_are = finals_shown t.handed ∙ ap (count names) k.finals

      final_names : (fs : List Final) → count names (map final_to fs) ≡ count has fs
      final_names [] = refl
      final_names (f ∷ fs) = longer (has f) (final_to f) f (filter names (map final_to fs)) (filter has fs) (final_names fs)

      module _ (numbered : AreNumbered config past) where
        none_next : next_request config past ≡ n → count has (requests past) ≡ 0
        none_next is = count_none has (requests past) (none_passing has (requests past) (all_weaker (λ (f : Final). f.number < next_request config past) (λ (f : Final). has f ≡ false) other (requests past) numbered.below))
          where
            other : (f : Final) → f.number < next_request config past → has f ≡ false
            other f low = by (has f) refl
              where
                by : (b : Bool) → has f ≡ b → b ≡ false
                by true e = absurd (let same = eqb-true f.number n e in omega (arith, is, same, low))
                by false e = refl

        one_more : count has (requests past) + count has new ≤ 1
        one_more = by new_asked
          where
            one : (f : Final) → f.number ≡ next_request config past → (b : Bool) → has f ≡ b → count has (requests past) + length (cond b (f ∷ []) []) ≤ 1
            one f is true e = let none = none_next (sym is ∙ eqb-true f.number n e) in omega (arith, none)
            one f is false e = let most = numbered.once n in omega (arith, most)

            by : AsksNext (next_request config past) new → count has (requests past) + count has new ≤ 1
            by (inl e) = subst (λ l. count has (requests past) + count has l ≤ 1) (sym e) (let most = numbered.once n in omega (arith, most))
            by (inr x) = subst (λ l. count has (requests past) + count has l ≤ 1) (sym x.1) (one x.0 x.2 (has x.0) refl)

        at_most : finals_in n t ≤ 1
        at_most = subst (λ m. m ≤ 1) (sym finals_are) (by (is_accepted t.outcome))
          where
            by : (b : Bool) → count names (cond b (finals_of config past c t) []) ≤ 1
            by true =
                let shown' = final_names (filter goes (open_to config past c t)) in
                let fewer = count_filter has goes (open_to config past c t) in
                let parts = count_append has (filter (λ (f : Final). waits config past f.number) (requests past)) new in
                let old = count_filter has (λ (f : Final). waits config past f.number) (requests past) in
                let most = one_more in
                omega (arith, shown', fewer, parts, old, most)
            by false = omega arith

    -- ---- the requests behind the call
    numbered_on : AreNumbered config past → AreNumbered config later
    numbered_on numbered = record {
      below =
          all_append (λ (f : Final). f.number < next_request config later) (requests past) new
          (all_weaker (λ (f : Final). f.number < next_request config past) (λ (f : Final). f.number < next_request config later) (λ f low. omega (arith, grown, low)) (requests past) numbered.below)
          new_below;
      once = λ n. let most = one_more n numbered in let sum = count_append (has n) (requests past) new in omega (arith, most, sum);
    }
      where
        new_below : AllByRecursion (λ (f : Final). f.number < next_request config later) new
        new_below = by new_asked
          where
            by : AsksNext (next_request config past) new → AllByRecursion (λ (f : Final). f.number < next_request config later) new
            by (inl e) = subst (AllByRecursion (λ (f : Final). f.number < next_request config later)) (sym e) tt
            by (inr x) =
                let one : length new ≡ 1 = ap length x.1 in
                let is = x.2 in
                subst (AllByRecursion (λ (f : Final). f.number < next_request config later)) (sym x.1) (omega (arith, grown, one, is), tt)

    -- ---- a final, and the request is over
    abbrev Over : Option ℕ → Type 0
    Over None = Unit {0}
    Over (Some m) = IsOver config later m

    finals_over_all : AreNumbered config past → (xs : List Shown) → xs ≡ if_accepted t (finals_of config past c t) → AllByRecursion (λ (s : Shown). Over s.number) xs
    finals_over_all numbered xs is = subst (AllByRecursion (λ (s : Shown). Over s.number)) (sym is) (by (is_accepted t.outcome))
      where
        shown_all : (fs : List Final) → AllByRecursion (λ (f : Final). IsOver config later f.number) fs → AllByRecursion (λ (s : Shown). Over s.number) (map final_to fs)
        shown_all [] all = tt
        shown_all (f ∷ fs) all = (all.0, shown_all fs all.1)

        open_below : AllByRecursion (λ (f : Final). f.number < next_request config later) (open_to config past c t)
        open_below =
            let parts = all_parts (λ (f : Final). f.number < next_request config later) (requests past) new (numbered_on numbered).below in
            all_append (λ (f : Final). f.number < next_request config later) (filter (λ (f : Final). waits config past f.number) (requests past)) new
            (all_filter (λ (f : Final). f.number < next_request config later) (λ (f : Final). waits config past f.number) (requests past) parts.0) parts.1

        by : (b : Bool) → AllByRecursion (λ (s : Shown). Over s.number) (cond b (finals_of config past c t) [])
        by true =
            shown_all (filter goes (open_to config past c t))
            (all_passing (λ (f : Final). f.number < next_request config later) (λ (f : Final). IsOver config later f.number) goes
            (λ f gone low. record { asked = low; quiet = not_true (waits config later f.number) (and_parts (not (waits config later f.number)) (not (is_closed later f.asker.0)) gone).0 })
            (open_to config past c t) open_below)
        by false = tt

    ended : AreNumbered config past → (n : ℕ) → (finals_in n t ≡ 0) ⊎ IsOver config later n
    ended numbered n = by (list_any (names n) due) refl
      where
        over_by : (x : Option ℕ) → option_map_or (λ m. m == n) x false ≡ true → Over x → IsOver config later n
        over_by None e over = absurd (true≢false (sym e))
        over_by (Some m) e over = subst (IsOver config later) (eqb-true m n e) over

        by : (b : Bool) → list_any (names n) due ≡ b → (finals_in n t ≡ 0) ⊎ IsOver config later n
        by true some = let it = found (names n) due some in inr (over_by it.0.number it.1 (all_at (λ (s : Shown). Over s.number) due it.0 (finals_over_all numbered due refl) it.2))
        by false none = inl (finals_are n ∙ count_none (names n) due none)

-- ---- runs
silent_finals : (n : ℕ) (hs : List Handed) → AllByRecursion (λ (h : Handed). is_of n h ≡ false) hs → count (ends n) hs ≡ 0
silent_finals n hs all = count_none (ends n) hs (none_passing (ends n) hs (all_weaker (λ (h : Handed). is_of n h ≡ false) (λ (h : Handed). ends n h ≡ false) (λ h it. and_false (is_final h.message) (is_of n h) it) hs all))

module _ (lacks : Lacks) (config : Settings) (n : ℕ) where
  quiet_rest : (cs : List Call) (ts : List Step) (past : Trace) → HeadlineFrom lacks config past cs ts → IsOver config past n → AreSilent n ts × (finals_over n ts ≡ 0)
  quiet_rest [] [] past keeps over = (tt, refl)
  quiet_rest [] (t ∷ ts) past keeps over = absurd keeps
  quiet_rest (c ∷ cs) [] past keeps over = absurd keeps
  quiet_rest (c ∷ cs) (t ∷ ts) past keeps over =
      let none = silent lacks config past c t keeps.0 n over in
      let rest = quiet_rest cs ts ((c, t) ∷ past) keeps.1 (stays_over lacks config past c t keeps.0 n over) in
      ((none_passing (is_of n) t.handed none, rest.0), λ j. silent_finals n t.handed none j + rest.1 j)

  one_from : (cs : List Call) (ts : List Step) (past : Trace) → HeadlineFrom lacks config past cs ts → AreNumbered config past → finals_over n ts ≤ 1
  one_from [] [] past keeps numbered = omega arith
  one_from [] (t ∷ ts) past keeps numbered = absurd keeps
  one_from (c ∷ cs) [] past keeps numbered = absurd keeps
  one_from (c ∷ cs) (t ∷ ts) past keeps numbered = by (ended lacks config past c t keeps.0 numbered n) (one_from cs ts ((c, t) ∷ past) keeps.1 (numbered_on lacks config past c t keeps.0 numbered))
    where
      by : (finals_in n t ≡ 0) ⊎ IsOver config ((c, t) ∷ past) n → finals_over n ts ≤ 1 → finals_in n t + finals_over n ts ≤ 1
      by (inl none) most = omega (arith, none, most)
      by (inr over) most =
          let one = at_most lacks config past c t keeps.0 n numbered in
          let none = (quiet_rest cs ts ((c, t) ∷ past) keeps.1 over).1 in
          omega (arith, one, none)

  nothing_from : (cs : List Call) (before rest : List Step) (t : Step) (past : Trace) → HeadlineFrom lacks config past cs (before ++ t ∷ rest) → AreNumbered config past → 0 < finals_in n t → AreSilent n rest
  nothing_from [] [] rest t past keeps numbered some = absurd keeps
  nothing_from [] (u ∷ before) rest t past keeps numbered some = absurd keeps
  nothing_from (c ∷ cs) [] rest t past keeps numbered some = by (ended lacks config past c t keeps.0 numbered n)
    where
      by : (finals_in n t ≡ 0) ⊎ IsOver config ((c, t) ∷ past) n → AreSilent n rest
      by (inl none) = absurd (omega (arith, none, some))
      by (inr over) = (quiet_rest cs rest ((c, t) ∷ past) keeps.1 over).0
  nothing_from (c ∷ cs) (u ∷ before) rest t past keeps numbered some = nothing_from cs before rest t ((c, u) ∷ past) keeps.1 (numbered_on lacks config past c u keeps.0 numbered) some

pub one_final : (lacks : Lacks) (config : Settings) (calls : List Call) (steps : List Step) → Headline lacks config calls steps → (n : ℕ) → finals_over n steps ≤ 1
one_final lacks config calls steps keeps n = one_from lacks config n calls steps [] keeps (none_numbered config)

pub nothing_after : (lacks : Lacks) (config : Settings) (calls : List Call) (before rest : List Step) (t : Step) → Headline lacks config calls (before ++ t ∷ rest) → (n : ℕ) → 0 < finals_in n t → AreSilent n rest
nothing_after lacks config calls before rest t keeps n some = nothing_from lacks config n calls before rest t [] keeps (none_numbered config) some

-- ---- replies and finals go back
all_in : {X : Type 0} (xs : List X) → AllByRecursion (Contains xs) xs
all_in [] = tt
all_in {X} (x ∷ xs) = (
  Contains-append_left (x ∷ []) xs x (Contains-push [] x),
  all_weaker (Contains xs) (Contains (x ∷ xs)) (λ y it. Contains-append_right (x ∷ []) xs y it) xs (all_in xs),
)

module _ (lacks : Lacks) (config : Settings) (past : Trace) (c : Call) (t : Step) (k : CallHeadline lacks config past c t) where
  abbrev asked : List Final
  asked = requests ((c, t) ∷ past)

  abbrev Back : Shown → Type 0
  Back s = GoesBack asked s.number s.to s.message

  asking_back : (f : Final) → Contains asked f → f.number ≡ next_request config past → (r : Request) (q : List ℕ) (x : QueryTargetQabl) → Back (request_to config past r q x)
  asking_back f it is r q x = tt

  declared_back : (hs : List Handed) → AllByRecursion (λ h. is_numbered h ≡ false) (of_kind 3 hs) → AllByRecursion (λ (h : Handed). Back (shown past h)) (of_kind 3 hs)
  declared_back [] all = tt
  declared_back (h ∷ hs) all = by (kind h.message == 3) refl all (declared_back hs)
    where
      bare : (n : FaceNaming) (number reply : Option ℕ) (m : Message) → (kind m == 3) ≡ true → (is_some number || is_some reply) ≡ false → GoesBack asked number h.to (read_message n m)
      bare n (Some i) reply m is none = absurd (true≢false none)
      bare n None reply (message.Request r) is none = refl
      bare n None reply (message.Response r) is none = absurd (true≢false (sym is))
      bare n None reply (message.ResponseFinal f) is none = absurd (true≢false (sym is))
      bare n None reply (message.Interest i) is none = refl
      bare n None reply (message.InterestFinal i) is none = refl
      bare n None reply (message.Declare d) is none = refl

      by : (b : Bool) → (kind h.message == 3) ≡ b → AllByRecursion (λ x. is_numbered x ≡ false) (cond b (h ∷ of_kind 3 hs) (of_kind 3 hs))
          → (AllByRecursion (λ x. is_numbered x ≡ false) (of_kind 3 hs) → AllByRecursion (λ (x : Handed). Back (shown past x)) (of_kind 3 hs))
          → AllByRecursion (λ (x : Handed). Back (shown past x)) (cond b (h ∷ of_kind 3 hs) (of_kind 3 hs))
      by true is it rest = (bare _ h.number h.reply h.message is it.0, rest it.1)
      by false is it rest = rest it

  unread : (hs : List Handed) → AllByRecursion (λ (h : Handed). Back (shown past h)) hs → AllByRecursion (IsBack asked) hs
  unread [] all = tt
  unread (h ∷ hs) all = (by _ h.number h.message all.0, unread hs all.1)
    where
      by : (n : FaceNaming) (number : Option ℕ) (m : Message) → GoesBack asked number h.to (read_message n m) → GoesBack asked number h.to m
      by n None (message.Request r) it = it
      by n None (message.Response r) it = it
      by n None (message.ResponseFinal f) it = it
      by n None (message.Interest i) it = it
      by n None (message.InterestFinal i) it = it
      by n None (message.Declare d) it = it
      by n (Some i) (message.Request r) it = it
      by n (Some i) (message.Response r) it = it
      by n (Some i) (message.ResponseFinal f) it = it
      by n (Some i) (message.Interest j) it = it
      by n (Some i) (message.InterestFinal j) it = it
      by n (Some i) (message.Declare d) it = it

  goes_back : AllByRecursion (IsBack asked) t.handed
  goes_back =
      let parts = all_parts (Contains asked) (requests past) (asked_by c t.outcome) (all_in asked) in
      unread t.handed
      (all_handed Back (Contains asked) (λ f it reply r. it) (λ f it. it) lacks config past
      (all_weaker (Contains asked) (λ (f : Final). waits config past f.number ≡ true → Contains asked f) (λ f it waiting. it) (requests past) parts.0)
      t asking_back c k parts.1 (declared_back t.handed (all_failing is_numbered (of_kind 3 t.handed) k.apart)))

back_from : (lacks : Lacks) (config : Settings) (cs : List Call) (ts : List Step) (past : Trace) → HeadlineFrom lacks config past cs ts → BackFrom past cs ts
back_from lacks config [] ts past keeps = tt
back_from lacks config (c ∷ cs) [] past keeps = tt
back_from lacks config (c ∷ cs) (t ∷ ts) past keeps = (goes_back lacks config past c t keeps.0, back_from lacks config cs ts ((c, t) ∷ past) keeps.1)

pub to_askers : (lacks : Lacks) (config : Settings) (calls : List Call) (steps : List Step) → Headline lacks config calls steps → BackFrom [] calls steps
to_askers lacks config calls steps keeps = back_from lacks config calls steps [] keeps
