-- What a call makes of the entries that are pending and of the replies in flight.
use Rattle.std.proofs.Common.{◌≡◌, ℕ, ◌+◌, ◌<◌, ◌≤◌, Bool, true, false, cond, not, List, [], ◌∷◌, ◌++◌, map, length, Option, Some, None, refl, sym, ap, ◌∙◌, subst, arith, eqb-true, length-append, append-nil, append_assoc, inl, inr}
use Rattle.std.specs.Prelude.{◌==◌, ◌&&◌, ◌⊎◌}
use Rattle.std.specs.List.{list_any}
use Rattle.std.specs.Option.{option_map_or, is_some}
use Rattle.std.proofs.lemmas.Bool.{and_parts, false≢true, or_cases, or_left, or_right}
use Rattle.std.proofs.lemmas.List.{map-append, length-map}
use Rattle.std.proofs.lemmas.List.Folds.{list_any-append}
use Rattle.zq_message.specs.declared.message.FaceId.{FaceId}
use Rattle.zq_message.specs.declared.message.Message.{Message}
use Rattle.zq_message.specs.declared.message.Message.TheVariants as message
use Rattle.zq_message.specs.declared.message.Request.{Request}
use Rattle.zq_strategy.specs.declared.offer.QueryTargetQabl.{QueryTargetQabl}
use Rattle.zq_query.specs.declared.records.Final.{Final}
use Rattle.zq_query.specs.Records.{Pending, Record, flies, is_reply, pending_count}
use Rattle.zq_machine.specs.declared.call.Call.{Call}
use Rattle.zq_machine.specs.declared.call.Call.TheVariants as call
use Rattle.zq_machine.specs.declared.call.Refusal.{Refusal}
use Rattle.zq_machine.specs.declared.call.Step.{Step}
use Rattle.zq_machine.specs.Agreeing.{number_of}
use Rattle.zq_machine.specs.Asked.{AreCounted, asked_as, asked_by, asked_in, asked_number}
use Rattle.zq_machine.specs.declared.call.Outcome.TheVariants as outcome
use Rattle.zq_machine.specs.Calls.{is_sent}
use Rattle.zq_machine.specs.Configs.{Settings}
use Rattle.zq_machine.specs.Deciding.{is_accepted, refusal_of}
use Rattle.zq_machine.specs.Handing.{Handed}
use Rattle.zq_machine.specs.Headline.{HandsEach, HandsRequest, RefusesBy, ReplyPromise, RequestPromise, asks, is_request, none_leaves, replies_to}
use Rattle.zq_machine.specs.Machine.{after, state_after, step, steps_from}
use Rattle.zq_machine.specs.State.{State, opening_state}
use Rattle.zq_machine.specs.TextCalls.{read}
use Rattle.zq_machine.specs.Waiting.{asks_entry, ends_entry, gives, hands_reply, is_of, lands, owes, until}
use Rattle.zq_machine.specs.Writing.{sent_final}
use Rattle.zq_machine.proofs.Children.{after_both}
use Rattle.zq_machine.proofs.Kept.{headline}
use Rattle.zq_machine.proofs.Lists.{count, one_of_sorted}
use Rattle.zq_machine.proofs.Lists as lists
use Rattle.zq_shared.specs.Stored.{asks_request}
use Rattle.zq_shared.proofs.Flights.{handed_in, promises, quiet}
use Rattle.zq_shared.proofs.Owed.{counted_owes, owed_counts}
use Rattle.zq_shared.proofs.Replying.{reply_is, timeouts_are}

-- ---- entries that a call puts in
module _ (moment n : ℕ) (e : Pending) where
  gives_asks : (h : Handed) → gives moment n e h ≡ true → asks h ≡ true
  gives_asks h g = by h.message (and_parts (is_some h.leaves) (asks_entry moment h.to.0 e h.message) (and_parts (is_of n h) (is_some h.leaves && asks_entry moment h.to.0 e h.message) g).1).1
    where
      by : (m : Message) → asks_entry moment h.to.0 e m ≡ true → is_request m ≡ true
      by (message.Request r) f = refl
      by (message.Response r) f = absurd (false≢true f)
      by (message.ResponseFinal x) f = absurd (false≢true f)
      by (message.Interest i) f = absurd (false≢true f)
      by (message.InterestFinal i) f = absurd (false≢true f)
      by (message.Declare d) f = absurd (false≢true f)

  any_asks : (hs : List Handed) → list_any (gives moment n e) hs ≡ true → list_any asks hs ≡ true
  any_asks [] h = absurd (false≢true h)
  any_asks (x ∷ xs) h = by (or_cases (gives moment n e x) (list_any (gives moment n e) xs) h) (any_asks xs)
    where
      by : ((gives moment n e x ≡ true) ⊎ (list_any (gives moment n e) xs ≡ true)) → (list_any (gives moment n e) xs ≡ true → list_any asks xs ≡ true) → list_any asks (x ∷ xs) ≡ true
      by (inl here) ih = or_left (asks x) (list_any asks xs) (gives_asks x here)
      by (inr there) ih = or_right (asks x) (list_any asks xs) (ih there)

  of_number : (h : Handed) (m : ℕ) → h.number ≡ Some m → gives moment n e h ≡ true → n ≡ m
  of_number h m is g =
      let mine : (m == n) ≡ true = ap (λ (o : Option ℕ). option_map_or (λ x. x == n) o false) (sym is) ∙ (and_parts (is_of n h) (is_some h.leaves && asks_entry moment h.to.0 e h.message) g).0 in
      sym (eqb-true m n mine)

  each_number : (s : State) (text : List ℕ) (r : Request) (os : List QueryTargetQabl) (hs : List Handed) → HandsEach s text r os hs → list_any (gives moment n e) hs ≡ true → n ≡ s.core.queries.requests
  each_number s text r [] [] each h = absurd (false≢true h)
  each_number s text r [] (x ∷ xs) each h = absurd each
  each_number s text r (o ∷ os) [] each h = absurd each
  each_number s text r (o ∷ os) (x ∷ xs) each h = by (or_cases (gives moment n e x) (list_any (gives moment n e) xs) h) (each_number s text r os xs each.1)
    where
      by : ((gives moment n e x ≡ true) ⊎ (list_any (gives moment n e) xs ≡ true)) → (list_any (gives moment n e) xs ≡ true → n ≡ s.core.queries.requests) → n ≡ s.core.queries.requests
      by (inl here) ih = of_number x s.core.queries.requests each.0.number here
      by (inr there) ih = ih there

  request_number : (s : State) (face : FaceId) (text : List ℕ) (r : Request) (os : List QueryTargetQabl) (handed : List Handed) → HandsRequest s face text r os handed → list_any (gives moment n e) handed ≡ true → n ≡ s.core.queries.requests
  request_number s face text r os handed it h =
      let f : Final = record { number = s.core.queries.requests; asker = face; id = r.id; qos = r.qos } in
      let last : List Handed = cond (none_leaves it.requests) (sent_final f ∷ []) [] in
      by (or_cases (list_any (gives moment n e) it.requests) (list_any (gives moment n e) last)
      (sym (list_any-append (gives moment n e) it.requests last) ∙ (ap (list_any (gives moment n e)) (sym it.all) ∙ h)))
    where
      final_gives : (f : Final) (b : Bool) → list_any (gives moment n e) (cond b (sent_final f ∷ []) []) ≡ true → n ≡ f.number
      final_gives f false g = absurd (false≢true g)
      final_gives f true g = first (or_cases (gives moment n e (sent_final f)) false g)
        where
          first : ((gives moment n e (sent_final f) ≡ true) ⊎ (false ≡ true)) → n ≡ f.number
          first (inl here) = of_number (sent_final f) f.number refl here
          first (inr none) = absurd (false≢true none)

      by : ((list_any (gives moment n e) it.requests ≡ true) ⊎ (list_any (gives moment n e) (cond (none_leaves it.requests) (sent_final (record { number = s.core.queries.requests; asker = face; id = r.id; qos = r.qos }) ∷ []) []) ≡ true)) → n ≡ s.core.queries.requests
      by (inl out) = each_number s text r os it.requests it.each out
      by (inr final) = final_gives (record { number = s.core.queries.requests; asker = face; id = r.id; qos = r.qos }) (none_leaves it.requests) final

module _ (config : Settings) (calls : List Call) where
  abbrev here : State
  here = state_after (opening_state config) calls

  abbrev records : List Record
  records = here.core.queries.records

  once : (n : ℕ) → count (lists.is_same n) (map number_of records) ≤ 1
  once n = one_of_sorted n (map number_of records) (headline config calls).agrees.numbered.numbers

  -- only a request puts in entries, and they are its own
  given_by : (c : Call) → is_accepted (step here c).outcome ≡ true → (n : ℕ) (e : Pending) → list_any (gives (until here c) n e) (step here c).handed ≡ true → (asks_request c ≡ true) × (n ≡ here.core.queries.requests)
  given_by c accepts n e h = by c (promises config calls c).requests accepts h
    where
      others : (x : Call) → list_any asks (step here x).handed ≡ false → list_any (gives (until here x) n e) (step here x).handed ≡ true → ⊥
      others x none g = false≢true (sym none ∙ any_asks (until here x) n e (step here x).handed g)

      by : (x : Call) → RequestPromise here x (step here x) → is_accepted (step here x).outcome ≡ true → list_any (gives (until here x) n e) (step here x).handed ≡ true → (asks_request x ≡ true) × (n ≡ here.core.queries.requests)
      by (call.Request face r now) p a g = (refl, request_number (until here (call.Request face r now)) n e here face _ r _ _ (p a).1 g)
      by (call.Open o) p a g = absurd (others (call.Open o) p g)
      by (call.Close face) p a g = absurd (others (call.Close face) p g)
      by (call.DeclareKeyExpr face id wire) p a g = absurd (others (call.DeclareKeyExpr face id wire) p g)
      by (call.UndeclareKeyExpr face id) p a g = absurd (others (call.UndeclareKeyExpr face id) p g)
      by (call.DeclareQueryable face id wire info node) p a g = absurd (others (call.DeclareQueryable face id wire info node) p g)
      by (call.UndeclareQueryable face id wire node) p a g = absurd (others (call.UndeclareQueryable face id wire node) p g)
      by (call.Interest face id keys aggregate wire) p a g = absurd (others (call.Interest face id keys aggregate wire) p g)
      by (call.InterestFinal face id) p a g = absurd (others (call.InterestFinal face id) p g)
      by (call.FinalizeInterest face mark set) p a g = absurd (others (call.FinalizeInterest face mark set) p g)
      by (call.Response face r) p a g = absurd (others (call.Response face r) p g)
      by (call.ResponseFinal face rid) p a g = absurd (others (call.ResponseFinal face rid) p g)
      by (call.Sent reply) p a g = absurd (others (call.Sent reply) p g)
      by (call.Poll now) p a g = absurd (others (call.Poll now) p g)
      by (call.SetGateways r table) p a g = absurd (others (call.SetGateways r table) p g)
      by (call.SetNetwork r net) p a g = absurd (others (call.SetNetwork r net) p g)
      by (call.SetNodeIds face ids) p a g = absurd (others (call.SetNodeIds face ids) p g)

  -- a reply that is handed is of a request with an entry
  replied_by : (c : Call) → is_accepted (step here c).outcome ≡ true → (n k : ℕ) → list_any (hands_reply n k) (step here c).handed ≡ true → 0 < pending_count n records
  replied_by c accepts n k h = by c (promises config calls c).replies accepts h
    where
      others : (x : Call) → list_any replies_to (step here x).handed ≡ false → list_any (hands_reply n k) (step here x).handed ≡ true → ⊥
      others x none g = false≢true (sym (ap (list_any (is_reply k)) (quiet config calls x none)) ∙ handed_in n k (step here x).handed g)

      by : (x : Call) → ReplyPromise here x (step here x) → is_accepted (step here x).outcome ≡ true → list_any (hands_reply n k) (step here x).handed ≡ true → 0 < pending_count n records
      by (call.Response face r) p a g =
          let it = p a in
          reply_is n k here.core.queries once here.names here.gates _ face r it.goes it.there (ap (list_any (hands_reply n k)) (sym it.handed) ∙ g)
      by (call.Poll now) p a g = timeouts_are n k here.core.queries once here.names here.core.faces here.gates now _ (ap (list_any (hands_reply n k)) (sym (p a)) ∙ g)
      by (call.Request face r now) p a g = absurd (others (call.Request face r now) p g)
      by (call.Open o) p a g = absurd (others (call.Open o) p g)
      by (call.Close face) p a g = absurd (others (call.Close face) p g)
      by (call.DeclareKeyExpr face id wire) p a g = absurd (others (call.DeclareKeyExpr face id wire) p g)
      by (call.UndeclareKeyExpr face id) p a g = absurd (others (call.UndeclareKeyExpr face id) p g)
      by (call.DeclareQueryable face id wire info node) p a g = absurd (others (call.DeclareQueryable face id wire info node) p g)
      by (call.UndeclareQueryable face id wire node) p a g = absurd (others (call.UndeclareQueryable face id wire node) p g)
      by (call.Interest face id keys aggregate wire) p a g = absurd (others (call.Interest face id keys aggregate wire) p g)
      by (call.InterestFinal face id) p a g = absurd (others (call.InterestFinal face id) p g)
      by (call.FinalizeInterest face mark set) p a g = absurd (others (call.FinalizeInterest face mark set) p g)
      by (call.ResponseFinal face rid) p a g = absurd (others (call.ResponseFinal face rid) p g)
      by (call.Sent reply) p a g = absurd (others (call.Sent reply) p g)
      by (call.SetGateways r table) p a g = absurd (others (call.SetGateways r table) p g)
      by (call.SetNetwork r net) p a g = absurd (others (call.SetNetwork r net) p g)
      by (call.SetNodeIds face ids) p a g = absurd (others (call.SetNodeIds face ids) p g)

  -- ---- any call, accepted or not
  pending_granted : (c : Call) → is_accepted (step here c).outcome ≡ true → (n : ℕ) → 0 < pending_count n (after here c).core.queries.records
      → (0 < pending_count n records) ⊎ ((asks_request c ≡ true) × (n ≡ here.core.queries.requests))
  pending_granted c accepts n some =
      let there = counted_owes n (after here c).core.queries.records some in
      let e : Pending = there.0 in
      by e (or_cases (owes n e records && not (ends_entry c e)) (list_any (gives (until here c) n e) (step here c).handed) (sym (((promises config calls c).waits accepts).entries n e) ∙ there.1))
    where
      by : (e : Pending) → (((owes n e records && not (ends_entry c e)) ≡ true) ⊎ (list_any (gives (until here c) n e) (step here c).handed ≡ true)) → (0 < pending_count n records) ⊎ ((asks_request c ≡ true) × (n ≡ here.core.queries.requests))
      by e (inl before) = inl (owed_counts n e records (once n) (and_parts (owes n e records) (not (ends_entry c e)) before).0)
      by e (inr new) = inr (given_by c accepts n e new)

  -- what is pending after a call was pending before, or is of the request that it asks
  pub pending_before : (c : Call) (n : ℕ) → 0 < pending_count n (after here c).core.queries.records
      → (0 < pending_count n records) ⊎ ((is_accepted (step here c).outcome ≡ true) × (asks_request c ≡ true) × (n ≡ here.core.queries.requests))
  pending_before c n some = by (refusal_of here.core (read here c)) (promises config calls c).refusals
    where
      by : (o : Option Refusal) → RefusesBy o here c → (0 < pending_count n records) ⊎ ((is_accepted (step here c).outcome ≡ true) × (asks_request c ≡ true) × (n ≡ here.core.queries.requests))
      by (Some r) refuses = inl (subst (λ (s : State). 0 < pending_count n s.core.queries.records) refuses.1 some)
      by None accepts = granted (pending_granted c accepts n some)
        where
          granted : ((0 < pending_count n records) ⊎ ((asks_request c ≡ true) × (n ≡ here.core.queries.requests))) → (0 < pending_count n records) ⊎ ((is_accepted (step here c).outcome ≡ true) × (asks_request c ≡ true) × (n ≡ here.core.queries.requests))
          granted (inl old) = inl old
          granted (inr new) = inr (accepts, new.0, new.1)

  -- what is pending stays, where the call ends nothing
  pub pending_stays : (c : Call) → ((e : Pending) → ends_entry c e ≡ false) → (n : ℕ) → 0 < pending_count n records → 0 < pending_count n (after here c).core.queries.records
  pending_stays c none n some = by (refusal_of here.core (read here c)) (promises config calls c).refusals
    where
      once_after : count (lists.is_same n) (map number_of (after here c).core.queries.records) ≤ 1
      once_after = subst (λ (s : State). count (lists.is_same n) (map number_of s.core.queries.records) ≤ 1) (after_both calls (c ∷ []) (opening_state config)) (one_of_sorted n (map number_of (state_after (opening_state config) (calls ++ c ∷ [])).core.queries.records) (headline config (calls ++ c ∷ [])).agrees.numbered.numbers)

      by : (o : Option Refusal) → RefusesBy o here c → 0 < pending_count n (after here c).core.queries.records
      by (Some r) refuses = subst (λ (s : State). 0 < pending_count n s.core.queries.records) (sym refuses.1) some
      by None accepts =
          let there = counted_owes n records some in
          let e : Pending = there.0 in
          owed_counts n e (after here c).core.queries.records once_after
          (((promises config calls c).waits accepts).entries n e ∙ or_left (owes n e records && not (ends_entry c e)) (list_any (gives (until here c) n e) (step here c).handed) (λ j. there.1 j && not (none e j)))

  -- a reply that is in flight after a call was so before, or the call hands it, and then an entry of its request was pending
  pub flying_before : (c : Call) (n k : ℕ) → flies n k (after here c).core.queries.records ≡ true → (flies n k records ≡ true) ⊎ (0 < pending_count n records)
  flying_before c n k flown = by (refusal_of here.core (read here c)) (promises config calls c).refusals
    where
      by : (o : Option Refusal) → RefusesBy o here c → (flies n k records ≡ true) ⊎ (0 < pending_count n records)
      by (Some r) refuses = inl (subst (λ (s : State). flies n k s.core.queries.records ≡ true) refuses.1 flown)
      by None accepts = granted (or_cases (flies n k records && not (lands c k)) (list_any (hands_reply n k) (step here c).handed) (sym (((promises config calls c).waits accepts).replies n k) ∙ flown))
        where
          granted : (((flies n k records && not (lands c k)) ≡ true) ⊎ (list_any (hands_reply n k) (step here c).handed ≡ true)) → (flies n k records ≡ true) ⊎ (0 < pending_count n records)
          granted (inl old) = inl (and_parts (flies n k records) (not (lands c k)) old).0
          granted (inr new) = inr (replied_by c accepts n k new)

  -- a reply that is in flight stays so, where the call reports none
  pub flying_stays : (c : Call) (n k : ℕ) → lands c k ≡ false → flies n k records ≡ true → flies n k (after here c).core.queries.records ≡ true
  flying_stays c n k none flown = by (refusal_of here.core (read here c)) (promises config calls c).refusals
    where
      by : (o : Option Refusal) → RefusesBy o here c → flies n k (after here c).core.queries.records ≡ true
      by (Some r) refuses = subst (λ (s : State). flies n k s.core.queries.records ≡ true) (sym refuses.1) flown
      by None accepts = ((promises config calls c).waits accepts).replies n k ∙ or_left (flies n k records && not (lands c k)) (list_any (hands_reply n k) (step here c).handed) (λ j. flown j && not (none j))

  -- a reply that a call hands is in flight then, and an entry of its request was pending
  pub handed_flies : (c : Call) (n k : ℕ) → list_any (hands_reply n k) (step here c).handed ≡ true → (flies n k (after here c).core.queries.records ≡ true) × (0 < pending_count n records)
  handed_flies c n k handed = by (refusal_of here.core (read here c)) (promises config calls c).refusals
    where
      by : (o : Option Refusal) → RefusesBy o here c → (flies n k (after here c).core.queries.records ≡ true) × (0 < pending_count n records)
      by (Some r) refuses = absurd (false≢true (sym (ap (λ (t : Step). list_any (hands_reply n k) t.handed) refuses.0) ∙ handed))
      by None accepts = (
        ((promises config calls c).waits accepts).replies n k ∙ or_right (flies n k records && not (lands c k)) (list_any (hands_reply n k) (step here c).handed) handed,
        replied_by c accepts n k handed,
      )

  -- a reply whose sending is reported is in flight no more
  pub landed_before : (k n j : ℕ) → is_accepted (step here (call.Sent k)).outcome ≡ true → flies n j (after here (call.Sent k)).core.queries.records ≡ true → (flies n j records ≡ true) × (is_reply k j ≡ false)
  landed_before k n j accepts flown = by (or_cases (flies n j records && not (is_reply k j)) (list_any (hands_reply n j) (step here (call.Sent k)).handed) (sym (((promises config calls (call.Sent k)).waits accepts).replies n j) ∙ flown))
    where
      unlanded : (b : Bool) → not b ≡ true → b ≡ false
      unlanded false h = refl
      unlanded true h = absurd (false≢true h)

      by : (((flies n j records && not (is_reply k j)) ≡ true) ⊎ (list_any (hands_reply n j) (step here (call.Sent k)).handed ≡ true)) → (flies n j records ≡ true) × (is_reply k j ≡ false)
      by (inl old) = let p = and_parts (flies n j records) (not (is_reply k j)) old in (p.0, unlanded (is_reply k j) p.1)
      by (inr new) = absurd (false≢true (sym (ap (list_any (is_reply j)) (quiet config calls (call.Sent k) (promises config calls (call.Sent k)).replies)) ∙ handed_in n j (step here (call.Sent k)).handed new))

-- ---- numbers of requests
abbrev asked_from : State → List Call → List Final
asked_from s cs = asked_in cs (steps_from s cs)

asked_last : (cs : List Call) (s : State) (c : Call) → asked_from s (cs ++ c ∷ []) ≡ asked_from s cs ++ asked_by c (step (state_after s cs) c)
asked_last [] s c = append-nil (asked_by c (step s c))
asked_last (d ∷ cs) s c =
    ap (λ l. asked_by d (step s d) ++ l) (asked_last cs (after s d) c)
    ∙ sym (append_assoc (asked_by d (step s d)) (asked_from (after s d) cs) (asked_by c (step (state_after (after s d) cs) c)))

-- of numbers that count up, the last is the first and as many more as stand before it
last_counted : (n : ℕ) (ms : List ℕ) (m : ℕ) → AreCounted n (ms ++ m ∷ []) → m ≡ n + length ms
last_counted n [] m are = let e = are.0 in omega (arith, e)
last_counted n (x ∷ ms) m are = let ih = last_counted (n + 1) ms m are.1 in omega (arith, ih)

-- a call that asks a request
pub request_of : (c : Call) → asks_request c ≡ true → (face : FaceId) × (r : Request) × (now : ℕ) × (c ≡ call.Request face r now)
request_of (call.Request face r now) a = (face, r, now, refl)
request_of (call.Open o) a = absurd (false≢true a)
request_of (call.Close face) a = absurd (false≢true a)
request_of (call.DeclareKeyExpr face id wire) a = absurd (false≢true a)
request_of (call.UndeclareKeyExpr face id) a = absurd (false≢true a)
request_of (call.DeclareQueryable face id wire info node) a = absurd (false≢true a)
request_of (call.UndeclareQueryable face id wire node) a = absurd (false≢true a)
request_of (call.Interest face id keys aggregate wire) a = absurd (false≢true a)
request_of (call.InterestFinal face id) a = absurd (false≢true a)
request_of (call.FinalizeInterest face mark set) a = absurd (false≢true a)
request_of (call.Response face r) a = absurd (false≢true a)
request_of (call.ResponseFinal face rid) a = absurd (false≢true a)
request_of (call.Sent reply) a = absurd (false≢true a)
request_of (call.Poll now) a = absurd (false≢true a)
request_of (call.SetGateways r table) a = absurd (false≢true a)
request_of (call.SetNetwork r net) a = absurd (false≢true a)
request_of (call.SetNodeIds face ids) a = absurd (false≢true a)

module _ (config : Settings) (calls : List Call) where
  abbrev now_asked : State
  now_asked = state_after (opening_state config) calls

  -- the number of a request that is asked
  pub asked_next : (c : Call) (n : ℕ) → asks_request c ≡ true → (step now_asked c).outcome ≡ outcome.Asked n → n ≡ config.start.requests + length (asked_from (opening_state config) calls)
  asked_next c n asking is =
      let q = request_of c asking in
      let x : Call = call.Request q.0 q.1 q.2 in
      let mine : List Final = record { number = n; asker = q.0; id = q.1.id; qos = q.1.qos } ∷ [] in
      let e = ap (λ (y : Call). (step now_asked y).outcome) (sym q.3) ∙ is in
      let asked = asked_last calls (opening_state config) x ∙ ap (λ o. asked_from (opening_state config) calls ++ asked_as q.0 q.1 o) e in
      let counted = subst (λ (l : List Final). AreCounted config.start.requests (map asked_number l)) asked (headline config (calls ++ x ∷ [])).numbers in
      let parted = subst (AreCounted config.start.requests) (map-append asked_number (asked_from (opening_state config) calls) mine) counted in
      last_counted config.start.requests (map asked_number (asked_from (opening_state config) calls)) n parted ∙ ap (λ k. config.start.requests + k) (length-map (asked_from (opening_state config) calls) asked_number)

  -- a request that is accepted is asked under the next number
  pub asked_outcome : (c : Call) → asks_request c ≡ true → is_accepted (step now_asked c).outcome ≡ true → (step now_asked c).outcome ≡ outcome.Asked now_asked.core.queries.requests
  asked_outcome c asking accepts =
      let q = request_of c asking in
      let x : Call = call.Request q.0 q.1 q.2 in
      ap (λ (y : Call). (step now_asked y).outcome) q.3
      ∙ ((promises config calls x).requests (ap (λ (y : Call). is_accepted (step now_asked y).outcome) (sym q.3) ∙ accepts)).0

  -- the numbers that were asked, once one more call is made
  pub asked_more : (c : Call) → length (asked_from (opening_state config) (calls ++ c ∷ [])) ≡ length (asked_from (opening_state config) calls) + length (asked_by c (step now_asked c))
  asked_more c = ap (λ (l : List Final). length l) (asked_last calls (opening_state config) c) ∙ length-append (asked_from (opening_state config) calls) (asked_by c (step now_asked c))

  pub asked_one : (c : Call) (n : ℕ) → asks_request c ≡ true → (step now_asked c).outcome ≡ outcome.Asked n → length (asked_by c (step now_asked c)) ≡ 1
  asked_one c n asking is =
      let q = request_of c asking in
      ap (λ (y : Call). length (asked_by y (step now_asked y))) q.3
      ∙ ap (λ o. length (asked_as q.0 q.1 o)) (ap (λ (y : Call). (step now_asked y).outcome) (sym q.3) ∙ is)

-- a call that reports no reply
pub lands_none : (c : Call) → is_sent c ≡ false → (k : ℕ) → lands c k ≡ false
lands_none (call.Sent reply) h k = absurd (false≢true (sym h))
lands_none (call.Request face r now) h k = refl
lands_none (call.Open o) h k = refl
lands_none (call.Close face) h k = refl
lands_none (call.DeclareKeyExpr face id wire) h k = refl
lands_none (call.UndeclareKeyExpr face id) h k = refl
lands_none (call.DeclareQueryable face id wire info node) h k = refl
lands_none (call.UndeclareQueryable face id wire node) h k = refl
lands_none (call.Interest face id keys aggregate wire) h k = refl
lands_none (call.InterestFinal face id) h k = refl
lands_none (call.FinalizeInterest face mark set) h k = refl
lands_none (call.Response face r) h k = refl
lands_none (call.ResponseFinal face rid) h k = refl
lands_none (call.Poll now) h k = refl
lands_none (call.SetGateways r table) h k = refl
lands_none (call.SetNetwork r net) h k = refl
lands_none (call.SetNodeIds face ids) h k = refl
