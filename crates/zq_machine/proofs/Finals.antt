-- A final comes in exactly one call: what a call hands of them, and what is still to come, is what was to come.
use Rattle.std.proofs.Common.{◌≡◌, ℕ, ◌+◌, ◌<◌, Bool, true, false, cond, not, List, [], ◌∷◌, ◌++◌, map, length, Option, Some, None, refl, sym, ap, ◌∙◌, arith, true≢false, subst, eqb-true, length-append}
use Rattle.std.specs.List.{cons_option, filter}
use Rattle.std.specs.Prelude.{◌&&◌, ◌||◌, ◌==◌}
use Rattle.std.specs.Option.{is_some, option_map}
use Rattle.std.specs.Ordering.{nat_cmp}
use Rattle.std.specs.List.Sorted.{IsStrictlySortedBy}
use Rattle.std.specs.Map.{keys_of, remove_entry}
use Rattle.std.specs.BTreeMap.{is_at, insert_entry}
use Rattle.std.proofs.lemmas.Bool.{false≢true, eqb-false}
use Rattle.std.proofs.lemmas.Cmp.{nat_cmp_total}
use Rattle.std.proofs.lemmas.Map.Lookups.{exact_unsigned}
use Rattle.std.proofs.lemmas.List.{map-append}
use Rattle.std.proofs.lemmas.List.Elements.{filter-append}
use Rattle.zq_message.specs.declared.message.FaceId.{FaceId}
use Rattle.zq_message.specs.declared.message.Request.{Request}
use Rattle.zq_message.specs.declared.message.Response.{Response}
use Rattle.zq_strategy.specs.declared.offer.QueryTargetQabl.{QueryTargetQabl}
use Rattle.zq_query.specs.declared.records.Final.{Final}
use Rattle.zq_query.specs.declared.records.ReplyTo.{ReplyTo}
use Rattle.zq_query.specs.declared.records.Timeout.{Timeout}
use Rattle.zq_query.specs.Records.{QueryState, any_over, is_closed, is_entry, next_reply, after_reply, after_put, is_none_left}
use Rattle.zq_query.specs.Closing.{closing_finals, after_close, finals_after, finals_landed}
use Rattle.zq_query.specs.Polling.{timeouts, after_poll}
use Rattle.zq_query.specs.Balance.{finals_under}
use Rattle.zq_query.proofs.Keys.{kept}
use Rattle.zq_query.proofs.Sorted.{aside}
use Rattle.zq_query.proofs.TimingOut.{rest_stays}
use Rattle.zq_query.proofs.Balance.{letting_balance, landing_balance, closing_balance, reply_balance, poll_balance, ask_balance, letting_none_over, landing_none_over, reply_none_over, close_none_over, poll_none_over, ask_none_over}
use Rattle.zq_tables.specs.Naming.{NamingState}
use Rattle.zq_machine.specs.declared.call.Call.{Call}
use Rattle.zq_machine.specs.Handing.{Handed}
use Rattle.zq_machine.specs.declared.face.OpenFace.{OpenFace}
use Rattle.zq_machine.specs.Configs.{Settings}
use Rattle.zq_machine.specs.State.{State, Core, at, is_open, opening_state}
use Rattle.zq_machine.specs.Selecting.{select, full_text, target_of}
use Rattle.zq_machine.specs.TextCalls.{TextCall, opening, closing, naming, unnaming, declaring, withdrawing, asking, replying, ending, reporting, passing, listing, finalizing, announcing, retracting, networking, tabling, hearing, unhearing, read}
use Rattle.zq_machine.specs.Deciding.{timed_out, causes, refusal_of, granted, accepted, after_replied, deadline, handed_reply, handed_request, handed_requests, handed_replies, handed_timeouts, opened, passing_finals, replied}
use Rattle.zq_machine.specs.Machine.{after, state_after, step}
use Rattle.zq_machine.specs.Messages.{text_final}
use Rattle.zq_machine.specs.Writing.{Place, finish, is_unsent, sent_final, without_unsent, write, written}
use Rattle.zq_machine.specs.Headline.{ends, finals_of, to_come}
use Rattle.zq_machine.proofs.Always.{Stays, after_kept, always}
use Rattle.zq_machine.proofs.Granted.{all_passed, by_granted, filter_beside}
use Rattle.zq_machine.proofs.GoingOut.{count_out}
use Rattle.zq_machine.proofs.Writing.{finish_balance}
use Rattle.zq_key.proofs.Lookups.{same_key}
use Rattle.zq_key.proofs.Sorted.{sorted_out, sorted_in, has_put}

-- ---- what holds between two calls: open faces and closed ones are apart, and no record is over
pub record Sound (faces : List (ℕ × OpenFace)) (next : ℕ) (q : QueryState) : Type 0 where
  pub sorted : IsStrictlySortedBy nat_cmp (keys_of faces)
  pub open_below : (f : ℕ) → is_some (at f faces) ≡ true → f < next
  pub closed_below : (f : ℕ) → is_closed q.closed f ≡ true → f < next
  pub apart : (f : ℕ) → is_some (at f faces) ≡ true → is_closed q.closed f ≡ false
  pub standing : any_over q.records ≡ false

same_closed : (faces : List (ℕ × OpenFace)) (next : ℕ) (q z : QueryState) → Sound faces next q → z.closed ≡ q.closed → any_over z.records ≡ false → Sound faces next z
same_closed faces next q z s e over = record {
  sorted = s.sorted;
  open_below = s.open_below;
  closed_below = λ f h. s.closed_below f (ap (λ l. is_closed l f) (sym e) ∙ h);
  apart = λ f h. ap (λ l. is_closed l f) e ∙ s.apart f h;
  standing = over;
}

-- a face of the next number is opened
opened_sound : (faces : List (ℕ × OpenFace)) (next : ℕ) (q : QueryState) (o : OpenFace) → Sound faces next q → Sound (insert_entry nat_cmp faces next o) (next + 1) q
opened_sound faces next q o s = record {
  sorted = sorted_in nat_cmp_total faces next o s.sorted;
  open_below = λ f h. below f (next == f) refl h;
  closed_below = λ f h. let l = s.closed_below f h in omega (arith, l);
  apart = λ f h. away f (next == f) refl h;
  standing = s.standing;
}
  where
    below : (f : ℕ) (b : Bool) → (next == f) ≡ b → is_some (at f (insert_entry nat_cmp faces next o)) ≡ true → f < next + 1
    below f true e h = let same : next ≡ f = eqb-true next f e in omega (arith, same)
    below f false e h =
        let l = s.open_below f (ap is_some (sym (aside nat_cmp_total exact_unsigned faces next f o (eqb-false next f e))) ∙ h) in
        omega (arith, l)

    fresh : (b : Bool) → is_closed q.closed next ≡ b → b ≡ false
    fresh true e = let l = s.closed_below next e in absurd (omega (arith, l))
    fresh false e = refl

    away : (f : ℕ) (b : Bool) → (next == f) ≡ b → is_some (at f (insert_entry nat_cmp faces next o)) ≡ true → is_closed q.closed f ≡ false
    away f true e h = ap (is_closed q.closed) (sym (eqb-true next f e)) ∙ fresh (is_closed q.closed next) refl
    away f false e h = s.apart f (ap is_some (sym (aside nat_cmp_total exact_unsigned faces next f o (eqb-false next f e))) ∙ h)

some_there : (o : Option OpenFace) → is_some o ≡ true → (v : OpenFace) × (o ≡ Some v)
some_there None h = absurd (false≢true h)
some_there (Some v) h = (v, refl)

-- an open face is closed
closed_sound : (faces : List (ℕ × OpenFace)) (next face : ℕ) (q : QueryState) → is_some (at face faces) ≡ true → Sound faces next q → Sound (remove_entry (is_at (nat_cmp face)) faces) next (after_close face q)
closed_sound faces next face q there s = record {
  sorted = sorted_out nat_cmp (is_at (nat_cmp face)) faces s.sorted;
  open_below = λ f h. s.open_below f (still f h).1;
  closed_below = λ f h. below f (is_at (nat_cmp f) face) refl (sym (has_put nat_cmp_total exact_unsigned f face q.closed) ∙ h);
  apart = λ f h. has_put nat_cmp_total exact_unsigned f face q.closed ∙ away f (is_at (nat_cmp f) face) refl (still f h);
  standing = close_none_over face q;
}
  where
    still : (f : ℕ) → is_some (at f (remove_entry (is_at (nat_cmp face)) faces)) ≡ true → (face ≡ f → ⊥) × (is_some (at f faces) ≡ true)
    still f h =
        let v = some_there (at f (remove_entry (is_at (nat_cmp face)) faces)) h in
        let k = kept nat_cmp_total exact_unsigned face f v.0 faces s.sorted v.1 in
        (k.0, ap is_some k.1)

    below : (f : ℕ) (b : Bool) → is_at (nat_cmp f) face ≡ b → (b || is_closed q.closed f) ≡ true → f < next
    below f true e h = let same : f ≡ face = same_key nat_cmp_total exact_unsigned f face e in subst (λ k. k < next) (sym same) (s.open_below face there)
    below f false e h = s.closed_below f h

    away : (f : ℕ) (b : Bool) → is_at (nat_cmp f) face ≡ b → (face ≡ f → ⊥) × (is_some (at f faces) ≡ true) → (b || is_closed q.closed f) ≡ false
    away f true e k = absurd (k.0 (sym (same_key nat_cmp_total exact_unsigned f face e)))
    away f false e k = s.apart f k.1

-- ---- every call keeps it
pub put_closed : (n : ℕ) (q : QueryState) (b : Bool) → (cond b (after_put n q) q).closed ≡ q.closed
put_closed n q true = refl
put_closed n q false = refl

replied_sound : (faces : List (ℕ × OpenFace)) (next : ℕ) (q : QueryState) (o : Option ReplyTo) → Sound faces next q → Sound faces next (after_replied o q)
replied_sound faces next q None s = s
replied_sound faces next q (Some to) s = same_closed faces next q (after_reply to q) s (put_closed to.number q (is_some to.reply)) (reply_none_over to q s.standing)

pub timing_closed : (now : ℕ) (q : QueryState) → (after_poll now q).closed ≡ q.closed
timing_closed now q = ap (λ (z : QueryState). z.closed) (rest_stays (timeouts now q) q)

pub is_there : (b : Bool) → not b ≡ false → b ≡ true
is_there true h = refl
is_there false h = absurd (true≢false h)

-- a call that nothing refuses is one of an open face, where it is one of a face
pub granted_sound : (c : Core) (t : TextCall) → refusal_of c t ≡ None → Sound c.faces c.next_face c.queries → Sound (accepted c t).faces (accepted c t).next_face (accepted c t).queries
granted_sound c (opening o) h s = opened_sound c.faces c.next_face c.queries (opened o) s
granted_sound c (closing face) h s = closed_sound c.faces c.next_face face.0 c.queries (is_there (is_open face.0 c) (all_passed (causes c (closing face)) h).0) s
granted_sound c (naming face id sd x) h s = s
granted_sound c (unnaming face id x) h s = s
granted_sound c (declaring face id sd i n) h s = s
granted_sound c (withdrawing face id) h s = s
granted_sound c (asking face sd r now) h s =
    same_closed c.faces c.next_face c.queries _ s refl (ask_none_over face r.id r.qos _ (deadline c r.timeout now) c.queries s.standing)
granted_sound c (replying face sd r) h s = replied_sound c.faces c.next_face c.queries (next_reply face.0 r.rid c.queries) s
granted_sound c (ending face rid) h s = same_closed c.faces c.next_face c.queries _ s refl (letting_none_over (is_entry face.0 rid) c.queries.records)
granted_sound c (reporting reply) h s = same_closed c.faces c.next_face c.queries _ s refl (landing_none_over reply c.queries.records)
granted_sound c (passing now) h s = same_closed c.faces c.next_face c.queries _ s (timing_closed now c.queries) (poll_none_over now c.queries)
granted_sound c (listing r t) h s = s
granted_sound c (finalizing face m set) h s = s
granted_sound c (announcing face sd i node) h s = s
granted_sound c (retracting face sd node) h s = s
granted_sound c (networking r net) h s = s
granted_sound c (tabling face ids) h s = s
granted_sound c (hearing face id keys sd) h s = s
granted_sound c (unhearing face id) h s = s

abbrev pub IsSound : State → Type 0
IsSound s = Sound s.core.faces s.core.next_face s.core.queries

-- requests that are let go leave no record over
pub unsent_sound : (places : List Place) (c : Core) → Sound c.faces c.next_face c.queries → Sound c.faces c.next_face (without_unsent places c).queries
unsent_sound places c i = same_closed c.faces c.next_face c.queries _ i refl (letting_none_over (is_unsent places) c.queries.records)

stays_sound : Stays IsSound
stays_sound = record { numbers = λ core face text id names gates i. i; gates = λ text hs core names gates i. i; unsent = λ places core names gates i. unsent_sound places core i }

pub after_sound : (s : State) (c : Call) → IsSound s → IsSound (after s c)
after_sound = after_kept IsSound (λ s c. granted_sound s.core (read s c)) stays_sound

pub none_sorted : IsStrictlySortedBy nat_cmp []
unfolding IsStrictlySortedBy
none_sorted = tt

pub opening_sound : (config : Settings) → IsSound (opening_state config)
opening_sound config = record {
  sorted = none_sorted;
  open_below = λ f h. absurd (false≢true h);
  closed_below = λ f h. absurd (false≢true h);
  apart = λ f h. absurd (false≢true h);
  standing = refl;
}

pub run_sound : (cs : List Call) (s : State) → IsSound s → IsSound (state_after s cs)
run_sound = always IsSound (λ s c. granted_sound s.core (read s c)) stays_sound

-- ---- how many finals messages are
module _ (n : ℕ) (names : NamingState) where
  abbrev count : List Handed → ℕ
  count hs = length (filter (ends n) hs)

  pub finals_counted : (fs : List Final) → count (write names (map text_final fs)) ≡ finals_under n fs
  finals_counted [] = refl
  finals_counted (f ∷ fs) = by (f.number == n) (finals_counted fs)
    where
      by : (b : Bool) → count (write names (map text_final fs)) ≡ finals_under n fs → length (cond b (sent_final f ∷ filter (ends n) (write names (map text_final fs))) (filter (ends n) (write names (map text_final fs)))) ≡ length (cond b (f ∷ filter (λ (g : Final). g.number == n) fs) (filter (λ (g : Final). g.number == n) fs))
      by true e = omega (arith, e)
      by false e = e

  none_requests : (q : QueryState) (text : List ℕ) (r : Request) (os : List QueryTargetQabl) → count (write names (map (handed_request q text r) os)) ≡ 0
  none_requests q text r [] = refl
  none_requests q text r (o ∷ os) = none_requests q text r os

  none_replies : (text : List ℕ) (r : Response) (to : ReplyTo) → count (write names (handed_replies text r to)) ≡ 0
  none_replies text r to = by to.reply
    where
      by : (o : Option ℕ) → count (write names (cons_option (option_map (handed_reply text r to) o) [])) ≡ 0
      by None = refl
      by (Some k) = refl

  pub none_replied : (text : List ℕ) (r : Response) (o : Option ReplyTo) → count (write names (replied text r o)) ≡ 0
  none_replied text r None = refl
  none_replied text r (Some to) = none_replies text r to

  pub none_timeouts : (faces : List (ℕ × OpenFace)) (ts : List Timeout) → count (write names (handed_timeouts faces ts)) ≡ 0
  none_timeouts faces [] = refl
  none_timeouts faces (t ∷ ts) = by t.reply (none_timeouts faces ts)
    where
      by : (o : Option ℕ) → count (write names (handed_timeouts faces ts)) ≡ 0 → count (write names (cons_option (option_map (timed_out faces t) o) [] ++ handed_timeouts faces ts)) ≡ 0
      by None none = none
      by (Some k) none = none

  -- with no offer the one message is the final
  pub asked_count : (q : QueryState) (face : FaceId) (text : List ℕ) (r : Request) (os : List QueryTargetQabl) → count (write names (handed_requests q face text r os)) ≡ cond (is_none_left (map target_of os) && (q.requests == n)) 1 0
  asked_count q face text r [] = by (q.requests == n)
    where
      by : (b : Bool) → length (cond b (sent_final (record { number = q.requests; asker = face; id = r.id; qos = r.qos }) ∷ []) []) ≡ cond b 1 0
      by true = refl
      by false = refl
  asked_count q face text r (o ∷ os) = none_requests q text r (o ∷ os)

  pub passed_count : (faces : List (ℕ × OpenFace)) (ts : List Timeout) (fs : List Final) → count (write names (handed_timeouts faces ts ++ map text_final fs)) ≡ finals_under n fs
  passed_count faces ts fs =
      let none = none_timeouts faces ts in
      let told = finals_counted fs in
      let both : count (write names (handed_timeouts faces ts ++ map text_final fs)) ≡ count (write names (handed_timeouts faces ts)) + count (write names (map text_final fs)) =
      ap count (map-append (written names) (handed_timeouts faces ts) (map text_final fs))
      ∙ ap length (filter-append (ends n) (write names (handed_timeouts faces ts)) (write names (map text_final fs)))
      ∙ length-append (filter (ends n) (write names (handed_timeouts faces ts))) _ in
      omega (arith, none, told, both)

-- ---- the balance of a call that nothing refuses
abbrev Balanced : ℕ → State → TextCall → Type 0
Balanced n s t = length (filter (ends n) (write s.names (granted s.core t).messages)) + to_come (accepted s.core t).queries.closed n (accepted s.core t).queries ≡ to_come (accepted s.core t).queries.closed n s.core.queries

replied_balance : (n : ℕ) (q : QueryState) (o : Option ReplyTo) → to_come (after_replied o q).closed n (after_replied o q) ≡ to_come (after_replied o q).closed n q
replied_balance n q None = refl
replied_balance n q (Some to) = reply_balance n to q ∙ ap (λ l. to_come l n q) (sym (put_closed to.number q (is_some to.reply)))

pub granted_balance : (n : ℕ) (s : State) (t : TextCall) → refusal_of s.core t ≡ None → IsSound s → Balanced n s t
granted_balance n s (opening o) h i = omega arith
granted_balance n s (closing face) h i =
    let q = s.core.queries in
    let told = finals_counted n s.names (closing_finals face.0 q) in
    let kept = closing_balance n face.0 q in
    omega (arith, told, kept)
granted_balance n s (naming face id sd x) h i = omega arith
granted_balance n s (unnaming face id x) h i = omega arith
granted_balance n s (declaring face id sd j m) h i = omega arith
granted_balance n s (withdrawing face id) h i = omega arith
granted_balance n s (asking face sd r now) h i =
    let q = s.core.queries in
    let os = select s.core face sd r in
    let told = asked_count n s.names q face (full_text sd) r os in
    let kept = ask_balance n face r.id r.qos (map target_of os) (deadline s.core r.timeout now) q (i.apart face.0 (is_there (is_open face.0 s.core) (all_passed (causes s.core (asking face sd r now)) h).0)) in
    omega (arith, told, kept)
granted_balance n s (replying face sd r) h i =
    let told = none_replied n s.names (full_text sd) r (next_reply face.0 r.rid s.core.queries) in
    let kept = replied_balance n s.core.queries (next_reply face.0 r.rid s.core.queries) in
    omega (arith, told, kept)
granted_balance n s (ending face rid) h i =
    let q = s.core.queries in
    let told = finals_counted n s.names (finals_after (is_entry face.0 rid) q.closed q.records) in
    let kept = letting_balance q.closed n (is_entry face.0 rid) q.records in
    omega (arith, told, kept)
granted_balance n s (reporting reply) h i =
    let q = s.core.queries in
    let told = finals_counted n s.names (finals_landed reply q.closed q.records) in
    let kept = landing_balance q.closed n reply q.records in
    omega (arith, told, kept)
granted_balance n s (passing now) h i =
    let q = s.core.queries in
    let told = passed_count n s.names s.core.faces (timeouts now q) (passing_finals now q) in
    let kept = poll_balance now n q in
    let same = ap (λ l. to_come l n q) (timing_closed now q) in
    omega (arith, told, kept, same)
granted_balance n s (listing r t) h i = omega arith
granted_balance n s (finalizing face m set) h i = omega arith
granted_balance n s (announcing face sd j node) h i = omega arith
granted_balance n s (retracting face sd node) h i = omega arith
granted_balance n s (networking r net) h i = omega arith
granted_balance n s (tabling face ids) h i = omega arith
granted_balance n s (hearing face id keys sd) h i = omega arith
granted_balance n s (unhearing face id) h i = omega arith

-- finals of requests that did not leave stand behind
pub count_ended : (n : ℕ) (hs : List Handed) (fs : List Final) → length (filter (ends n) (hs ++ map sent_final fs)) ≡ length (filter (ends n) hs) + finals_under n fs
count_ended n hs fs = ap length (filter-append (ends n) hs (map sent_final fs)) ∙ length-append (filter (ends n) hs) (filter (ends n) (map sent_final fs)) ∙ ap (λ k. length (filter (ends n) hs) + k) (all_counted fs)
  where
    all_counted : (gs : List Final) → length (filter (ends n) (map sent_final gs)) ≡ finals_under n gs
    all_counted [] = refl
    all_counted (f ∷ gs) = by (f.number == n) (all_counted gs)
      where
        by : (b : Bool) → length (filter (ends n) (map sent_final gs)) ≡ finals_under n gs
            → length (cond b (sent_final f ∷ filter (ends n) (map sent_final gs)) (filter (ends n) (map sent_final gs))) ≡ length (cond b (f ∷ filter (λ (g : Final). g.number == n) gs) (filter (λ (g : Final). g.number == n) gs))
        by true e = omega (arith, e)
        by false e = e

pub call_balance : (n : ℕ) (s : State) (c : Call) → IsSound s → finals_of n (step s c) + to_come (after s c).core.queries.closed n (after s c).core.queries ≡ to_come (after s c).core.queries.closed n s.core.queries
call_balance n s c i =
    let t = read s c in
    by_granted (λ z w. finals_of n z + to_come w.core.queries.closed n w.core.queries ≡ to_come w.core.queries.closed n s.core.queries) s t
    (λ text z w e. ap (λ k. k + to_come w.core.queries.closed n w.core.queries) (count_out text (ends n) (λ h left. refl) z.handed w.gates) ∙ e)
    (λ p places z w e.
    let told = count_ended n z.handed (finish w.core (p ∷ places)).finals in
    let kept = finish_balance n w.core (p ∷ places) in
    omega (arith, told, kept, e))
    (λ h. ap (λ l. length l + to_come (accepted s.core t).queries.closed n (accepted s.core t).queries) (filter_beside s t (write s.names (granted s.core t).messages) (ends n) (λ to d. refl)) ∙ granted_balance n s t h i)
    (λ r. omega arith)

pub call_standing : (s : State) (c : Call) → IsSound s → any_over (after s c).core.queries.records ≡ false
call_standing s c i = (after_sound s c i).standing
