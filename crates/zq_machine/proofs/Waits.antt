-- What each call of a run takes out of what requests wait for, and puts in.
use Rattle.std.proofs.Common.{◌≡◌, ℕ, Bool, true, false, cond, not, List, [], ◌∷◌, ◌++◌, map, Option, Some, None, refl, sym, ap, ◌∙◌, append-nil, true≢false}
use Rattle.std.specs.List.{AllByRecursion, cons_option, list_any}
use Rattle.std.specs.Prelude.{◌&&◌, ◌||◌, ◌==◌}
use Rattle.std.specs.Option.{is_some, option_map, option_map_or}
use Rattle.std.proofs.lemmas.Bool.{false≢true, or_parts}
use Rattle.std.proofs.lemmas.List.Folds.{list_any-append}
use Rattle.std.proofs.Math.Bool.{and-false, and-true, and-or_distrib_right, and_assoc, or-false}
use Rattle.std.proofs.lemmas.List.{map-append}
use Rattle.zq_message.specs.declared.message.FaceId.{FaceId}
use Rattle.zq_message.specs.declared.message.Message.{Message}
use Rattle.zq_message.specs.declared.message.Message.TheVariants as message
use Rattle.zq_message.specs.declared.message.Request.{Request}
use Rattle.zq_message.specs.declared.message.Response.{Response}
use Rattle.zq_strategy.specs.declared.offer.QueryTargetQabl.{QueryTargetQabl}
use Rattle.zq_query.specs.declared.records.Final.{Final}
use Rattle.zq_query.specs.declared.records.ReplyTo.{ReplyTo}
use Rattle.zq_query.specs.declared.records.Timeout.{Timeout}
use Rattle.zq_query.specs.Records.{QueryState, Record, Pending, any_over, after_put, is_pending, flies, has_reply, is_closed, is_entry, is_reply, letting_go, next_reply, owner, reply_to, has_number}
use Rattle.zq_query.specs.Asking.{asked_records, given_id, given_place, is_full}
use Rattle.zq_query.specs.Closing.{at_face, closing_finals, finals_after, finals_landed}
use Rattle.zq_query.specs.Polling.{is_due, timeouts, timing_out}
use Rattle.zq_query.proofs.Putting.{owner_there}
use Rattle.zq_tables.specs.Naming.{NamingState}
use Rattle.zq_machine.specs.declared.call.Call.{Call}
use Rattle.zq_machine.specs.declared.call.Call.TheVariants as call
use Rattle.zq_machine.specs.declared.face.OpenFace.{OpenFace}
use Rattle.zq_machine.specs.State.{State, Core}
use Rattle.zq_machine.specs.Selecting.{select, full_text, target_of}
use Rattle.zq_machine.specs.TextCalls.{TextCall, opening, closing, naming, unnaming, declaring, withdrawing, asking, replying, ending, reporting, passing, listing, finalizing, announcing, retracting, networking, tabling, hearing, unhearing, read, said as said_by, said_or_none, said_if}
use Rattle.zq_machine.specs.Deciding.{granted, is_accepted, accepted, after_replied, deadline, handed_reply, timed_out, handed_request, handed_requests, handed_replies, handed_timeouts, passing_finals, replied}
use Rattle.zq_machine.specs.Machine.{answer, settle, step, after}
use Rattle.zq_machine.specs.Messages.{text_final}
use Rattle.zq_machine.specs.Writing.{Place, finish, is_unsent, sent_final, unsent, write, written}
use Rattle.zq_machine.specs.declared.call.Step.{Step}
use Rattle.zq_machine.specs.Gates.{let_out, through}
use Rattle.zq_machine.specs.Handing.{Handed}
use Rattle.zq_machine.specs.Headline.{asks, is_request}
use Rattle.zq_machine.specs.Waiting.{Waits, asks_entry, hands_reply, ends_entry, gives, is_of, lands, owes, until, waits}
use Rattle.zq_machine.proofs.Waiting.{asked, owes_let, owes_landed, owes_timing, owes_after_put, owes_asked, flies_let, flies_landed, flies_put, flies_timing, flies_asked, says, timeouts_fit}
use Rattle.zq_machine.proofs.Granted.{any_beside, by_plain, by_told, told_by}
use Rattle.zq_machine.proofs.Asks.{granted_asks, is_asking}
use Rattle.zq_machine.proofs.Finals.{IsSound}
use Rattle.zq_machine.proofs.GoingOut.{any_ended, any_out, any_through, final_through, none_unsent}
use Rattle.zq_machine.proofs.Promises.{no_full}
use Rattle.zq_machine.proofs.Sending.{all_away, all_given, goes, none_let_go, still_asked, unsent_absent}
use Rattle.zq_machine.proofs.Reading.{declare_read, withdraw_read}
use Rattle.zq_machine.proofs.Writing.{fully}

-- ---- what a call with its expressions read ends
ended : TextCall → Pending → Bool
ended (ending face rid) e = is_entry face.0 rid e
ended (closing face) e = at_face face.0 e
ended (passing now) e = is_due now e
ended (opening o) e = false
ended (naming face id s x) e = false
ended (unnaming face id x) e = false
ended (declaring face id s i n) e = false
ended (withdrawing face id) e = false
ended (asking face s r now) e = false
ended (replying face s r) e = false
ended (reporting reply) e = false
ended (listing r t) e = false
ended (finalizing face m set) e = false
ended (announcing face sd i node) e = false
ended (retracting face sd node) e = false
ended (networking r net) e = false
ended (tabling face ids) e = false
ended (hearing face id keys sd) e = false
ended (unhearing face id) e = false

landed : TextCall → ℕ → Bool
landed (reporting reply) k = is_reply reply k
landed (opening o) k = false
landed (closing face) k = false
landed (naming face id s x) k = false
landed (unnaming face id x) k = false
landed (declaring face id s i n) k = false
landed (withdrawing face id) k = false
landed (asking face s r now) k = false
landed (replying face s r) k = false
landed (ending face rid) k = false
landed (passing now) k = false
landed (listing r t) k = false
landed (finalizing face m set) k = false
landed (announcing face sd i node) k = false
landed (retracting face sd node) k = false
landed (networking r net) k = false
landed (tabling face ids) k = false
landed (hearing face id keys sd) k = false
landed (unhearing face id) k = false

moment_of : Core → TextCall → ℕ
moment_of c (asking face s r now) = deadline c r.timeout now
moment_of c (opening o) = 0
moment_of c (closing face) = 0
moment_of c (naming face id s x) = 0
moment_of c (unnaming face id x) = 0
moment_of c (declaring face id s i n) = 0
moment_of c (withdrawing face id) = 0
moment_of c (replying face s r) = 0
moment_of c (ending face rid) = 0
moment_of c (reporting reply) = 0
moment_of c (passing now) = 0
moment_of c (listing r t) = 0
moment_of c (finalizing face m set) = 0
moment_of c (announcing face sd i node) = 0
moment_of c (retracting face sd node) = 0
moment_of c (networking r net) = 0
moment_of c (tabling face ids) = 0
moment_of c (hearing face id keys sd) = 0
moment_of c (unhearing face id) = 0

-- ---- messages that give no entry, or carry no reply
module _ (n : ℕ) (names : NamingState) where
  pub finals_give : (moment : ℕ) (e : Pending) (fs : List Final) → list_any (gives moment n e) (write names (map text_final fs)) ≡ false
  finals_give moment e [] = refl
  finals_give moment e (f ∷ fs) = (λ j. and-false (f.number == n) j || finals_give moment e fs j)

  pub finals_carry : (k : ℕ) (fs : List Final) → list_any (hands_reply n k) (write names (map text_final fs)) ≡ false
  finals_carry k [] = refl
  finals_carry k (f ∷ fs) = (λ j. and-false (f.number == n) j || finals_carry k fs j)

  requests_carry : (k : ℕ) (q : QueryState) (text : List ℕ) (r : Request) (os : List QueryTargetQabl) → list_any (hands_reply n k) (write names (map (handed_request q text r) os)) ≡ false
  requests_carry k q text r [] = refl
  requests_carry k q text r (o ∷ os) = (λ j. and-false (q.requests == n) j || requests_carry k q text r os j)

  pub asked_carry : (k : ℕ) (q : QueryState) (face : FaceId) (text : List ℕ) (r : Request) (os : List QueryTargetQabl) → list_any (hands_reply n k) (write names (handed_requests q face text r os)) ≡ false
  asked_carry k q face text r [] = or-false _ ∙ and-false (q.requests == n)
  asked_carry k q face text r (o ∷ os) = requests_carry k q text r (o ∷ os)

  replies_give : (moment : ℕ) (e : Pending) (text : List ℕ) (r : Response) (to : ReplyTo) → list_any (gives moment n e) (write names (handed_replies text r to)) ≡ false
  replies_give moment e text r to = by to.reply
    where
      by : (o : Option ℕ) → list_any (gives moment n e) (write names (cons_option (option_map (handed_reply text r to) o) [])) ≡ false
      by (Some k) = or-false _ ∙ and-false (to.number == n)
      by None = refl

  pub replied_give : (moment : ℕ) (e : Pending) (text : List ℕ) (r : Response) (o : Option ReplyTo) → list_any (gives moment n e) (write names (replied text r o)) ≡ false
  replied_give moment e text r None = refl
  replied_give moment e text r (Some to) = replies_give moment e text r to

  pub timeouts_give : (moment : ℕ) (e : Pending) (faces : List (ℕ × OpenFace)) (ts : List Timeout) → list_any (gives moment n e) (write names (handed_timeouts faces ts)) ≡ false
  timeouts_give moment e faces [] = refl
  timeouts_give moment e faces (t ∷ ts) = by t.reply (timeouts_give moment e faces ts)
    where
      by : (o : Option ℕ) → list_any (gives moment n e) (write names (handed_timeouts faces ts)) ≡ false → list_any (gives moment n e) (write names (cons_option (option_map (timed_out faces t) o) [] ++ handed_timeouts faces ts)) ≡ false
      by None none = none
      by (Some k) none = (λ j. and-false (t.number == n) j || none j)

  unsaid : (k : ℕ) (faces : List (ℕ × OpenFace)) (t : Timeout) (ts : List Timeout) (o : Option ℕ) → list_any (hands_reply n k) (write names (handed_timeouts faces ts)) ≡ list_any (says n k) ts
      → list_any (hands_reply n k) (write names (cons_option (option_map (timed_out faces t) o) [] ++ handed_timeouts faces ts)) ≡ (((t.number == n) && option_map_or (is_reply k) o false) || list_any (says n k) ts)
  unsaid k faces t ts None ih = ih ∙ ap (λ b. b || list_any (says n k) ts) (sym (and-false (t.number == n)))
  unsaid k faces t ts (Some x) ih = (λ j. ((t.number == n) && is_reply k x) || ih j)

  pub timeouts_carry : (k : ℕ) (faces : List (ℕ × OpenFace)) (ts : List Timeout) → list_any (hands_reply n k) (write names (handed_timeouts faces ts)) ≡ list_any (says n k) ts
  timeouts_carry k faces [] = refl
  timeouts_carry k faces (t ∷ ts) = unsaid k faces t ts t.reply (timeouts_carry k faces ts)

-- ---- each call that nothing refuses
abbrev WaitsAfter : State → TextCall → Type 0
WaitsAfter s t = Waits (ended t) (landed t) (moment_of s.core t) s.core.queries.records (accepted s.core t).queries.records (write s.names (granted s.core t).messages)

idle : (b : Bool) → b ≡ ((b && true) || false)
idle true = refl
idle false = refl

quiet : (d : ℕ) (rs : List Record) → Waits (λ e. false) (λ k. false) d rs rs []
quiet d rs = record { entries = λ n e. idle (owes n e rs); replies = λ n k. idle (flies n k rs) }

-- nothing is put in
nothing_new : (a b : Bool) → a ≡ b → (l : Bool) → l ≡ false → a ≡ (b || l)
nothing_new a b e l none = e ∙ sym (or-false b) ∙ ap (λ x. b || x) (sym none)

let_go : (d : ℕ) (s : State) (p : Pending → Bool) (fs : List Final) → Waits p (λ k. false) d s.core.queries.records (letting_go p s.core.queries.records) (write s.names (map text_final fs))
let_go d s p fs = record {
  entries = λ n e. nothing_new _ _ (owes_let n e p s.core.queries.records) _ (finals_give n s.names d e fs);
  replies = λ n k. nothing_new _ _ (flies_let n k p s.core.queries.records ∙ sym (and-true (flies n k s.core.queries.records))) _ (finals_carry n s.names k fs);
}

passed_entries : (s : State) (now n : ℕ) (e : Pending) → (ts : List Timeout) → (fs : List Final) → owes n e (letting_go (is_due now) (timing_out ts s.core.queries).records) ≡ ((owes n e s.core.queries.records && not (is_due now e)) || list_any (gives 0 n e) (write s.names (handed_timeouts s.core.faces ts ++ map text_final fs)))
passed_entries s now n e ts fs =
    nothing_new _ _
    (owes_let n e (is_due now) (timing_out ts s.core.queries).records ∙ ap (λ b. b && not (is_due now e)) (owes_timing n e ts s.core.queries))
    _
    (ap (list_any (gives 0 n e)) (map-append (written s.names) (handed_timeouts s.core.faces ts) (map text_final fs))
    ∙ list_any-append (gives 0 n e) (write s.names (handed_timeouts s.core.faces ts)) _
    ∙ (λ j. timeouts_give n s.names 0 e s.core.faces ts j || finals_give n s.names 0 e fs j))

passed_replies : (s : State) (now n k : ℕ) → (fs : List Final) → flies n k (letting_go (is_due now) (timing_out (timeouts now s.core.queries) s.core.queries).records) ≡ ((flies n k s.core.queries.records && true) || list_any (hands_reply n k) (write s.names (handed_timeouts s.core.faces (timeouts now s.core.queries) ++ map text_final fs)))
passed_replies s now n k fs =
    let q = s.core.queries in
    let ts = timeouts now q in
    flies_let n k (is_due now) (timing_out ts q).records
    ∙ flies_timing n k ts q (timeouts_fit now q)
    ∙ (λ j. sym (and-true (flies n k q.records)) j || told j)
  where
    told : list_any (says n k) (timeouts now s.core.queries) ≡ list_any (hands_reply n k) (write s.names (handed_timeouts s.core.faces (timeouts now s.core.queries) ++ map text_final fs))
    told = sym
        (ap (list_any (hands_reply n k)) (map-append (written s.names) (handed_timeouts s.core.faces (timeouts now s.core.queries)) (map text_final fs))
        ∙ list_any-append (hands_reply n k) (write s.names (handed_timeouts s.core.faces (timeouts now s.core.queries))) _
        ∙ (λ j. timeouts_carry n s.names k s.core.faces (timeouts now s.core.queries) j || finals_carry n s.names k fs j)
        ∙ or-false _)

replied_entries : (s : State) (n : ℕ) (e : Pending) (text : List ℕ) (r : Response) (o : Option ReplyTo) → owes n e (after_replied o s.core.queries).records ≡ ((owes n e s.core.queries.records && true) || list_any (gives 0 n e) (write s.names (replied text r o)))
replied_entries s n e text r None = idle (owes n e s.core.queries.records)
replied_entries s n e text r (Some to) = nothing_new _ _ (owes_after_put n e to.number s.core.queries (is_some to.reply) ∙ sym (and-true (owes n e s.core.queries.records))) _ (replied_give n s.names 0 e text r (Some to))

-- a reply that has a number is in flight under it, and hands_reply it
module _ (s : State) (n k : ℕ) (text : List ℕ) (r : Response) (to : ReplyTo) (there : list_any (has_number to.number) s.core.queries.records ≡ true) where
  reply_by : (o : Option ℕ) → (is_some o ≡ true → o ≡ Some s.core.queries.replies)
      → flies n k (cond (is_some o) (after_put to.number s.core.queries) s.core.queries).records ≡ ((flies n k s.core.queries.records && true) || list_any (hands_reply n k) (write s.names (cons_option (option_map (handed_reply text r to) o) [])))
  reply_by None fresh = idle (flies n k s.core.queries.records)
  reply_by (Some x) fresh =
      flies_put n k s.core.queries.replies to.number s.core.queries.records there
      ∙ (λ j. sym (and-true (flies n k s.core.queries.records)) j || ((to.number == n) && option_map_or (is_reply k) (sym (fresh refl) j) false))
      ∙ ap (λ b. (flies n k s.core.queries.records && true) || b) (sym (or-false _))

given_reply : (s : QueryState) (f : Final) (b : Bool) → is_closed s.closed f.asker.0 ≡ b → is_some (cond b None (Some s.replies)) ≡ true → ◌≡◌ {A = Option ℕ} (cond b None (Some s.replies)) (Some s.replies)
given_reply s f true e h = absurd (false≢true h)
given_reply s f false e h = refl

replied_replies : (s : State) (face : FaceId) (rid n k : ℕ) (text : List ℕ) (r : Response) (o : Option Final) → owner face.0 rid s.core.queries.records ≡ o
    → flies n k (after_replied (option_map (reply_to s.core.queries) o) s.core.queries).records ≡ ((flies n k s.core.queries.records && true) || list_any (hands_reply n k) (write s.names (replied text r (option_map (reply_to s.core.queries) o))))
replied_replies s face rid n k text r None e = idle (flies n k s.core.queries.records)
replied_replies s face rid n k text r (Some f) e =
    let to = reply_to s.core.queries f in
    reply_by s n k text r to (owner_there face.0 rid s.core.queries.records f e) to.reply (given_reply s.core.queries f (is_closed s.core.queries.closed f.asker.0) refl)

-- ---- a request through the gates
-- what requests that did not leave take out again
owes_finish : (n : ℕ) (e : Pending) (c : Core) (places : List Place) → owes n e (finish c places).core.queries.records ≡ (owes n e c.queries.records && not (is_unsent places e))
owes_finish n e c [] = sym (and-true (owes n e c.queries.records))
owes_finish n e c (p ∷ places) = owes_let n e (is_unsent (p ∷ places)) c.queries.records

flies_finish : (n k : ℕ) (c : Core) (places : List Place) → flies n k (finish c places).core.queries.records ≡ flies n k c.queries.records
flies_finish n k c [] = refl
flies_finish n k c (p ∷ places) = flies_let n k (is_unsent (p ∷ places)) c.queries.records

places_any : (test : ℕ × ℕ → Bool) (q : QueryState) (os : List QueryTargetQabl) → list_any test (map (given_place q) (map target_of os)) ≡ list_any (λ (o : QueryTargetQabl). test (given_place q o.face)) os
places_any test q [] = refl
places_any test q (o ∷ os) = ap (λ b. test (given_place q o.face) || b) (places_any test q os)

module _ (s : State) (face : FaceId) (text : List ℕ) (r : Request) (d : ℕ) (c : Core) (standing : any_over s.core.queries.records ≡ false) where
  abbrev q : QueryState
  q = s.core.queries

  -- what is handed, and what is put in
  abbrev sent_out : List QueryTargetQabl → List Handed
  sent_out os = map (through text s.gates) (write s.names (handed_requests q face text r os))

  abbrev new_records : List QueryTargetQabl → List Record
  new_records os = asked_records q.requests face r.id r.qos (map (given_place q) (map target_of os)) d

  module _ (n : ℕ) (e : Pending) (o : QueryTargetQabl) (os : List QueryTargetQabl) (away : AllByRecursion (λ (x : QueryTargetQabl). is_pending x.face.0 (given_id q x.face) q.records ≡ false) (o ∷ os)) (are : c.queries.records ≡ q.records ++ new_records (o ∷ os)) where
    abbrev gone : Bool
    gone = is_unsent (unsent (sent_out (o ∷ os))) e

    abbrev them : List QueryTargetQabl
    them = o ∷ os

    abbrev wants : QueryTargetQabl → Bool
    wants x = asked e d (given_place q x.face)

    abbrev stay : Bool
    stay = list_any (λ (x : QueryTargetQabl). goes s.names s.gates text q r x && wants x) them

    old_stay : (owes n e q.records && not gone) ≡ owes n e q.records
    old_stay =
        sym (owes_let n e (is_unsent (unsent (sent_out them))) q.records)
        ∙ ap (owes n e) (none_let_go (unsent (sent_out them)) q.records standing (unsent_absent s.names s.gates text q r q.records them away))

    new_stay : (owes n e (new_records them) && not gone) ≡ ((q.requests == n) && stay)
    new_stay =
        ap (λ b. b && not gone) (owes_asked e d n q.requests face r.id r.qos (map (given_place q) (map target_of them)) ∙ ap (λ b. (q.requests == n) && b) (places_any (asked e d) q them))
        ∙ and_assoc (q.requests == n) (list_any wants them) (not gone)
        ∙ ap (λ b. (q.requests == n) && b) (still_asked s.names s.gates text q r e d them)

    entries_are_given : owes n e (finish c (unsent (sent_out them))).core.queries.records ≡ ((owes n e q.records && true) || list_any (gives d n e) (sent_out them ++ map sent_final (finish c (unsent (sent_out them))).finals))
    entries_are_given =
        owes_finish n e c (unsent (sent_out them))
        ∙ ap (λ l. owes n e l && not gone) are
        ∙ ap (λ b. b && not gone) (list_any-append (waits n e) q.records (new_records them))
        ∙ and-or_distrib_right (owes n e q.records) (owes n e (new_records them)) (not gone)
        ∙ (λ j. (old_stay ∙ sym (and-true (owes n e q.records))) j || (new_stay ∙ sym (all_given s.names s.gates text q r e d n them)) j)
        ∙ ap (λ b. (owes n e q.records && true) || b) (sym (any_ended (gives d n e) (λ f. and-false (f.number == n)) (sent_out them) (finish c (unsent (sent_out them))).finals))

  replies_stay : (n k : ℕ) (os : List QueryTargetQabl) → c.queries.records ≡ q.records ++ new_records os
      → flies n k (finish c (unsent (sent_out os))).core.queries.records ≡ ((flies n k q.records && true) || list_any (hands_reply n k) (sent_out os ++ map sent_final (finish c (unsent (sent_out os))).finals))
  replies_stay n k os are =
      flies_finish n k c (unsent (sent_out os))
      ∙ ap (flies n k) are
      ∙ list_any-append (λ (x : Record). (x.number == n) && has_reply k x) q.records (new_records os)
      ∙ (λ j. sym (and-true (flies n k q.records)) j || flies_asked n k q.requests face r.id r.qos (map (given_place q) (map target_of os)) d j)
      ∙ ap (λ b. (flies n k q.records && true) || b)
      (sym (any_ended (hands_reply n k) (λ f. and-false (f.number == n)) (sent_out os) (finish c (unsent (sent_out os))).finals
      ∙ any_through text s.gates (hands_reply n k) (λ h left. refl) (write s.names (handed_requests q face text r os))
      ∙ asked_carry n s.names k q face text r os))

  -- with no offer the asker is handed its final, and nothing waits
  none_given : (n : ℕ) (e : Pending) → c.queries.records ≡ q.records ++ [] → owes n e (finish c (unsent (sent_out []))).core.queries.records ≡ ((owes n e q.records && true) || list_any (gives d n e) (sent_out [] ++ map sent_final (finish c (unsent (sent_out []))).finals))
  none_given n e are =
      owes_finish n e c (unsent (sent_out []))
      ∙ (λ j. owes n e ((are ∙ append-nil q.records) j) && not (is_unsent (none_unsent (sent_out []) refl j) e))
      ∙ idle_too (owes n e q.records)
      ∙ ap (λ b. (owes n e q.records && true) || b) (sym (any_ended (gives d n e) (λ f. and-false (f.number == n)) (sent_out []) (finish c (unsent (sent_out []))).finals ∙ or-false _ ∙ nothing))
    where
      idle_too : (b : Bool) → (b && true) ≡ ((b && true) || false)
      idle_too true = refl
      idle_too false = refl

      nothing : gives d n e (through text s.gates (sent_final (record { number = q.requests; asker = face; id = r.id; qos = r.qos }))) ≡ false
      nothing = ap (gives d n e) (final_through text s.gates (record { number = q.requests; asker = face; id = r.id; qos = r.qos })) ∙ and-false (q.requests == n)

  pub asked_waits : (os : List QueryTargetQabl) → list_any (is_full q) (map target_of os) ≡ false → c.queries.records ≡ q.records ++ new_records os
      → Waits (λ e. false) (λ k. false) d q.records (finish c (unsent (sent_out os))).core.queries.records (sent_out os ++ map sent_final (finish c (unsent (sent_out os))).finals)
  asked_waits [] none are = record { entries = λ n e. none_given n e are; replies = λ n k. replies_stay n k [] are }
  asked_waits (o ∷ os) none are = record { entries = λ n e. entries_are_given n e o os (all_away q (o ∷ os) none) are; replies = λ n k. replies_stay n k (o ∷ os) are }

-- ---- any other call
granted_waits : (s : State) (t : TextCall) → is_asking t ≡ false → WaitsAfter s t
unfolding ended landed moment_of is_asking
granted_waits s (opening o) h = quiet 0 s.core.queries.records
granted_waits s (naming face id sd x) h = quiet 0 s.core.queries.records
granted_waits s (unnaming face id x) h = quiet 0 s.core.queries.records
granted_waits s (declaring face id sd i n) h = quiet 0 s.core.queries.records
granted_waits s (withdrawing face id) h = quiet 0 s.core.queries.records
granted_waits s (listing r t) h = quiet 0 s.core.queries.records
granted_waits s (finalizing face m set) h = quiet 0 s.core.queries.records
granted_waits s (announcing face sd i node) h = quiet 0 s.core.queries.records
granted_waits s (retracting face sd node) h = quiet 0 s.core.queries.records
granted_waits s (networking r net) h = quiet 0 s.core.queries.records
granted_waits s (tabling face ids) h = quiet 0 s.core.queries.records
granted_waits s (hearing face id keys sd) h = quiet 0 s.core.queries.records
granted_waits s (unhearing face id) h = quiet 0 s.core.queries.records
granted_waits s (closing face) h = let_go 0 s (at_face face.0) (closing_finals face.0 s.core.queries)
granted_waits s (ending face rid) h = let_go 0 s (is_entry face.0 rid) (finals_after (is_entry face.0 rid) s.core.queries.closed s.core.queries.records)
granted_waits s (reporting reply) h =
    let q = s.core.queries in
    let fs = finals_landed reply q.closed q.records in
    record {
      entries = λ n e. nothing_new _ _ (owes_landed n e reply q.records ∙ sym (and-true (owes n e q.records))) _ (finals_give n s.names 0 e fs);
      replies = λ n k. nothing_new _ _ (flies_landed n k reply q.records) _ (finals_carry n s.names k fs);
    }
granted_waits s (passing now) h = record {
  entries = λ n e. passed_entries s now n e (timeouts now s.core.queries) (passing_finals now s.core.queries);
  replies = λ n k. passed_replies s now n k (passing_finals now s.core.queries);
}
granted_waits s (replying face sd r) h = record {
  entries = λ n e. replied_entries s n e (full_text sd) r (next_reply face.0 r.rid s.core.queries);
  replies = λ n k. replied_replies s face r.rid n k (full_text sd) r (owner face.0 r.rid s.core.queries.records) refl;
}
granted_waits s (asking face sd r now) h = absurd (true≢false h)

-- ---- each call that is accepted
abbrev WaitsFor : State → TextCall → (Pending → Bool) → (ℕ → Bool) → ℕ → Type 0
WaitsFor s t ends reports moment = is_accepted (answer s t).outcome ≡ true → Waits ends reports moment s.core.queries.records (settle s t).core.queries.records (answer s t).handed

-- what is told gives no entry, and carries no reply
waits_beside : (s : State) (t : TextCall) → WaitsAfter s t → Waits (ended t) (landed t) (moment_of s.core t) s.core.queries.records (accepted s.core t).queries.records (fully s.names (told_by s t) (granted s.core t)).handed
waits_beside s t w =
    let hs = write s.names (granted s.core t).messages in
    record {
      entries = λ n e. w.entries n e ∙ ap (λ b. (owes n e s.core.queries.records && not (ended t e)) || b) (sym (any_beside s t hs (gives (moment_of s.core t) n e) (λ to d. refl)));
      replies = λ n k. w.replies n k ∙ ap (λ b. (flies n k s.core.queries.records && not (landed t k)) || b) (sym (any_beside s t hs (hands_reply n k) (λ to d. refl)));
    }

-- where nothing is a request, nothing is given
none_gives : (moment n : ℕ) (e : Pending) (hs : List Handed) → list_any asks hs ≡ false → list_any (gives moment n e) hs ≡ false
none_gives moment n e [] none = refl
none_gives moment n e (h ∷ hs) none =
    let p = or_parts (asks h) (list_any asks hs) none in
    λ j. (ap (λ b. is_of n h && (is_some h.leaves && b)) (by h.message p.0) ∙ ap (λ b. is_of n h && b) (and-false (is_some h.leaves)) ∙ and-false (is_of n h)) j || none_gives moment n e hs p.1 j
  where
    by : (m : Message) → is_request m ≡ false → asks_entry moment h.to.0 e m ≡ false
    by (message.Request r) is = absurd (true≢false is)
    by (message.Response r) is = refl
    by (message.ResponseFinal f) is = refl
    by (message.Interest i) is = refl
    by (message.InterestFinal i) is = refl
    by (message.Declare d) is = refl

quiet_waits : (s : State) (t : TextCall) → is_asking t ≡ false → WaitsFor s t (ended t) (landed t) (moment_of s.core t)
quiet_waits s t quiet =
    let P : Step → State → Type 0 = λ z w. (list_any asks z.handed ≡ false) × (is_accepted z.outcome ≡ true → Waits (ended t) (landed t) (moment_of s.core t) s.core.queries.records w.core.queries.records z.handed) in
    let both : P (answer s t) (settle s t) =
    by_told P s t quiet
    (λ text z w it.
    let none : list_any asks (let_out text z.handed w.gates).handed ≡ false = any_out text asks (λ h left. refl) z.handed w.gates ∙ it.0 in (
      none,
      λ a. record {
        entries = λ n e.
            (it.1 a).entries n e
            ∙ ap (λ b. (owes n e s.core.queries.records && not (ended t e)) || b) (none_gives (moment_of s.core t) n e z.handed it.0 ∙ sym (none_gives (moment_of s.core t) n e (let_out text z.handed w.gates).handed none));
        replies = λ n k.
            (it.1 a).replies n k
            ∙ ap (λ b. (flies n k s.core.queries.records && not (landed t k)) || b) (sym (any_out text (hands_reply n k) (λ h left. refl) z.handed w.gates));
      },
    ))
    (λ h. (any_beside s t (write s.names (granted s.core t).messages) asks (λ to d. refl) ∙ granted_asks s.names s.core t quiet, λ a. waits_beside s t (granted_waits s t quiet)))
    (λ r. (refl, λ a. absurd (false≢true a))) in
    both.1

followed : (s : State) (t : TextCall) → IsSound s → WaitsFor s t (ended t) (landed t) (moment_of s.core t)
unfolding ended landed moment_of is_asking
followed s (asking face sd r now) i =
    let t = asking face sd r now in
    by_plain (λ z w. is_accepted z.outcome ≡ true → Waits (λ e. false) (λ k. false) (deadline s.core r.timeout now) s.core.queries.records w.core.queries.records z.handed) s t refl
    (λ h a. asked_waits s face (full_text sd) r (deadline s.core r.timeout now) (accepted s.core t) i.standing (select s.core face sd r) (no_full s face sd r now h) refl)
    (λ x a. absurd (false≢true a))
followed s t i = quiet_waits s t refl

pub call_waits : (s : State) (c : Call) → IsSound s → is_accepted (step s c).outcome ≡ true → Waits (ends_entry c) (lands c) (until s c) s.core.queries.records (after s c).core.queries.records (step s c).handed
unfolding ended landed moment_of
call_waits s (call.Open o) i = followed s (opening o) i
call_waits s (call.Close face) i = followed s (closing face) i
call_waits s (call.DeclareKeyExpr face id wire) i = followed s (read s (call.DeclareKeyExpr face id wire)) i
call_waits s (call.UndeclareKeyExpr face id) i = followed s (read s (call.UndeclareKeyExpr face id)) i
call_waits s (call.DeclareQueryable face id wire info node) i = declare_read (λ t. WaitsFor s t (λ e. false) (λ k. false) 0) s face id wire info node (followed s (announcing face (said_by face wire s) info node) i) (followed s (declaring face id (said_by face wire s) info node) i)
call_waits s (call.UndeclareQueryable face id wire node) i = withdraw_read (λ t. WaitsFor s t (λ e. false) (λ k. false) 0) s face id wire node (followed s (retracting face (said_or_none face wire s) node) i) (followed s (withdrawing face id) i)
call_waits s (call.Request face r now) i = followed s (read s (call.Request face r now)) i
call_waits s (call.Response face r) i = followed s (read s (call.Response face r)) i
call_waits s (call.ResponseFinal face rid) i = followed s (ending face rid) i
call_waits s (call.Sent reply) i = followed s (reporting reply) i
call_waits s (call.Poll now) i = followed s (passing now) i
call_waits s (call.SetGateways r table) i = followed s (listing r table) i
call_waits s (call.Interest face id keys aggregate wire) i = followed s (hearing face id (record { keys = keys; aggregate = aggregate }) (said_if face wire s)) i
call_waits s (call.InterestFinal face id) i = followed s (unhearing face id) i
call_waits s (call.FinalizeInterest face mark set) i = followed s (finalizing face mark set) i
call_waits s (call.SetNetwork r net) i = followed s (networking r net) i
call_waits s (call.SetNodeIds face ids) i = followed s (tabling face ids) i
