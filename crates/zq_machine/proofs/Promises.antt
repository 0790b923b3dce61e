-- What each call of a run promises of requests, replies and refusals.
use Rattle.std.proofs.Common.{◌≡◌, ℕ, ◌+◌, ◌<◌, ◌^◌, Bool, true, false, cond, not, List, [], ◌∷◌, ◌++◌, map, length, Option, Some, None, refl, ap, ◌∙◌, arith, true≢false}
use Rattle.std.specs.List.{list_any}
use Rattle.std.specs.Prelude.{◌||◌, ◌==◌, unwrap_or}
use Rattle.std.specs.Option.{is_some}
use Rattle.std.proofs.lemmas.Bool.{false≢true, or_parts}
use Rattle.std.proofs.lemmas.List.{map-append}
use Rattle.zq_key.specs.Key.{is_key, is_chunk}
use Rattle.zq_message.specs.declared.message.FaceId.{FaceId}
use Rattle.zq_message.specs.declared.message.Request.{Request}
use Rattle.zq_message.specs.declared.message.Response.{Response}
use Rattle.zq_strategy.specs.declared.offer.QueryTargetQabl.{QueryTargetQabl}
use Rattle.zq_query.specs.declared.records.Final.{Final}
use Rattle.zq_query.specs.declared.records.ReplyTo.{ReplyTo}
use Rattle.zq_query.specs.Closing.{closing_finals, finals_after, finals_landed}
use Rattle.zq_query.specs.Records.{QueryState, any_over, is_closed, is_entry, is_pending, next_reply, next_id}
use Rattle.zq_query.specs.Asking.{asked_records, given_id, given_place, is_full}
use Rattle.zq_query.specs.Polling.{timeouts}
use Rattle.zq_query.proofs.Ids.{next_id_is_new}
use Rattle.zq_tables.specs.Naming.{NamingState, best, face_naming}
use Rattle.zq_tables.specs.declared.resolved.Resolved.{Resolved}
use Rattle.zq_tables.specs.declared.resolved.Resolved.TheVariants as said
use Rattle.zq_tables.proofs.Reading.{best-reads}
use Rattle.zq_machine.specs.declared.call.Call.{Call}
use Rattle.zq_machine.specs.declared.call.Call.TheVariants as call
use Rattle.zq_machine.specs.Handing.{Handed}
use Rattle.zq_machine.specs.declared.call.Outcome.TheVariants as outcome
use Rattle.zq_machine.specs.declared.call.Refusal.{Refusal}
use Rattle.zq_machine.specs.declared.call.Step.{Step}
use Rattle.zq_machine.specs.declared.face.OpenFace.{OpenFace}
use Rattle.zq_machine.specs.State.{State, Core, at, is_open}
use Rattle.zq_machine.specs.Selecting.{select, select_for, full_text, target_of}
use Rattle.zq_machine.specs.TextCalls.{TextCall, opening, closing, naming, unnaming, declaring, withdrawing, asking, replying, ending, reporting, passing, listing, finalizing, announcing, retracting, networking, tabling, hearing, unhearing, asked_said, read, said_by_reply, said_if}
use Rattle.zq_machine.specs.Deciding.{replied_outcome, passing_finals, causes, deadline, refusal_of, accepted, granted, answered, is_accepted, targets, handed_request, handed_requests, handed_timeouts, replied}
use Rattle.zq_machine.specs.Machine.{answer, asked_text, step}
use Rattle.zq_machine.specs.Gates.{Gates, through}
use Rattle.zq_machine.specs.Messages.{Decided, text_final}
use Rattle.zq_machine.specs.Writing.{finish, sent_final, unsent, write, written}
use Rattle.zq_machine.specs.Headline.{HandsOn, HandsEach, HandsRequest, RequestPromise, HandsReply, ReplyPromise, RefusesBy, asks, none_leaves, replies_to}
use Rattle.zq_machine.proofs.Routes.{none_to_asker}
use Rattle.zq_machine.specs.Asked.{is_own}
use Rattle.zq_machine.proofs.Granted.{all_passed, any_beside, by_granted, by_plain, by_quiet, by_told, granted_is_accepted}
use Rattle.zq_machine.proofs.Asks.{granted_asks, is_asking}
use Rattle.zq_machine.proofs.Finals.{IsSound, is_there}
use Rattle.zq_machine.proofs.GoingOut.{any_ended, any_out, final_through, none_unsent}
use Rattle.zq_machine.proofs.Sending.{all_away, finals_of_unsent, handed_out}
use Rattle.zq_machine.proofs.Reading.{declare_read, withdraw_read}
use Rattle.zq_machine.proofs.Writing.{after_decided, answered_by, finals_written, fully, settled_by, told_after, with_told}

key_some : (t : List ℕ) → is_key t ≡ true → 0 < length t
unfolding is_key is_chunk
key_some [] h = absurd (false≢true h)
key_some (c ∷ t) h = omega arith

-- ---- requests
module _ (s : State) (text : List ℕ) (r : Request) (some : 0 < length text) where
  free : (o : QueryTargetQabl) (i : Option ℕ) → next_id s.core.queries o.face.0 ≡ i → not (is_some i) ≡ false → is_pending o.face.0 (unwrap_or i 0) s.core.queries.records ≡ false
  free o None e h = absurd (true≢false h)
  free o (Some id) e h = next_id_is_new s.core.queries o.face.0 id e

  next : (i : Option ℕ) → not (is_some i) ≡ false → i ≡ Some (unwrap_or i 0)
  next None h = absurd (true≢false h)
  next (Some id) h = refl

  hands : (o : QueryTargetQabl) → is_full s.core.queries o.face ≡ false → HandsOn s text r o (through text s.gates (written s.names (handed_request s.core.queries text r o)))
  hands o h = record {
    to = refl;
    number = refl;
    reply = refl;
    leaves = refl;
    copy = (
      record { id = given_id s.core.queries o.face; wire = best (face_naming o.face.0 s.names) text; target = r.target; timeout = r.timeout; node = o.node; qos = r.qos; payload = r.payload },
      refl,
      record {
        next = next (next_id s.core.queries o.face.0) h;
        free = free o (next_id s.core.queries o.face.0) refl h;
        key = best-reads (face_naming o.face.0 s.names) text some;
        payload = refl;
        target = refl;
        timeout = refl;
        qos = refl;
        node = refl;
      },
    );
  }

  hands_each : (os : List QueryTargetQabl) → list_any (is_full s.core.queries) (map target_of os) ≡ false → HandsEach s text r os (handed_out s.names s.gates text s.core.queries r os)
  hands_each [] h = tt
  hands_each (o ∷ os) h =
      let p = or_parts (is_full s.core.queries o.face) (list_any (is_full s.core.queries) (map target_of os)) h in
      (hands o p.0, hands_each os p.1)

-- what is selected is selected on a key
selected_key : (c : Core) (asker : FaceId) (s : Resolved) (t : Request) (o : Option OpenFace) (x : QueryTargetQabl) (xs : List QueryTargetQabl) → select_for c asker s t o ≡ x ∷ xs → 0 < length (full_text s)
selected_key c asker s t None x xs e = absurd (cc)
selected_key c asker said.Unscoped t (Some f) x xs e = absurd (cc)
selected_key c asker said.Empty t (Some f) x xs e = absurd (cc)
selected_key c asker (said.Full text) t (Some f) x xs e = by (is_key text) refl _ e
  where
    by : (b : Bool) → is_key text ≡ b → (ys : List QueryTargetQabl) → cond b ys [] ≡ x ∷ xs → 0 < length text
    by true k ys g = key_some text k
    by false k ys g = absurd (cc)

requests_handed : (s : State) (face : FaceId) (sd : Resolved) (r : Request) (d : ℕ) (c : Core) → any_over s.core.queries.records ≡ false → is_closed c.queries.closed face.0 ≡ false → (os : List QueryTargetQabl) → select s.core face sd r ≡ os
    → list_any (is_full s.core.queries) (map target_of os) ≡ false
    → c.queries.records ≡ s.core.queries.records ++ asked_records s.core.queries.requests face r.id r.qos (map (given_place s.core.queries) (map target_of os)) d
    → HandsRequest s face (full_text sd) r os
    (map (through (full_text sd) s.gates) (write s.names (handed_requests s.core.queries face (full_text sd) r os))
    ++ map sent_final (finish c (unsent (map (through (full_text sd) s.gates) (write s.names (handed_requests s.core.queries face (full_text sd) r os))))).finals)
requests_handed s face sd r d c standing opened [] e h are =
    let f : Final = record { number = s.core.queries.requests; asker = face; id = r.id; qos = r.qos } in
    let through_final : Handed = through (full_text sd) s.gates (sent_final f) in
    record {
      requests = [];
      each = tt;
      all =
          (λ j. (final_through (full_text sd) s.gates f j ∷ []) ++ map sent_final (finish c (none_unsent (through_final ∷ []) refl j)).finals);
    }
requests_handed s face sd r d c standing opened (o ∷ os) e h are =
    record {
      requests = handed_out s.names s.gates (full_text sd) s.core.queries r (o ∷ os);
      each = hands_each s (full_text sd) r (selected_key s.core face sd r (at face.0 s.core.faces) o os e) (o ∷ os) h;
      all =
          ap (λ fs. handed_out s.names s.gates (full_text sd) s.core.queries r (o ∷ os) ++ map sent_final fs)
          (finals_of_unsent s.names s.gates (full_text sd) s.core.queries r s.core.queries.records standing d face c.queries.closed opened o os c refl (all_away s.core.queries (o ∷ os) h) are)
          ∙ ap (λ l. handed_out s.names s.gates (full_text sd) s.core.queries r (o ∷ os) ++ l) (by (none_leaves (handed_out s.names s.gates (full_text sd) s.core.queries r (o ∷ os))));
    }
  where
    f : Final
    f = record { number = s.core.queries.requests; asker = face; id = r.id; qos = r.qos }

    by : (b : Bool) → map sent_final (cond b (f ∷ []) []) ≡ cond b (sent_final f ∷ []) []
    by true = refl
    by false = refl

pub no_full : (s : State) (face : FaceId) (sd : Resolved) (r : Request) (now : ℕ) → refusal_of s.core (asking face sd r now) ≡ None → list_any (is_full s.core.queries) (targets s.core face sd r) ≡ false
no_full s face sd r now h =
    let p = all_passed (causes s.core (asking face sd r now)) h in
    second (s.core.queries.requests + 1 == 2 ^ 64) (list_any (is_full s.core.queries) (targets s.core face sd r)) p.1.0
  where
    second : (a b : Bool) → (a || b) ≡ false → b ≡ false
    second true b e = absurd (true≢false e)
    second false b e = e

asked_promise : (s : State) (face : FaceId) (sd : Resolved) (r : Request) (now : ℕ) → IsSound s → refusal_of s.core (asking face sd r now) ≡ None
    → (outcome.Asked s.core.queries.requests ≡ outcome.Asked s.core.queries.requests)
    × HandsRequest s face (full_text sd) r (select s.core face sd r)
    (map (through (full_text sd) s.gates) (write s.names (granted s.core (asking face sd r now)).messages)
    ++ map sent_final (finish (accepted s.core (asking face sd r now)) (unsent (map (through (full_text sd) s.gates) (write s.names (granted s.core (asking face sd r now)).messages)))).finals)
    × (list_any (is_own face) (select s.core face sd r) ≡ false)
asked_promise s face sd r now i e =
    let opened = i.apart face.0 (is_there (is_open face.0 s.core) (all_passed (causes s.core (asking face sd r now)) e).0) in (
      refl,
      requests_handed s face sd r (deadline s.core r.timeout now) (accepted s.core (asking face sd r now)) i.standing opened (select s.core face sd r) refl (no_full s face sd r now e) refl,
      none_to_asker s.core face sd r,
    )

-- ---- messages that are none of a kind
no_finals_reply : (names : NamingState) (fs : List Final) → list_any replies_to (write names (map text_final fs)) ≡ false
no_finals_reply names [] = refl
no_finals_reply names (f ∷ fs) = no_finals_reply names fs

no_requests_reply : (names : NamingState) (q : QueryState) (text : List ℕ) (r : Request) (os : List QueryTargetQabl) → list_any replies_to (write names (map (handed_request q text r) os)) ≡ false
no_requests_reply names q text r [] = refl
no_requests_reply names q text r (o ∷ os) = no_requests_reply names q text r os

no_asking_replies : (names : NamingState) (q : QueryState) (face : FaceId) (text : List ℕ) (r : Request) (os : List QueryTargetQabl) → list_any replies_to (write names (handed_requests q face text r os)) ≡ false
no_asking_replies names q face text r [] = refl
no_asking_replies names q face text r (o ∷ os) = no_requests_reply names q text r (o ∷ os)

quiet_asks : (s : State) (t : TextCall) → is_asking t ≡ false → list_any asks (answer s t).handed ≡ false
quiet_asks s t h =
    by_told (λ z w. list_any asks z.handed ≡ false) s t h
    (λ text z w none. any_out text asks (λ x left. refl) z.handed w.gates ∙ none)
    (λ passed. any_beside s t (write s.names (granted s.core t).messages) asks (λ to d. refl) ∙ granted_asks s.names s.core t h)
    (λ r. refl)

pub request_promise : (s : State) (c : Call) → IsSound s → RequestPromise s c (step s c)
unfolding is_asking
request_promise s (call.Request face r now) i =
    by_plain (λ z _. RequestPromise s (call.Request face r now) z) s (read s (call.Request face r now)) refl
    (λ h a. asked_promise s face (asked_said face r s) r now i h)
    (λ x a. absurd (false≢true a))
request_promise s (call.Open o) i = quiet_asks s (opening o) refl
request_promise s (call.Close face) i = quiet_asks s (closing face) refl
request_promise s (call.DeclareKeyExpr face id wire) i = quiet_asks s (read s (call.DeclareKeyExpr face id wire)) refl
request_promise s (call.UndeclareKeyExpr face id) i = quiet_asks s (read s (call.UndeclareKeyExpr face id)) refl
request_promise s (call.DeclareQueryable face id wire info node) i = quiet_asks s (read s (call.DeclareQueryable face id wire info node)) (declare_read (λ t. is_asking t ≡ false) s face id wire info node refl refl)
request_promise s (call.UndeclareQueryable face id wire node) i = quiet_asks s (read s (call.UndeclareQueryable face id wire node)) (withdraw_read (λ t. is_asking t ≡ false) s face id wire node refl refl)
request_promise s (call.Response face r) i = quiet_asks s (read s (call.Response face r)) refl
request_promise s (call.ResponseFinal face rid) i = quiet_asks s (ending face rid) refl
request_promise s (call.Sent reply) i = quiet_asks s (reporting reply) refl
request_promise s (call.Poll now) i = quiet_asks s (passing now) refl
request_promise s (call.SetGateways r t) i = quiet_asks s (listing r t) refl
request_promise s (call.Interest face id keys aggregate wire) i = quiet_asks s (hearing face id (record { keys = keys; aggregate = aggregate }) (said_if face wire s)) refl
request_promise s (call.InterestFinal face id) i = quiet_asks s (unhearing face id) refl
request_promise s (call.FinalizeInterest face mark set) i = quiet_asks s (finalizing face mark set) refl
request_promise s (call.SetNetwork r net) i = quiet_asks s (networking r net) refl
request_promise s (call.SetNodeIds face ids) i = quiet_asks s (tabling face ids) refl

-- ---- replies
is_replying : TextCall → Bool
is_replying (replying face s r) = true
is_replying (passing now) = true
is_replying (asking face s r now) = false
is_replying (opening o) = false
is_replying (closing face) = false
is_replying (naming face id s x) = false
is_replying (unnaming face id x) = false
is_replying (declaring face id s i n) = false
is_replying (withdrawing face id) = false
is_replying (ending face rid) = false
is_replying (reporting reply) = false
is_replying (listing r t) = false
is_replying (finalizing face m set) = false
is_replying (announcing face sd i node) = false
is_replying (retracting face sd node) = false
is_replying (networking r net) = false
is_replying (tabling face ids) = false
is_replying (hearing face id keys sd) = false
is_replying (unhearing face id) = false

granted_replies : (names : NamingState) (c : Core) (t : TextCall) → is_replying t ≡ false → list_any replies_to (write names (granted c t).messages) ≡ false
unfolding is_replying
granted_replies names c (replying face s r) h = absurd (true≢false h)
granted_replies names c (passing now) h = absurd (true≢false h)
granted_replies names c (asking face s r now) h = no_asking_replies names c.queries face (full_text s) r (select c face s r)
granted_replies names c (opening o) h = refl
granted_replies names c (closing face) h = no_finals_reply names (closing_finals face.0 c.queries)
granted_replies names c (naming face id s x) h = refl
granted_replies names c (unnaming face id x) h = refl
granted_replies names c (declaring face id s i n) h = refl
granted_replies names c (withdrawing face id) h = refl
granted_replies names c (ending face rid) h = no_finals_reply names (finals_after (is_entry face.0 rid) c.queries.closed c.queries.records)
granted_replies names c (reporting reply) h = no_finals_reply names (finals_landed reply c.queries.closed c.queries.records)
granted_replies names c (listing r t) h = refl
granted_replies names c (finalizing face m set) h = refl
granted_replies names c (announcing face sd i node) h = refl
granted_replies names c (retracting face sd node) h = refl
granted_replies names c (networking r net) h = refl
granted_replies names c (tabling face ids) h = refl
granted_replies names c (hearing face id keys sd) h = refl
granted_replies names c (unhearing face id) h = refl

quiet_replies : (s : State) (t : TextCall) → is_replying t ≡ false → list_any replies_to (answer s t).handed ≡ false
quiet_replies s t h =
    by_granted (λ z w. list_any replies_to z.handed ≡ false) s t
    (λ text z w none. any_out text replies_to (λ x left. refl) z.handed w.gates ∙ none)
    (λ p places z w none. any_ended replies_to (λ f. refl) z.handed (finish w.core (p ∷ places)).finals ∙ none)
    (λ passed. any_beside s t (write s.names (granted s.core t).messages) replies_to (λ to d. refl) ∙ granted_replies s.names s.core t h)
    (λ r. refl)

-- a reply with its outcome, by where it goes
abbrev replied_step : NamingState → Gates → List ℕ → Response → Option ReplyTo → Step
replied_step names gates text r to = record { outcome = replied_outcome to; handed = map (through [] gates) (write names (replied text r to)) }

replied_promise : (s : State) (face : FaceId) (r : Response) (to : Option ReplyTo) → next_reply face.0 r.rid s.core.queries ≡ to
    → is_accepted (replied_outcome to) ≡ true
    → HandsReply s face r (replied_step s.names s.gates (full_text (said_by_reply face r s)) r to)
replied_promise s face r None e a = absurd (false≢true a)
replied_promise s face r (Some to) e a = record { goes = to; there = e; outcome = refl; handed = refl }

finals_through : (text : List ℕ) (gates : Gates) (fs : List Final) → map (through text gates) (map sent_final fs) ≡ map sent_final fs
finals_through text gates [] = refl
finals_through text gates (f ∷ fs) = λ j. final_through text gates f j ∷ finals_through text gates fs j

timed_promise : (s : State) (now : ℕ)
    → map (through [] s.gates) (write s.names (granted s.core (passing now)).messages) ≡ map (through [] s.gates) (write s.names (handed_timeouts s.core.faces (timeouts now s.core.queries))) ++ map sent_final (passing_finals now s.core.queries)
timed_promise s now =
    let ts = handed_timeouts s.core.faces (timeouts now s.core.queries) in
    let fs = passing_finals now s.core.queries in
    ap (map (through [] s.gates)) (map-append (written s.names) ts (map text_final fs) ∙ ap (λ l. write s.names ts ++ l) (finals_written s.names fs))
    ∙ map-append (through [] s.gates) (write s.names ts) (map sent_final fs)
    ∙ ap (λ l. map (through [] s.gates) (write s.names ts) ++ l) (finals_through [] s.gates fs)

pub reply_promise : (s : State) (c : Call) → ReplyPromise s c (step s c)
unfolding is_replying is_asking
reply_promise s (call.Response face r) =
    by_quiet (λ z _. is_accepted z.outcome ≡ true → HandsReply s face r z) s (read s (call.Response face r)) refl refl
    (λ h. replied_promise s face r (next_reply face.0 r.rid s.core.queries) refl)
    (λ x a. absurd (false≢true a))
reply_promise s (call.Poll now) =
    by_quiet (λ z _. is_accepted z.outcome ≡ true → z.handed ≡ map (through [] s.gates) (write s.names (handed_timeouts s.core.faces (timeouts now s.core.queries))) ++ map sent_final (passing_finals now s.core.queries)) s (passing now) refl refl
    (λ h a. timed_promise s now)
    (λ x a. absurd (false≢true a))
reply_promise s (call.Request face r now) = quiet_replies s (read s (call.Request face r now)) refl
reply_promise s (call.Open o) = quiet_replies s (opening o) refl
reply_promise s (call.Close face) = quiet_replies s (closing face) refl
reply_promise s (call.DeclareKeyExpr face id wire) = quiet_replies s (read s (call.DeclareKeyExpr face id wire)) refl
reply_promise s (call.UndeclareKeyExpr face id) = quiet_replies s (read s (call.UndeclareKeyExpr face id)) refl
reply_promise s (call.DeclareQueryable face id wire info node) = quiet_replies s (read s (call.DeclareQueryable face id wire info node)) (declare_read (λ t. is_replying t ≡ false) s face id wire info node refl refl)
reply_promise s (call.UndeclareQueryable face id wire node) = quiet_replies s (read s (call.UndeclareQueryable face id wire node)) (withdraw_read (λ t. is_replying t ≡ false) s face id wire node refl refl)
reply_promise s (call.ResponseFinal face rid) = quiet_replies s (ending face rid) refl
reply_promise s (call.Sent reply) = quiet_replies s (reporting reply) refl
reply_promise s (call.SetGateways r t) = quiet_replies s (listing r t) refl
reply_promise s (call.Interest face id keys aggregate wire) = quiet_replies s (hearing face id (record { keys = keys; aggregate = aggregate }) (said_if face wire s)) refl
reply_promise s (call.InterestFinal face id) = quiet_replies s (unhearing face id) refl
reply_promise s (call.FinalizeInterest face mark set) = quiet_replies s (finalizing face mark set) refl
reply_promise s (call.SetNetwork r net) = quiet_replies s (networking r net) refl
reply_promise s (call.SetNodeIds face ids) = quiet_replies s (tabling face ids) refl

-- ---- refusals
pub refusal_promise : (s : State) (c : Call) → RefusesBy (refusal_of s.core (read s c)) s c
refusal_promise s c = by (refusal_of s.core (read s c)) refl
  where
    -- what is answered and left by what is decided
    answered_so : Decided → Step × State
    answered_so d =
        let w = after_decided s (read s c) d in
        (answered_by (asked_text (read s c)) (fully s.names (told_after d w) d) (with_told w (told_after d w)), settled_by (asked_text (read s c)) (fully s.names (told_after d w) d) (with_told w (told_after d w)))

    by : (o : Option Refusal) → refusal_of s.core (read s c) ≡ o → RefusesBy o s c
    by (Some r) e = (
      ap (λ p. (answered_so (answered p (granted s.core (read s c)))).0) e,
      ap (λ p. (answered_so (answered p (granted s.core (read s c)))).1) e,
    )
    by None e = ap (λ p. is_accepted (answered p (granted s.core (read s c))).outcome) e ∙ granted_is_accepted s.core (read s c) e
