-- What a call is answered, over texts: the first cause that refuses it, or what it hands and changes.
use Rattle.std.specs.Prelude.{codes, ℕ, ◌+◌, ◌-◌, ◌^◌, ◌==◌, min, Bool, true, false, not, List, [], ◌∷◌, ◌++◌, map, Option, Some, None, if◌then◌else◌, unwrap_or, is_none}
use Rattle.std.specs.List.{cons_option, flat_map}
use Rattle.std.specs.Option.{option_and_then, option_map, option_map_or}
use Rattle.std.specs.Ordering.{nat_cmp}
use Rattle.std.specs.BTreeMap.{is_at, insert_entry}
use Rattle.std.specs.Map.{remove_entry}
use Rattle.zq_message.specs.declared.message.FaceId.{FaceId}
use Rattle.zq_message.specs.declared.message.QueryableInfoType.{QueryableInfoType}
use Rattle.zq_message.specs.declared.message.Zid.{Zid}
use Rattle.zq_message.specs.declared.message.ReplyBody.TheVariants as body
use Rattle.zq_message.specs.declared.message.Request.{Request}
use Rattle.zq_message.specs.declared.message.Response.{Response}
use Rattle.zq_key.specs.Key.{is_key}
use Rattle.zq_message.specs.RegionMap.{with_entry}
use Rattle.zq_strategy.specs.declared.types.FaceRecord.{FaceRecord}
use Rattle.zq_strategy.specs.declared.offer.QueryTargetQabl.{QueryTargetQabl}
use Rattle.zq_strategy.specs.declared.types.FinalMark.{FinalMark}
use Rattle.zq_strategy.specs.declared.types.FinalMark.TheVariants as mark
use Rattle.zq_strategy.specs.Kept.{registered, unregistered, without_face}
use Rattle.zq_strategy.specs.Marks.{finalized}
use Rattle.zq_strategy.specs.Routers.{announced, entry_at, networked, noded, retracted, source_at}
use Rattle.zq_strategy.specs.State.{HatState}
use Rattle.zq_interests.specs.Interests.{Interests, asks_another, closed_face, interest_at, with_interest, without_interest}
use Rattle.zq_told.specs.ToldSets.{ToldSets}
use Rattle.zq_strategy.specs.Nets.{is_zid}
use Rattle.zq_query.specs.declared.records.Final.{Final}
use Rattle.zq_query.specs.declared.records.ReplyTo.{ReplyTo}
use Rattle.zq_query.specs.declared.records.Timeout.{Timeout}
use Rattle.zq_query.specs.Records.{QueryState, is_pending, is_in_flight, is_entry, letting_go, landing, lacks_reply, next_reply, after_reply}
use Rattle.zq_query.specs.Closing.{closing_finals, after_close, finals_after, finals_landed}
use Rattle.zq_query.specs.Polling.{is_due, timing_out, timeouts, after_poll, lacks_replies}
use Rattle.zq_query.specs.Asking.{lacks_number, given_id, after_ask}
use Rattle.zq_tables.specs.declared.resolved.Resolved.{Resolved}
use Rattle.zq_tables.specs.Naming.{NamingState, opened_naming, closed_naming, with_rows, remaps, with_name, without_name, with_queryable, without_queryable, with_interest as holding_interest, without_interest as letting_interest, change_naming}
use Rattle.zq_machine.specs.declared.call.Opening.{Opening}
use Rattle.zq_machine.specs.declared.call.Outcome.{Outcome}
use Rattle.zq_machine.specs.declared.call.Outcome.TheVariants as outcome
use Rattle.zq_machine.specs.declared.call.Refusal.{Refusal}
use Rattle.zq_machine.specs.declared.call.Refusal.TheVariants as refusal
use Rattle.zq_machine.specs.Messages.{Decided, Telling, TextMessage, text_final, text_reply, text_request}
use Rattle.zq_machine.specs.Neighbours.{due_told, marked, near_after, near_lack, with_new}
use Rattle.zq_machine.specs.declared.face.OpenFace.{OpenFace}
use Rattle.zq_machine.specs.Gates.{Gates, gate_for, is_sound, with_gate}
use Rattle.zq_machine.specs.State.{Core, State, is_open, has_hat, is_full_region, hat_of, has_declared_in, clashes_in, joined, change_hat, change_hat_of, entry_rows}
use Rattle.zq_machine.specs.TextCalls.{TextCall, opening, closing, naming, unnaming, declaring, withdrawing, asking, replying, ending, reporting, passing, listing, finalizing, announcing, retracting, networking, tabling, hearing, unhearing}
use Rattle.zq_machine.specs.Selecting.{asked_by, router_by, select, target_of, zid_of, is_unscoped, says_key, says_key_or_nothing, full_text}

-- ---- words for what may refuse a call

-- a cause that may hold, and the refusal that it gives
abbrev pub Cause : Type 0
Cause = Bool × Refusal

-- the first cause that holds
abbrev pub first_of : List Cause → Option Refusal
first_of [] = None
first_of (c ∷ cs) = if c.0 then Some c.1 else first_of cs

-- the id stands for another key at the face
abbrev pub clashes : FaceId → ℕ → List ℕ → Core → Bool
clashes face id key c = clashes_in face.0 id key (hat_of face.0 c)

-- the face declared the id
abbrev pub has_declared : FaceId → ℕ → Core → Bool
has_declared face id c = has_declared_in face.0 id (hat_of face.0 c)

-- the next number of faces is the last one, which is never given
abbrev pub lacks_face_number : Core → Bool
lacks_face_number c = c.next_face + 1 == 2 ^ 32

-- the faces that the request is handed to
abbrev pub targets : Core → FaceId → Resolved → Request → List FaceId
targets c asker s r = map target_of (select c asker s r)

-- a mark of a key has a key
abbrev pub marks_key : FinalMark → Bool
marks_key mark.Initial = true
marks_key (mark.Key text) = is_key text

-- the face was never opened, or is closed
abbrev pub unknown_face : FaceId → Core → Cause
unknown_face face c = (not (is_open face.0 c), refusal.UnknownFace)

-- the number stands for no router, or for the gateway itself
abbrev pub lacks_router : FaceId → ℕ → Core → Bool
lacks_router face node c = option_map_or (is_zid c.config.zid) (router_by face node c) true

-- a router's entry on a key in a region
abbrev pub entry_by : ℕ → ℕ → List ℕ → HatState → Option QueryableInfoType
entry_by face node key h = option_and_then (λ (z : Zid). entry_at z.0 key h) (source_at face node h)

-- the entry on a key of the router that a node number of the face stands for
abbrev pub entry_of : FaceId → ℕ → List ℕ → Core → Option QueryableInfoType
entry_of face node key c = option_and_then (entry_by face.0 node key) (hat_of face.0 c)

-- ---- what is handed, over texts

-- a refused call hands nothing
abbrev pub refused : Refusal → Decided
refused r = record { outcome = outcome.Refused r; messages = []; told = [] }

-- the deadline of a request: its timeout or the configuration's from now on, at most the last moment
abbrev pub deadline : Core → Option ℕ → ℕ → ℕ
deadline c timeout now = min (now + unwrap_or timeout c.config.timeout) (2 ^ 64 - 1)

-- a request to the face of an offer
abbrev pub handed_request : QueryState → List ℕ → Request → QueryTargetQabl → TextMessage
handed_request q text r offer = text_request (record {
  to = offer.face;
  number = q.requests;
  id = given_id q offer.face;
  text = text;
  target = r.target;
  timeout = r.timeout;
  node = offer.node;
  qos = r.qos;
  payload = r.payload;
})

-- with no offer the final comes at once
abbrev pub handed_requests : QueryState → FaceId → List ℕ → Request → List QueryTargetQabl → List TextMessage
handed_requests q asker text r [] = text_final (record { number = q.requests; asker = asker; id = r.id; qos = r.qos }) ∷ []
handed_requests q asker text r (o ∷ os) = map (handed_request q text r) (o ∷ os)

-- a reply to its asker, in flight under a number
abbrev pub handed_reply : List ℕ → Response → ReplyTo → ℕ → TextMessage
handed_reply text r to reply = text_reply (record { to = to.asker; number = to.number; reply = reply; id = to.id; text = text; qos = to.qos; payload = r.payload; responder = r.responder })

-- a reply to a closed asker has no number, and is handed to no one
abbrev pub handed_replies : List ℕ → Response → ReplyTo → List TextMessage
handed_replies text r to = cons_option (option_map (handed_reply text r to) to.reply) []

-- the word of a reply that a deadline gives
abbrev pub timeout_word : List ℕ
timeout_word = codes "Timeout"

-- an error reply to the asker, in the place of a target that was too late, in flight under a number
abbrev pub timed_out : List (ℕ × OpenFace) → Timeout → ℕ → TextMessage
timed_out faces t reply = text_reply (record { to = t.asker; number = t.number; reply = reply; id = t.id; text = []; qos = t.qos; payload = body.Err timeout_word; responder = zid_of t.target.0 faces })

-- the error reply of a deadline, if it has a number; a closed asker is handed nothing
abbrev pub handed_timeout : List (ℕ × OpenFace) → Timeout → List TextMessage
handed_timeout faces t = cons_option (option_map (timed_out faces t) t.reply) []

-- the error replies of deadlines
abbrev pub handed_timeouts : List (ℕ × OpenFace) → List Timeout → List TextMessage
handed_timeouts faces ts = flat_map (handed_timeout faces) ts

-- the finals of a moment that has come: of the requests that it leaves with nothing, once their error replies are in flight
abbrev pub passing_finals : ℕ → QueryState → List Final
passing_finals now q = finals_after (is_due now) (timing_out (timeouts now q) q).closed (timing_out (timeouts now q) q).records

-- the outcome of a reply, by where it goes; a reply that goes nowhere is not pending
abbrev pub replied_outcome : Option ReplyTo → Outcome
replied_outcome None = outcome.Refused refusal.QueryNotFound
replied_outcome (Some to) = outcome.Replied to.reply

-- what an accepted reply hands, by where it goes
abbrev pub replied : List ℕ → Response → Option ReplyTo → List TextMessage
replied text r None = []
replied text r (Some to) = handed_replies text r to

-- the outcome of a call that nothing refuses
abbrev pub outcome_of : Core → TextCall → Outcome
outcome_of c (opening o) = outcome.Opened (record { 0 = c.next_face })
outcome_of c (asking face s r now) = outcome.Asked c.queries.requests
outcome_of c (replying face s r) = replied_outcome (next_reply face.0 r.rid c.queries)
outcome_of c t = outcome.Done

-- the messages that it hands: requests, then replies, then finals by number
abbrev pub messages_of : Core → TextCall → List TextMessage
messages_of c (closing face) = map text_final (closing_finals face.0 c.queries)
messages_of c (asking face s r now) = handed_requests c.queries face (full_text s) r (select c face s r)
messages_of c (replying face s r) = replied (full_text s) r (next_reply face.0 r.rid c.queries)
messages_of c (ending face rid) = map text_final (finals_after (is_entry face.0 rid) c.queries.closed c.queries.records)
messages_of c (reporting reply) = map text_final (finals_landed reply c.queries.closed c.queries.records)
messages_of c (passing now) = handed_timeouts c.faces (timeouts now c.queries) ++ map text_final (passing_finals now c.queries)
messages_of c t = []

-- ---- what an accepted call changes, but for what is kept of what faces were told

-- with other queries
abbrev pub with_queries : Core → QueryState → Core
with_queries c q = record c { queries = q }

-- an open face as the gateway keeps it
abbrev pub opened : Opening → OpenFace
opened o = record { region = o.region; zid = o.zid; mode = o.mode; remote_bound = o.remote_bound }

-- a new face as its region's hat keeps it
abbrev pub seat : ℕ → Opening → FaceRecord
seat n o = record { face = record { 0 = n }; zid = o.zid; mode = o.mode; remote_bound = o.remote_bound }

-- a face joins the open ones
abbrev pub with_open : Opening → Core → Core
with_open o c = record c { faces = insert_entry nat_cmp c.faces c.next_face (opened o); next_face = c.next_face + 1 }

-- a face joins the open ones and its region's
abbrev pub with_face : Opening → Core → Core
with_face o c = record (with_open o c) { hats = change_hat o.region (joined (seat c.next_face o)) c.hats }

-- a face leaves the open ones and its region's, its entries are released, and it asks nothing more
abbrev pub without_open : ℕ → Core → Core
without_open face c = record (change_hat_of face (without_face face) c) {
  faces = remove_entry (is_at (nat_cmp face)) c.faces;
  queries = after_close face c.queries;
  interests = closed_face face c.interests;
}

-- the queries after a reply, by where it goes
abbrev pub after_replied : Option ReplyTo → QueryState → QueryState
after_replied None q = q
after_replied (Some to) q = after_reply to q

-- the router that the face's node number stands for has this entry on the key
abbrev pub announced_by : ℕ → ℕ → List ℕ → QueryableInfoType → HatState → HatState
announced_by face node key info h = option_map_or (λ (z : Zid). announced z.0 key info h) (source_at face node h) h

-- the router that the face's node number stands for has no entry on the key
abbrev pub retracted_by : ℕ → ℕ → List ℕ → HatState → HatState
retracted_by face node key h = option_map_or (λ (z : Zid). retracted z.0 key h) (source_at face node h) h

-- what decides after a call that was accepted, but for that
abbrev pub changed : Core → TextCall → Core
changed c (opening o) = with_face o c
changed c (closing face) = without_open face.0 c
changed c (naming face id s standing) = c
changed c (unnaming face id standing) = c
changed c (declaring face id s info node) = change_hat_of face.0 (registered face.0 id (full_text s) node info) c
changed c (withdrawing face id) = change_hat_of face.0 (unregistered face.0 id) c
changed c (asking face s r now) = with_queries c (after_ask face r.id r.qos (targets c face s r) (deadline c r.timeout now) c.queries)
changed c (replying face s r) = with_queries c (after_replied (next_reply face.0 r.rid c.queries) c.queries)
changed c (ending face rid) = with_queries c (record c.queries { records = letting_go (is_entry face.0 rid) c.queries.records })
changed c (reporting reply) = with_queries c (record c.queries { records = landing reply c.queries.records })
changed c (passing now) = with_queries c (after_poll now c.queries)
changed c (listing r table) = record c { tables = with_entry c.tables r table }
changed c (finalizing face mark set) = change_hat_of face.0 (finalized face.0 mark set) c
changed c (announcing face s info node) = change_hat_of face.0 (announced_by face.0 node (full_text s) info) c
changed c (retracting face s node) = change_hat_of face.0 (retracted_by face.0 node (full_text s)) c
changed c (networking r net) = record c { hats = change_hat r (networked net) c.hats }
changed c (tabling face ids) = change_hat_of face.0 (noded face.0 ids) c
changed c (hearing face id m s) = record c { interests = with_interest face.0 id (asked_by m s) c.interests }
changed c (unhearing face id) = record c { interests = without_interest face.0 id c.interests }

-- ---- what neighbours are told of it

-- what is kept of faces where a call tells them: a face that it opens was told nothing
abbrev pub kept : Core → TextCall → ToldSets
kept c t = with_new c t c.ears

-- the interests that count: for an interest and for the end of one those after it
abbrev pub interests_for : Core → TextCall → Interests
interests_for c (hearing face id m s) = (changed c (hearing face id m s)).interests
interests_for c (unhearing face id) = (changed c (unhearing face id)).interests
interests_for c t = c.interests

-- some neighbour needs an id for it that there is not
abbrev pub lacks_told : Core → TextCall → Bool
lacks_told c t = near_lack c (changed c t) (interests_for c t) t (kept c t)

-- what is kept of faces after it
abbrev pub ears_of : Core → TextCall → ToldSets
ears_of c t = near_after c (changed c t) (interests_for c t) t (kept c t)

-- the deciding part after a call that was accepted
abbrev pub accepted : Core → TextCall → Core
accepted c t = record (changed c t) { ears = ears_of c t }

-- ---- what may refuse a call

-- what may refuse a call, in order
abbrev pub causes : Core → TextCall → List Cause
causes c (opening o) = (not (has_hat o.region c), refusal.UnknownRegion) ∷ (not (is_sound o), refusal.InvalidKeyExpr) ∷ (is_full_region o.region c, refusal.UpstreamInUse) ∷ (lacks_face_number c, refusal.NoFreeId) ∷ (lacks_told c (opening o), refusal.NoFreeId) ∷ []
causes c (closing face) = unknown_face face c ∷ []
causes c (naming face id s standing) =
    unknown_face face c ∷ (is_unscoped s, refusal.UnknownScope) ∷ (not (says_key s), refusal.InvalidKeyExpr)
    ∷ (remaps id (full_text s) standing, refusal.Remapped) ∷ []
causes c (unnaming face id standing) = unknown_face face c ∷ (is_none standing, refusal.UnknownId) ∷ []
causes c (declaring face id s info node) =
    unknown_face face c ∷ (is_unscoped s, refusal.UnknownScope) ∷ (not (says_key s), refusal.InvalidKeyExpr)
    ∷ (clashes face id (full_text s) c, refusal.IdInUse) ∷ (lacks_told c (declaring face id s info node), refusal.NoFreeId) ∷ []
causes c (withdrawing face id) = unknown_face face c ∷ (not (has_declared face id c), refusal.UnknownId) ∷ []
causes c (asking face s r now) = unknown_face face c ∷ (lacks_number (targets c face s r) c.queries, refusal.NoFreeId) ∷ []
causes c (replying face s r) =
    unknown_face face c ∷ (is_unscoped s, refusal.UnknownScope) ∷ (not (is_pending face.0 r.rid c.queries.records), refusal.QueryNotFound)
    ∷ (not (says_key_or_nothing s), refusal.InvalidKeyExpr) ∷ (lacks_reply face.0 r.rid c.queries, refusal.NoFreeId) ∷ []
causes c (ending face rid) = unknown_face face c ∷ (not (is_pending face.0 rid c.queries.records), refusal.QueryNotFound) ∷ []
causes c (reporting reply) = (not (is_in_flight reply c.queries.records), refusal.NotInFlight) ∷ []
causes c (passing now) = (lacks_replies (timeouts now c.queries) c.queries, refusal.NoFreeId) ∷ []
causes c (listing r table) = (not (has_hat r c), refusal.UnknownRegion) ∷ []
causes c (finalizing face mark set) = unknown_face face c ∷ (not (marks_key mark), refusal.InvalidKeyExpr) ∷ []
causes c (announcing face s info node) =
    unknown_face face c ∷ (is_unscoped s, refusal.UnknownScope) ∷ (not (says_key s), refusal.InvalidKeyExpr)
    ∷ (lacks_router face node c, refusal.UnknownRouter) ∷ (lacks_told c (announcing face s info node), refusal.NoFreeId) ∷ []
causes c (retracting face s node) =
    unknown_face face c ∷ (is_unscoped s, refusal.UnknownScope) ∷ (not (says_key s), refusal.InvalidKeyExpr)
    ∷ (lacks_router face node c, refusal.UnknownRouter) ∷ (is_none (entry_of face node (full_text s) c), refusal.UnknownId) ∷ []
causes c (networking r net) = (not (has_hat r c), refusal.UnknownRegion) ∷ []
causes c (tabling face ids) = unknown_face face c ∷ []
causes c (hearing face id m s) =
    unknown_face face c ∷ (option_map_or is_unscoped s false, refusal.UnknownScope) ∷ (not (option_map_or says_key s true), refusal.InvalidKeyExpr)
    ∷ (asks_another face.0 id (asked_by m s).key c.interests, refusal.IdInUse) ∷ (lacks_told c (hearing face id m s), refusal.NoFreeId) ∷ []
causes c (unhearing face id) = unknown_face face c ∷ (is_none (interest_at face.0 id c.interests), refusal.UnknownId) ∷ []

-- the refusal of a call, if some cause of it holds
abbrev pub refusal_of : Core → TextCall → Option Refusal
refusal_of c t = first_of (causes c t)

-- ---- what a call decides

-- what faces are told after it; an interest is answered by it, and then by the end of what there was to tell
abbrev pub told_of : Core → TextCall → List Telling
told_of c t = marked t (due_told c (accepted c t) (interests_for c t) t (kept c t))

-- what a call decides that nothing refuses
abbrev pub granted : Core → TextCall → Decided
granted c t = record { outcome = outcome_of c t; messages = messages_of c t; told = told_of c t }

-- the refusal, or what is granted
abbrev pub answered : Option Refusal → Decided → Decided
answered None d = d
answered (Some r) d = refused r

-- what a call decides
abbrev pub decide : Core → TextCall → Decided
decide c t = answered (refusal_of c t) (granted c t)

-- the outcome is no refusal
abbrev pub is_accepted : Outcome → Bool
is_accepted (outcome.Refused r) = false
is_accepted (outcome.Opened face) = true
is_accepted (outcome.Asked number) = true
is_accepted (outcome.Replied reply) = true
is_accepted outcome.Done = true

-- ---- what stands for keys after it

-- nothing stands for a key at a new face yet
abbrev pub with_numbers : State → NamingState
with_numbers s = opened_naming s.core.next_face s.names

-- a face joins the open ones, with nothing that stands for a key yet
abbrev pub seated : Opening → State → State
seated o s = record s { core = with_open o s.core; names = with_numbers s }

-- the keys of entries are those that the hats have after a call that was accepted
abbrev pub rerouted : State → TextCall → NamingState
rerouted s c = with_rows (entry_rows (accepted s.core c).hats) s.names

-- what stands for keys after a call that was accepted
abbrev pub renamed : State → TextCall → NamingState
renamed s (opening o) = with_numbers s
renamed s (closing face) = closed_naming face.0 s.names
renamed s (naming face id said standing) = change_naming face.0 (with_name id (full_text said)) s.names
renamed s (unnaming face id standing) = change_naming face.0 (without_name id) s.names
renamed s (declaring face id said info node) = change_naming face.0 (with_queryable id (full_text said)) s.names
renamed s (withdrawing face id) = change_naming face.0 (without_queryable id) s.names
renamed s (hearing face id m None) = s.names
renamed s (hearing face id m (Some said)) = change_naming face.0 (holding_interest id (full_text said)) s.names
renamed s (unhearing face id) = change_naming face.0 (letting_interest id) s.names
renamed s (announcing face said info node) = rerouted s (announcing face said info node)
renamed s (retracting face said node) = rerouted s (retracting face said node)
renamed s (networking r net) = rerouted s (networking r net)
renamed s c = s.names

-- ---- the gates of faces after it

-- the gates after a call that was accepted, but for what is kept of what did not leave
abbrev pub regated : State → TextCall → Gates
regated s (opening o) = with_gate s.core.next_face (gate_for o) s.gates
regated s (closing face) = remove_entry (is_at (nat_cmp face.0)) s.gates
regated s t = s.gates
