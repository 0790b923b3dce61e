-- What each call of a run promises: of requests, of replies, of finals and of refusals. It is said of the step that answers a call and of the lists before and after it.
use Rattle.std.specs.Prelude.{◌≡◌, ℕ, ◌+◌, ◌<◌, ◌≤◌, Bool, true, false, not, ◌&&◌, ◌||◌, List, [], ◌∷◌, ◌++◌, map, length, Option, Some, None, if◌then◌else◌, nat_lt, is_none}
use Rattle.std.specs.List.{AllByRecursion, filter, filter_map, list_all, list_any}
use Rattle.std.specs.List.Sorted.{IsStrictlySortedBy}
use Rattle.std.specs.Map.{keys_of}
use Rattle.std.specs.Option.{is_some, option_map}
use Rattle.std.specs.Ordering.{nat_cmp}
use Rattle.zq_message.specs.declared.message.FaceId.{FaceId}
use Rattle.zq_message.specs.declared.message.Message.{Message}
use Rattle.zq_message.specs.declared.message.Message.TheVariants as message
use Rattle.zq_message.specs.declared.message.Request.{Request}
use Rattle.zq_message.specs.declared.message.Response.{Response}
use Rattle.zq_interests.specs.Interests.{interests_of}
use Rattle.zq_strategy.specs.declared.offer.QueryTargetQabl.{QueryTargetQabl}
use Rattle.zq_query.specs.declared.records.ReplyTo.{ReplyTo}
use Rattle.zq_query.specs.Records.{QueryState, is_closed, is_pending, any_over, last_given, next_id, next_reply}
use Rattle.zq_query.specs.Balance.{owed_by}
use Rattle.zq_query.specs.Polling.{timeouts}
use Rattle.zq_tables.specs.declared.resolved.Resolved.TheVariants as said
use Rattle.zq_tables.specs.Naming.{read_by, face_naming}
use Rattle.zq_machine.specs.declared.call.Call.{Call}
use Rattle.zq_machine.specs.declared.call.Call.TheVariants as call
use Rattle.zq_machine.specs.Handing.{Handed}
use Rattle.zq_machine.specs.declared.call.Outcome.{Outcome}
use Rattle.zq_machine.specs.declared.call.Outcome.TheVariants as outcome
use Rattle.zq_machine.specs.declared.call.Refusal.{Refusal}
use Rattle.zq_machine.specs.declared.call.Step.{Step}
use Rattle.zq_machine.specs.Configs.{Settings}
use Rattle.zq_machine.specs.State.{State, at, first_hats, kind_of, opening_state}
use Rattle.zq_machine.specs.Selecting.{select, full_text}
use Rattle.zq_machine.specs.Gates.{gate_at, leave_all, leaves_by, through}
use Rattle.zq_machine.specs.TextCalls.{asked_said, read, said_by_reply}
use Rattle.zq_machine.specs.Asked.{AreCounted, IsHandedToAsker, asked_in, asked_number, closes, is_declaration, is_own, last_asked, opened_in, replies_in}
use Rattle.zq_machine.specs.Deciding.{handed_replies, handed_timeouts, passing_finals, refusal_of, is_accepted, told_of}
use Rattle.zq_machine.specs.Waiting.{Waits, IsSettled, ends_entry, lands, until, is_of}
use Rattle.zq_machine.specs.Agreeing.{Agrees}
use Rattle.zq_machine.specs.Standing.{asking_in, first_routed, listed_in, routed_at, routed_in, standing_at, standing_in}
use Rattle.zq_machine.specs.Hearing.{hear}
use Rattle.zq_machine.specs.Leaving.{gate_in}
use Rattle.zq_machine.specs.Behind.{IsBarred, SaysPromise}
use Rattle.zq_machine.specs.Within.{AllStay}
use Rattle.zq_machine.specs.Direct.{AreDirect}
use Rattle.zq_machine.specs.Children.{ChildPromise}
use Rattle.zq_machine.specs.Keeping.{AnswersInterests, ChangePromise, EndsInterests, KeepPromise}
use Rattle.zq_machine.specs.Machine.{asked_text, step, steps, after, follow, state_after, refused_step}
use Rattle.zq_machine.specs.Writing.{sent_final, write}

-- ---- requests

-- the message asks what the request asks: under the next id of the face, which is the first after the one that was last given there, in the circle, that is not pending; on the key as the face reads it, with all else kept
pub record IsHandedOn (s : State) (text : List ℕ) (r : Request) (o : QueryTargetQabl) (m : Request) : Type 0 where
  pub next : next_id s.core.queries o.face.0 ≡ Some m.id
  pub free : is_pending o.face.0 m.id s.core.queries.records ≡ false
  pub key : read_by (face_naming o.face.0 s.names) m.wire ≡ said.Full text
  pub payload : m.payload ≡ r.payload
  pub target : m.target ≡ r.target
  pub timeout : m.timeout ≡ r.timeout
  pub qos : m.qos ≡ r.qos
  pub node : m.node ≡ o.node

-- the request is handed to the face of an offer, under its number and none of a reply, and what leaves of it is what the face's gate lets out
pub record HandsOn (s : State) (text : List ℕ) (r : Request) (o : QueryTargetQabl) (h : Handed) : Type 0 where
  pub to : h.to ≡ o.face
  pub number : h.number ≡ Some s.core.queries.requests
  pub reply : h.reply ≡ None
  pub leaves : h.leaves ≡ leaves_by (gate_at o.face.0 s.gates) text h.message
  pub copy : (m : Request) × (h.message ≡ message.Request m) × IsHandedOn s text r o m

-- one message for each offer, in their order, and no other
abbrev pub HandsEach : State → List ℕ → Request → List QueryTargetQabl → List Handed → Type 0
HandsEach s text r [] [] = Unit {0}
HandsEach s text r [] (h ∷ hs) = ⊥
HandsEach s text r (o ∷ os) [] = ⊥
HandsEach s text r (o ∷ os) (h ∷ hs) = HandsOn s text r o h × HandsEach s text r os hs

-- none of the messages leaves
abbrev pub none_leaves : List Handed → Bool
none_leaves hs = list_all (λ (h : Handed). is_none h.leaves) hs

-- the final of a request that is asked next, to its asker
abbrev pub own_final : State → FaceId → Request → Handed
own_final s face r = sent_final (record { number = s.core.queries.requests; asker = face; id = r.id; qos = r.qos })

-- one request for each offer, in their order; and where none of them leaves, as where there is no offer, the asker's final behind them
pub record HandsRequest (s : State) (face : FaceId) (text : List ℕ) (r : Request) (os : List QueryTargetQabl) (handed : List Handed) : Type 0 where
  pub requests : List Handed
  pub each : HandsEach s text r os requests
  pub all : handed ≡ requests ++ (if none_leaves requests then own_final s face r ∷ [] else [])

-- the message is a request
abbrev pub is_request : Message → Bool
is_request (message.Request r) = true
is_request (message.Response r) = false
is_request (message.ResponseFinal f) = false
is_request (message.Interest i) = false
is_request (message.InterestFinal i) = false
is_request (message.Declare d) = false

-- what is handed is a request
abbrev pub asks : Handed → Bool
asks h = is_request h.message

-- an accepted request has the next number and is handed once to each face that the selection picks for what the face may ask for, which never picks the asker; no other call hands a request
abbrev pub RequestPromise : State → Call → Step → Type 0
RequestPromise s (call.Request face r now) t =
    is_accepted t.outcome ≡ true →
    (t.outcome ≡ outcome.Asked s.core.queries.requests)
    × HandsRequest s face (full_text (asked_said face r s)) r (select s.core face (asked_said face r s) r) t.handed
    × (list_any (is_own face) (select s.core face (asked_said face r s) r) ≡ false)
RequestPromise s c t = list_any asks t.handed ≡ false

-- a request on what its face may not ask for hands no request, and the asker's final comes at once
abbrev pub DenyPromise : State → Call → Step → Type 0
DenyPromise s (call.Request face r now) t = IsBarred s face r → (list_any asks t.handed ≡ false) × (is_accepted t.outcome ≡ true → t.handed ≡ own_final s face r ∷ [])
DenyPromise s c t = Unit {0}

-- ---- replies

-- the message is a reply
abbrev pub is_response : Message → Bool
is_response (message.Request r) = false
is_response (message.Response r) = true
is_response (message.ResponseFinal f) = false
is_response (message.Interest i) = false
is_response (message.InterestFinal i) = false
is_response (message.Declare d) = false

-- what is handed is a reply
abbrev pub replies_to : Handed → Bool
replies_to h = is_response h.message

-- a reply goes to the asker of the request that has the entry, under the asker's id, or to no one where the asker is closed
pub record HandsReply (s : State) (face : FaceId) (r : Response) (t : Step) : Type 0 where
  pub goes : ReplyTo
  pub there : next_reply face.0 r.rid s.core.queries ≡ Some goes
  pub outcome : t.outcome ≡ outcome.Replied goes.reply
  pub handed : t.handed ≡ map (through [] s.gates) (write s.names (handed_replies (full_text (said_by_reply face r s)) r goes))

-- an accepted reply is handed to its asker alone; a moment that has come hands an error reply for each entry that was too late and whose asker is open; no other call hands a reply
abbrev pub ReplyPromise : State → Call → Step → Type 0
ReplyPromise s (call.Response face r) t = is_accepted t.outcome ≡ true → HandsReply s face r t
ReplyPromise s (call.Poll now) t = is_accepted t.outcome ≡ true → t.handed ≡ map (through [] s.gates) (write s.names (handed_timeouts s.core.faces (timeouts now s.core.queries))) ++ map sent_final (passing_finals now s.core.queries)
ReplyPromise s c t = list_any replies_to t.handed ≡ false

-- ---- finals

-- the message is a final
abbrev pub is_final : Message → Bool
is_final (message.Request r) = false
is_final (message.Response r) = false
is_final (message.ResponseFinal f) = true
is_final (message.Interest i) = false
is_final (message.InterestFinal i) = false
is_final (message.Declare d) = false

-- what is handed is a final of the request of that number
abbrev pub ends : ℕ → Handed → Bool
ends n h = is_final h.message && is_of n h

-- how many finals of the request a step hands
abbrev pub finals_of : ℕ → Step → ℕ
finals_of n t = length (filter (ends n) t.handed)

-- how many finals of the request a run hands
abbrev pub finals_over : ℕ → List Step → ℕ
finals_over n [] = 0
finals_over n (t ∷ ts) = finals_of n t + finals_over n ts

-- the finals of the request that are still to come, of askers that `closed` does not have: one from before it is asked until its record goes
abbrev pub to_come : List ℕ → ℕ → QueryState → ℕ
to_come closed n q = owed_by closed n q.records + (if nat_lt n q.requests then 0 else 1)

-- a final comes in exactly the call that takes the record of an open asker out (both sides count by the faces that are closed after the call, so that one that closes its asker hands none); it leaves nothing of the request pending and no reply in flight; a request with none to come is handed nothing more; and each record that stands has an entry pending or a reply in flight
pub record FinalPromise (n : ℕ) (s : State) (c : Call) : Type 0 where
  pub balance : finals_of n (step s c) + to_come (after s c).core.queries.closed n (after s c).core.queries ≡ to_come (after s c).core.queries.closed n s.core.queries
  pub settled : 0 < finals_of n (step s c) → IsSettled n (after s c).core.queries
  pub silent : to_come s.core.queries.closed n s.core.queries ≡ 0 → list_any (is_of n) (step s c).handed ≡ false
  pub standing : any_over (after s c).core.queries.records ≡ false

-- ---- what faces are told

-- what the receivers of an accepted call's messages hear, one after another, each key by the numbers that were declared before, is what faces are told
abbrev pub TellPromise : State → Call → Type 0
TellPromise s c = is_accepted (step s c).outcome ≡ true → hear (step s c).handed (follow s (read s c)).names ≡ told_of s.core (read s c)

-- a number that a call declares to a face is new to it and stands directly before its first use, and a declaration uses no number that the face was not told
abbrev pub NumberPromise : State → Call → Type 0
NumberPromise s c = AreDirect (step s c).handed (follow s (read s c)).names

-- ---- what is answered and handed

-- an accepted opening is answered the next face; the answers of requests and replies are said with them; every other call is answered that it is done
abbrev pub AnswerPromise : State → Call → Outcome → Type 0
AnswerPromise s (call.Open o) answer = answer ≡ outcome.Opened (record { 0 = s.core.next_face })
AnswerPromise s (call.Request face r now) answer = Unit {0}
AnswerPromise s (call.Response face r) answer = Unit {0}
AnswerPromise s c answer = answer ≡ outcome.Done

-- the number of the request that a message ends, if it is a final
abbrev pub ended_by : Handed → Option ℕ
ended_by h = if is_final h.message then h.number else None

-- the numbers of the requests that messages end
abbrev pub ended_in : List Handed → List ℕ
ended_in hs = filter_map ended_by hs

-- what a call may hand: a request, requests or the asker's final; a reply, a reply; a moment that has come, replies and finals; the end of an entry or of a reply, finals; a closing, finals and declarations; an opening, what is declared or withdrawn, a network, an interest and the end of one, declarations; any other call, nothing
abbrev pub may_hand : Call → Message → Bool
may_hand (call.Request face r now) m = is_request m || is_final m
may_hand (call.Response face r) m = is_response m
may_hand (call.ResponseFinal face rid) m = is_final m
may_hand (call.Sent reply) m = is_final m
may_hand (call.Poll now) m = is_response m || is_final m
may_hand (call.Open o) m = is_declaration m
may_hand (call.Close face) m = is_final m || is_declaration m
may_hand (call.DeclareQueryable face id wire info node) m = is_declaration m
may_hand (call.UndeclareQueryable face id wire node) m = is_declaration m
may_hand (call.SetNetwork r net) m = is_declaration m
may_hand (call.Interest face id keys aggregate wire) m = is_declaration m
may_hand (call.InterestFinal face id) m = is_declaration m
may_hand c m = false

-- what is handed has a reply number exactly where it is a reply, and a request's number exactly where it is no declaration, and is of a kind that the call may hand
pub record IsFit (may : Message → Bool) (h : Handed) : Type 0 where
  pub number : is_some h.number ≡ not (is_declaration h.message)
  pub flying : is_some h.reply ≡ replies_to h
  pub kind : may h.message ≡ true

-- what is handed is a declaration
abbrev pub declares : Handed → Bool
declares h = is_declaration h.message

-- what is handed is of a request
abbrev pub is_of_request : Handed → Bool
is_of_request h = not (declares h)

-- ---- what leaves

-- what leaves of what a call hands is what the gates of its faces let out, one message after another, by what they keep of those before it; and this is what they keep once the call is made
abbrev pub LeavePromise : State → Call → Type 0
LeavePromise s c = leave_all (asked_text (read s c)) (step s c).handed (follow s (read s c)).gates ≡ record { handed = (step s c).handed; gates = (after s c).gates }

-- what leaves of each message is as its face's namespace and its exit's deny list have it: the message but for its expression, which the namespace is taken off, and no request on a key that is denied; what has a number is read by what the number stands for, which need not be under the namespace
abbrev pub WithinPromise : State → Call → Type 0
WithinPromise s c = AllStay (asked_text (read s c)) (step s c).handed (follow s (read s c)).gates

-- ---- refusals

-- the first cause that holds refuses a call, which then hands and changes nothing; with none the call is accepted
abbrev pub RefusesBy : Option Refusal → State → Call → Type 0
RefusesBy (Some r) s c = (step s c ≡ refused_step r) × (after s c ≡ s)
RefusesBy None s c = is_accepted (step s c).outcome ≡ true

-- ---- all of them

-- what one call promises, at any point of a run; its declarations stand behind its messages of requests, whose finals stand by number
pub record KeepsPromises (s : State) (c : Call) : Type 0 where
  pub says : SaysPromise s
  pub requests : RequestPromise s c (step s c)
  pub denies : DenyPromise s c (step s c)
  pub replies : ReplyPromise s c (step s c)
  pub waits : is_accepted (step s c).outcome ≡ true → Waits (ends_entry c) (lands c) (until s c) s.core.queries.records (after s c).core.queries.records (step s c).handed
  pub finals : (n : ℕ) → FinalPromise n s c
  pub tells : TellPromise s c
  pub direct : NumberPromise s c
  pub answer : is_accepted (step s c).outcome ≡ true → AnswerPromise s c (step s c).outcome
  pub fit : AllByRecursion (IsFit (may_hand c)) (step s c).handed
  pub leaves : LeavePromise s c
  pub within : WithinPromise s c
  pub ordered : IsStrictlySortedBy nat_cmp (ended_in (step s c).handed)
  pub behind : filter is_of_request (step s c).handed ++ filter declares (step s c).handed ≡ (step s c).handed
  pub closed : (face : ℕ) → is_closed (after s c).core.queries.closed face ≡ (closes face c (step s c) || is_closed s.core.queries.closed face)
  pub refusals : RefusesBy (refusal_of s.core (read s c)) s c

-- what a whole run promises: each of its calls keeps its promises; the configuration stays, and what stands of each face and of the routers of each region, what each face asks to hear, which lists of gateways there are, and which gates the faces have, is what the calls and their answers made of it; the hats stand by place, and each is of what it was made for; the open faces, the hats and what stands for keys agree; what a child of a root's tree knows of it is what stands of the root; what the receiver of an open face outside regions of routers keeps is what is due to it, and each accepted call hands it the difference, or answers its interest by all that is due, or at the interest's end tells at most of its own key; accepted requests, opened faces and replies are numbered one after another, and the next face by what comes after them; and the id that was last given at a face is that of the last request handed to it; each message that it hands, but for declarations, is of a request, and each reply and final goes to the request's asker, under the asker's id; it hands one final of a request at most, and nothing of the request afterwards
pub record RunPromise (config : Settings) (calls : List Call) : Type 0 where
  pub each : (before rest : List Call) (c : Call) → calls ≡ before ++ c ∷ rest → KeepsPromises (state_after (opening_state config) before) c
  pub settings : (state_after (opening_state config) calls).core.config ≡ config
  pub stands : (face : ℕ) → standing_at face (state_after (opening_state config) calls) ≡ standing_in config face calls (steps config calls) None
  pub routed : (place : ℕ) → routed_at place (state_after (opening_state config) calls) ≡ routed_in config place calls (steps config calls) (λ face. None) (first_routed config place)
  pub asked : (face : ℕ) → interests_of face (state_after (opening_state config) calls).core.interests ≡ asking_in config face calls (steps config calls) None []
  pub listed : (state_after (opening_state config) calls).core.tables ≡ listed_in calls (steps config calls) []
  pub gates : (face : ℕ) → gate_at face (state_after (opening_state config) calls).gates ≡ gate_in face calls (steps config calls) None
  pub kinds : (place : ℕ) → option_map kind_of (at place (state_after (opening_state config) calls).core.hats) ≡ option_map kind_of (at place (first_hats config))
  pub places : IsStrictlySortedBy nat_cmp (keys_of (state_after (opening_state config) calls).core.hats)
  pub agrees : Agrees (state_after (opening_state config) calls)
  pub children : ChildPromise config calls
  pub neighbours : KeepPromise config calls
  pub changes : ChangePromise config calls
  pub answers : AnswersInterests config calls
  pub ends : EndsInterests config calls
  pub numbers : AreCounted config.start.requests (map asked_number (asked_in calls (steps config calls)))
  pub faces : AreCounted config.start.faces (opened_in (steps config calls))
  pub next_face : (state_after (opening_state config) calls).core.next_face ≡ config.start.faces + length (opened_in (steps config calls))
  pub replies : AreCounted config.start.replies (replies_in (steps config calls))
  pub last_ids : (face : ℕ) → last_given (state_after (opening_state config) calls).core.queries face ≡ last_asked face config.start.request_ids (steps config calls)
  pub askers : (before rest : List Call) (c : Call) → calls ≡ before ++ c ∷ rest → AllByRecursion (IsHandedToAsker (asked_in (before ++ c ∷ []) (steps config (before ++ c ∷ [])))) (step (state_after (opening_state config) before) c).handed
  pub one_final : (n : ℕ) → finals_over n (steps config calls) ≤ 1
  pub nothing_after : (n : ℕ) (before rest : List Call) (c : Call) → calls ≡ before ++ c ∷ rest → finals_over n (steps config before) ≡ 1 → list_any (is_of n) (step (state_after (opening_state config) before) c).handed ≡ false
