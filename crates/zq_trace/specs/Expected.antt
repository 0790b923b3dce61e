-- Which requests, replies and finals a call hands, by the calls and answers before it.
use Rattle.std.specs.Prelude.{codes, ℕ, ◌+◌, not, ◌&&◌, List, [], ◌∷◌, ◌++◌, map, fold, length, Option, Some, None, if◌then◌else◌, unwrap_or}
use Rattle.std.specs.List.{filter, filter_map}
use Rattle.std.specs.BTreeSet.{insert_key}
use Rattle.std.specs.Option.{option_and_then, option_map, option_map_or}
use Rattle.zq_message.specs.declared.message.FaceId.{FaceId}
use Rattle.zq_message.specs.declared.message.Message.{Message}
use Rattle.zq_message.specs.declared.message.Message.TheVariants as message
use Rattle.zq_message.specs.declared.message.ReplyBody.TheVariants as body
use Rattle.zq_message.specs.declared.message.Request.{Request}
use Rattle.zq_message.specs.declared.message.Response.{Response}
use Rattle.zq_message.specs.declared.message.WireExpr.{WireExpr}
use Rattle.zq_strategy.specs.declared.offer.QueryTargetQabl.{QueryTargetQabl}
use Rattle.zq_query.specs.declared.records.Final.{Final}
use Rattle.zq_query.specs.Polling.{is_due}
use Rattle.zq_query.specs.Tables.{Due, due_cmp}
use Rattle.zq_tables.specs.Naming.{FaceNaming, no_names, plain, read_by, said_of}
use Rattle.zq_tables.specs.declared.resolved.Resolved.{Resolved}
use Rattle.zq_tables.specs.declared.resolved.Resolved.TheVariants as said
use Rattle.zq_machine.specs.declared.call.Call.{Call}
use Rattle.zq_machine.specs.declared.call.Call.TheVariants as call
use Rattle.zq_machine.specs.declared.call.Step.{Step}
use Rattle.zq_machine.specs.Handing.{Handed}
use Rattle.zq_machine.specs.Configs.{Settings}
use Rattle.zq_machine.specs.Gates.{reply_by}
use Rattle.zq_machine.specs.Selecting.{full_text}
use Rattle.zq_trace.specs.Faces.{Face, Trace, face_at, is_closed}
use Rattle.zq_trace.specs.Awaited.{Owed, asked_by, free_id, next_reply, owner, pending, request, requests, waits}
use Rattle.zq_trace.specs.Selected.{asked_key, select}

-- ---- what is handed, as it is read

-- a message that is handed, but for what leaves of it
pub record Shown : Type 0 where
  pub to : FaceId
  pub number : Option ℕ
  pub reply : Option ℕ
  pub message : Message

-- an expression in full, by what it says
abbrev pub in_full : WireExpr → Resolved → WireExpr
in_full w said.Unscoped = w
in_full w said.Empty = w
in_full w (said.Full text) = plain text

-- a request with its key in full, as its face reads it by these numbers
abbrev pub read_message : FaceNaming → Message → Message
read_message n (message.Request r) = message.Request (record r { wire = in_full r.wire (read_by n r.wire) })
read_message n m = m

-- a message as its face reads it, by the numbers that stand there before the call
abbrev pub shown : Trace → Handed → Shown
shown past h = record { to = h.to; number = h.number; reply = h.reply; message = read_message (option_map_or (λ (f : Face). f.numbers) (face_at past h.to.0) no_names) h.message }

-- ---- requests

-- the number of the next request
abbrev pub next_request : Settings → Trace → ℕ
next_request config past = config.start.requests + length (requests past)

-- a request to the face of an offer: under an id that is free there, on the key, with all else kept
abbrev pub request_to : Settings → Trace → Request → List ℕ → QueryTargetQabl → Shown
request_to config past r q o = record { to = o.face; number = Some (next_request config past); reply = None; message = message.Request (record r { id = unwrap_or (free_id config past o.face.0) 0; wire = plain q; node = o.node }) }

-- the requests that an accepted call hands: one to each face that is picked
abbrev pub requests_of : Settings → Trace → Call → List Shown
requests_of config past (call.Request face r now) = map (request_to config past r (unwrap_or (asked_key past face r) [])) (select config past face r)
requests_of config past c = []

-- ---- replies

-- a request's asker, where it is open
abbrev pub if_open : Trace → Final → Option Final
if_open past f = if is_closed past f.asker.0 then None else Some f

-- a reply to an asker, under the asker's id and with its request's quality byte
abbrev pub reply_to : Final → ℕ → Response → Shown
reply_to f k r = record { to = f.asker; number = Some f.number; reply = Some k; message = message.Response (record r { rid = f.id; qos = f.qos }) }

-- what an expression of a reply says; an error's empty one says nothing
abbrev pub reply_says : Trace → FaceId → Response → Resolved
reply_says past face r = option_map_or (λ (f : Face). said_of f.numbers (reply_by f.space r)) (face_at past face.0) said.Unscoped

-- the entries whose deadline has come, by deadline, number and face
abbrev pub late : Settings → Trace → ℕ → List Due
late config past now = fold (insert_key due_cmp) [] (map (λ (e : Owed). (e.1.deadline, e.0, e.1.face)) (filter (λ (e : Owed). is_due now e.1) (pending config past)))

-- the requests of late entries whose askers are open, each with the face that was late
abbrev pub timed_out : Settings → Trace → ℕ → List (Final × ℕ)
timed_out config past now = filter_map (λ (d : Due). option_map (λ f. (f, d.2)) (option_and_then (if_open past) (request past d.1))) (late config past now)

-- the error reply in the place of a face that was late
abbrev pub late_reply : Trace → ℕ → Response
late_reply past face = record { rid = 0; wire = plain []; qos = 0; payload = body.Err (codes "Timeout"); responder = option_map (λ (f : Face). f.zid) (face_at past face) }

-- error replies, numbered one after another
abbrev pub error_replies : Trace → ℕ → List (Final × ℕ) → List Shown
error_replies past k [] = []
error_replies past k (x ∷ xs) = reply_to x.0 k (late_reply past x.1) ∷ error_replies past (k + 1) xs

-- the replies that an accepted call hands: a face's to the asker of the request that it was asked, with its key in full; and errors for those that are late
abbrev pub replies_of : Settings → Trace → Call → List Shown
replies_of config past (call.Response face r) = option_map_or (λ f. reply_to f (next_reply config past) (record r { wire = plain (full_text (reply_says past face r)) }) ∷ []) (option_and_then (if_open past) (owner config past face.0 r.rid)) []
replies_of config past (call.Poll now) = error_replies past (next_reply config past) (timed_out config past now)
replies_of config past c = []

-- ---- finals

-- the final to an asker
abbrev pub final_to : Final → Shown
final_to f = record { to = f.asker; number = Some f.number; reply = None; message = message.ResponseFinal (record { rid = f.id; qos = f.qos }) }

-- the requests that waited before the call, or that it asks
abbrev pub open_to : Settings → Trace → Call → Step → List Final
open_to config past c t = filter (λ (f : Final). waits config past f.number) (requests past) ++ asked_by c t.outcome

-- the finals that an accepted call hands: of each of these that waits no more after it, and whose asker is open then
abbrev pub finals_of : Settings → Trace → Call → Step → List Shown
finals_of config past c t = map final_to (filter (λ (f : Final). not (waits config ((c, t) ∷ past) f.number) && not (is_closed ((c, t) ∷ past) f.asker.0)) (open_to config past c t))
