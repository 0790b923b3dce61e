-- How texts become expressions: messages as they are handed, and what faces are told, with the numbers that are declared for it.
use Rattle.std.specs.Prelude.{ℕ, Bool, true, false, ◌||◌, List, [], ◌∷◌, ◌++◌, map, Option, Some, None}
use Rattle.std.specs.Option.{option_map_or}
use Rattle.std.specs.List.{list_any}
use Rattle.zq_message.specs.declared.message.Declare.{Declare}
use Rattle.zq_message.specs.declared.message.DeclareBody.TheVariants as body
use Rattle.zq_message.specs.declared.message.FaceId.{FaceId}
use Rattle.zq_message.specs.declared.message.Message.{Message}
use Rattle.zq_message.specs.declared.message.Message.TheVariants as message
use Rattle.zq_message.specs.declared.message.Region.{Region}
use Rattle.zq_message.specs.declared.message.Region.TheVariants as region
use Rattle.zq_names.specs.Texts.{nonwild}
use Rattle.zq_tables.specs.FaceTexts.{declared_key}
use Rattle.zq_tables.specs.declared.decl.DeclKey.{DeclKey}
use Rattle.zq_interests.specs.Interests.{has_keyed}
use Rattle.zq_query.specs.declared.records.Final.{Final}
use Rattle.zq_query.specs.Closing.{finals_after}
use Rattle.zq_query.specs.Records.{Pending, is_entry, letting_go}
use Rattle.zq_tables.specs.Naming.{FaceKeys, NamingState, best, change_naming, face_keys, face_naming, plain, with_told_number}
use Rattle.zq_machine.specs.Handing.{Handed}
use Rattle.zq_machine.specs.declared.face.OpenFace.{OpenFace}
use Rattle.zq_machine.specs.Messages.{Telling, TellingBody, TextMessage, TextReply, TextRequest, all_told, key_ended, key_told, text_final, text_reply, text_request}
use Rattle.zq_machine.specs.State.{Core, at}

-- ---- messages of requests: each is written by itself, for none of them declares a number

-- a request is handed by the best number that its receiver knows
abbrev pub request_message : FaceKeys → TextRequest → Message
request_message n r = message.Request (record { id = r.id; wire = best n.numbers r.text; target = r.target; timeout = r.timeout; node = r.node; qos = r.qos; payload = r.payload })

-- a reply is handed whole
abbrev pub reply_message : TextReply → Message
reply_message r = message.Response (record { rid = r.id; wire = plain r.text; qos = r.qos; payload = r.payload; responder = r.responder })

-- a final
abbrev pub final_message : Final → Message
final_message f = message.ResponseFinal (record { rid = f.id; qos = f.qos })

-- a request as it is handed
abbrev pub sent_request : FaceKeys → TextRequest → Handed
sent_request n r = record { to = r.to; number = Some r.number; reply = None; message = request_message n r; leaves = Some (request_message n r) }

-- a reply as it is handed
abbrev pub sent_reply : TextReply → Handed
sent_reply r = record { to = r.to; number = Some r.number; reply = Some r.reply; message = reply_message r; leaves = Some (reply_message r) }

-- a final as it is handed
abbrev pub sent_final : Final → Handed
sent_final f = record { to = f.asker; number = Some f.number; reply = None; message = final_message f; leaves = Some (final_message f) }

-- a message of a request as its receiver is handed it, before its face's gate says what leaves of it
abbrev pub written : NamingState → TextMessage → Handed
written names (text_request r) = sent_request (face_keys r.to.0 names) r
written names (text_reply r) = sent_reply r
written names (text_final f) = sent_final f

-- the messages of a call, in order
abbrev pub write : NamingState → List TextMessage → List Handed
write names ms = map (written names) ms

-- ---- requests that do not leave

-- a target's face, and the id of a request there
abbrev pub Place : Type 0
Place = ℕ × ℕ

-- where a request is that does not leave
abbrev pub unsent_at : FaceId → Message → Option Message → List Place
unsent_at to m (Some left) = []
unsent_at to (message.Request r) None = (to.0, r.id) ∷ []
unsent_at to (message.Response r) None = []
unsent_at to (message.ResponseFinal f) None = []
unsent_at to (message.Interest i) None = []
unsent_at to (message.InterestFinal i) None = []
unsent_at to (message.Declare d) None = []

-- where the requests are that do not leave
abbrev pub unsent : List Handed → List Place
unsent [] = []
unsent (h ∷ hs) = unsent_at h.to h.message h.leaves ++ unsent hs

-- the entry is one of those
abbrev pub is_unsent : List Place → Pending → Bool
is_unsent places e = list_any (λ (p : Place). is_entry p.0 p.1 e) places

-- what is left once the requests that did not leave are released, and the finals that come of it
pub record Finished : Type 0 where
  pub core : Core
  pub finals : List Final

-- they are released
abbrev pub without_unsent : List Place → Core → Core
without_unsent places c = record c { queries = record c.queries { records = letting_go (is_unsent places) c.queries.records } }

-- the entries of requests that did not leave are released; where there are none, all is as it was
abbrev pub finish : Core → List Place → Finished
finish c [] = record { core = c; finals = [] }
finish c (p ∷ ps) = record { core = without_unsent (p ∷ ps) c; finals = finals_after (is_unsent (p ∷ ps)) c.queries.closed c.queries.records }

-- ---- what faces are told: a number that is declared stands from then on

-- what is handed, and what stands for keys afterwards
pub record Told : Type 0 where
  pub handed : List Handed
  pub names : NamingState

-- nothing is handed
abbrev pub nothing_told : NamingState → Told
nothing_told names = record { handed = []; names = names }

-- one thing is told, then the next, by what stands for keys after the first
abbrev pub and_then : Told → (NamingState → Told) → Told
and_then w next = record { handed = w.handed ++ (next w.names).handed; names = (next w.names).names }

-- a declaration is handed to a face
abbrev pub tell_declare : FaceId → Declare → NamingState → Told
tell_declare to d names = record {
  handed = record { to = to; number = None; reply = None; message = message.Declare d; leaves = Some (message.Declare d) } ∷ [];
  names = names;
}

-- a number is declared to a face, if one is new
abbrev pub tell_number : FaceId → List ℕ → Option ℕ → NamingState → Told
tell_number to text None names = nothing_told names
tell_number to text (Some id) names =
    tell_declare to (record { interest = None; node = 0; body = body.DeclareKeyExpr id (plain (nonwild text)) })
    (change_naming to.0 (with_told_number text (Some id)) names)

-- the face is in the region Local
abbrev pub is_local_region : Region → Bool
is_local_region region.Local = true
is_local_region region.North = false
is_local_region (region.South id mode) = false

-- a face of this region takes numbers for keys
abbrev pub numbers_region : Region → Bool
numbers_region region.North = true
numbers_region region.Local = false
numbers_region (region.South id mode) = false

-- the face is local
abbrev pub is_local_face : FaceId → Core → Bool
is_local_face to c = option_map_or (λ (o : OpenFace). is_local_region o.region) (at to.0 c.faces) false

-- the face may be declared a number for the part of a text: it is in North, or one of its interests wants numbers for it
abbrev pub may_number : FaceId → List ℕ → Core → Bool
may_number to part c = option_map_or (λ (o : OpenFace). numbers_region o.region) (at to.0 c.faces) false || has_keyed to.0 part c.interests

-- how a text is told to a face
abbrev pub told_key : Core → FaceId → List ℕ → NamingState → DeclKey
told_key c to text names = declared_key (face_naming to.0 names) (is_local_face to c) (may_number to (nonwild text) c) text

-- a face is told a key by a message of the key's expression; a new number is declared directly before it
abbrev pub tell_by : Core → FaceId → List ℕ → (DeclKey → Declare) → NamingState → Told
tell_by c to text make names = and_then (tell_number to text (told_key c to text names).declared names) (tell_declare to (make (told_key c to text names)))

-- one thing that a face is told
abbrev pub tell_body : Core → Telling → TellingBody → NamingState → Told
tell_body c t (key_told id text info) names = tell_by c t.to text (λ k. record { interest = t.interest; node = t.node; body = body.DeclareQueryable id k.wire info }) names
tell_body c t (key_ended id None) names = tell_declare t.to (record { interest = t.interest; node = t.node; body = body.UndeclareQueryable id None }) names
tell_body c t (key_ended id (Some text)) names = tell_by c t.to text (λ k. record { interest = t.interest; node = t.node; body = body.UndeclareQueryable id (Some k.wire) }) names
tell_body c t all_told names = tell_declare t.to (record { interest = t.interest; node = t.node; body = body.DeclareFinal }) names

-- all that faces are told, in order
abbrev pub tell : Core → List Telling → NamingState → Told
tell c [] names = nothing_told names
tell c (t ∷ ts) names = and_then (tell_body c t t.body names) (tell c ts)
