-- What a face has received: the messages that left to it, each with its text as the face reads it.
use Rattle.std.specs.Prelude.{ℕ, ◌==◌, List, [], ◌∷◌, ◌++◌, fold, Option, Some, None, if◌then◌else◌}
use Rattle.std.specs.Option.{option_map}
use Rattle.zq_message.specs.declared.message.DeclareBody.{DeclareBody}
use Rattle.zq_message.specs.declared.message.DeclareBody.TheVariants as body
use Rattle.zq_message.specs.declared.message.Message.{Message}
use Rattle.zq_message.specs.declared.message.Message.TheVariants as message
use Rattle.zq_message.specs.declared.message.WireExpr.{WireExpr}
use Rattle.zq_tables.specs.FaceIds.{with_id, without_id}
use Rattle.zq_tables.specs.Naming.{FaceNaming, no_names, plain, read_by, said_of}
use Rattle.zq_machine.specs.declared.call.Call.{Call}
use Rattle.zq_machine.specs.declared.call.Call.TheVariants as call
use Rattle.zq_machine.specs.declared.call.Outcome.{Outcome}
use Rattle.zq_machine.specs.declared.call.Step.{Step}
use Rattle.zq_machine.specs.Deciding.{is_accepted}
use Rattle.zq_machine.specs.Handing.{Handed}
use Rattle.zq_machine.specs.Selecting.{full_text}
use Rattle.zq_machine.specs.Standing.{opens}

-- ---- what a face knows: its own numbers, each with the text that it wrote, and those whose declarations left to it

-- one of its own
abbrev pub with_own : ℕ → List ℕ → FaceNaming → FaceNaming
with_own id text k = record k { theirs = with_id k.theirs id text }

-- one of its own is given up
abbrev pub without_own : ℕ → FaceNaming → FaceNaming
without_own id k = record k { theirs = without_id k.theirs id }

-- once a call is accepted: a face that is opened knows nothing; an expression without a number stands for its suffix alone
abbrev pub wrote : ℕ → Call → Outcome → FaceNaming → FaceNaming
wrote face (call.Open o) answer k = if opens face answer then no_names else k
wrote face (call.DeclareKeyExpr f id w) answer k = if f.0 == face then with_own id (full_text (said_of k w)) k else k
wrote face (call.UndeclareKeyExpr f id) answer k = if f.0 == face then without_own id k else k
wrote face c answer k = k

-- a refused call changes nothing
abbrev pub wrote_if : ℕ → Call → Outcome → FaceNaming → FaceNaming
wrote_if face c answer k = if is_accepted answer then wrote face c answer k else k

-- once a declaration left to it
abbrev pub knows_body : FaceNaming → DeclareBody → FaceNaming
knows_body k (body.DeclareKeyExpr id w) = record k { ours = with_id k.ours id (full_text (read_by k w)) }
knows_body k (body.UndeclareKeyExpr id) = record k { ours = without_id k.ours id }
knows_body k (body.DeclareQueryable id w info) = k
knows_body k (body.UndeclareQueryable id w) = k
knows_body k body.DeclareFinal = k

-- once a message left to it
abbrev pub knows : FaceNaming → Message → FaceNaming
knows k (message.Declare d) = knows_body k d.body
knows k (message.Interest i) = k
knows k (message.InterestFinal id) = k
knows k (message.Request r) = k
knows k (message.Response r) = k
knows k (message.ResponseFinal f) = k

-- ---- a message as the face reads it

-- an expression by its whole text
abbrev pub in_full : FaceNaming → WireExpr → WireExpr
in_full k w = plain (full_text (read_by k w))

-- a declaration that is none of a key; and none of one that is
abbrev pub body_in_full : FaceNaming → DeclareBody → Option DeclareBody
body_in_full k (body.DeclareKeyExpr id w) = None
body_in_full k (body.UndeclareKeyExpr id) = None
body_in_full k (body.DeclareQueryable id w info) = Some (body.DeclareQueryable id (in_full k w) info)
body_in_full k (body.UndeclareQueryable id w) = Some (body.UndeclareQueryable id (option_map (in_full k) w))
body_in_full k body.DeclareFinal = Some body.DeclareFinal

-- a message with its text whole; none of a key's declaration
abbrev pub message_in_full : FaceNaming → Message → Option Message
message_in_full k (message.Interest i) = Some (message.Interest (record i { wire = option_map (in_full k) i.wire }))
message_in_full k (message.InterestFinal id) = Some (message.InterestFinal id)
message_in_full k (message.Declare d) = option_map (λ b. message.Declare (record d { body = b })) (body_in_full k d.body)
message_in_full k (message.Request r) = Some (message.Request (record r { wire = in_full k r.wire }))
message_in_full k (message.Response r) = Some (message.Response (record r { wire = in_full k r.wire }))
message_in_full k (message.ResponseFinal f) = Some (message.ResponseFinal f)

-- ---- all that leaves to a face

-- a message, if there is one
abbrev pub listed : Option Message → List Message
listed None = []
listed (Some m) = m ∷ []

-- what it reads of what leaves
abbrev pub reads_left : FaceNaming → Option Message → List Message
reads_left k None = []
reads_left k (Some m) = listed (message_in_full k m)

-- what it knows then
abbrev pub knows_left : FaceNaming → Option Message → FaceNaming
knows_left k None = k
knows_left k (Some m) = knows k m

-- what it reads of what is handed
abbrev pub reads_handed : ℕ → FaceNaming → Handed → List Message
reads_handed face k h = if h.to.0 == face then reads_left k h.leaves else []

-- what it knows then
abbrev pub knows_handed : ℕ → FaceNaming → Handed → FaceNaming
knows_handed face k h = if h.to.0 == face then knows_left k h.leaves else k

-- what it reads of messages, one after another
abbrev pub reads_all : ℕ → FaceNaming → List Handed → List Message
reads_all face k [] = []
reads_all face k (h ∷ hs) = reads_handed face k h ++ reads_all face (knows_handed face k h) hs

-- what it knows once a call is answered
abbrev pub knows_step : ℕ → FaceNaming → Call → Step → FaceNaming
knows_step face k c t = fold (knows_handed face) (wrote_if face c t.outcome k) t.handed

-- what it reads of calls that are answered by these steps
abbrev pub received_from : ℕ → FaceNaming → List Call → List Step → List Message
received_from face k [] ts = []
received_from face k (c ∷ cs) [] = []
received_from face k (c ∷ cs) (t ∷ ts) = reads_all face (wrote_if face c t.outcome k) t.handed ++ received_from face (knows_step face k c t) cs ts

-- what a face has received of a whole run
abbrev pub received : ℕ → List Call → List Step → List Message
received face calls steps = received_from face no_names calls steps
