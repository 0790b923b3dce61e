-- Who asked what: the requests that a run accepted, and to whom its replies and finals go.
use Rattle.std.specs.Prelude.{◌≡◌, ℕ, ◌+◌, ◌==◌, Bool, true, false, ◌&&◌, List, [], ◌∷◌, ◌++◌, fold, Option, Some, None, if◌then◌else◌, unwrap_or}
use Rattle.std.specs.List.{Contains, filter_map, flat_map}
use Rattle.zq_message.specs.declared.message.FaceId.{FaceId}
use Rattle.zq_message.specs.declared.message.Message.{Message}
use Rattle.zq_message.specs.declared.message.Message.TheVariants as message
use Rattle.zq_message.specs.declared.message.Request.{Request}
use Rattle.zq_strategy.specs.declared.offer.QueryTargetQabl.{QueryTargetQabl}
use Rattle.zq_query.specs.declared.records.Final.{Final}
use Rattle.zq_machine.specs.declared.call.Call.{Call}
use Rattle.zq_machine.specs.declared.call.Call.TheVariants as call
use Rattle.zq_machine.specs.Handing.{Handed}
use Rattle.zq_machine.specs.declared.call.Outcome.{Outcome}
use Rattle.zq_machine.specs.declared.call.Outcome.TheVariants as outcome
use Rattle.zq_machine.specs.declared.call.Step.{Step}
use Rattle.zq_machine.specs.Deciding.{is_accepted}

-- what a face's request is accepted as: its number, its asker, and the asker's id and quality byte
abbrev pub asked_as : FaceId → Request → Outcome → List Final
asked_as face r (outcome.Asked number) = record { number = number; asker = face; id = r.id; qos = r.qos } ∷ []
asked_as face r (outcome.Opened f) = []
asked_as face r (outcome.Replied reply) = []
asked_as face r outcome.Done = []
asked_as face r (outcome.Refused refusal) = []

-- what a call asks, if it is a request that is accepted
abbrev pub asked_by : Call → Step → List Final
asked_by (call.Request face r now) t = asked_as face r t.outcome
asked_by c t = []

-- what calls ask that are answered by these steps
abbrev pub asked_in : List Call → List Step → List Final
asked_in [] ts = []
asked_in (c ∷ cs) [] = []
asked_in (c ∷ cs) (t ∷ ts) = asked_by c t ++ asked_in cs ts

-- the number of a request that was asked
abbrev pub asked_number : Final → ℕ
asked_number f = f.number

-- the numbers count up from n
abbrev pub AreCounted : ℕ → List ℕ → Type 0
AreCounted n [] = Unit {0}
AreCounted n (m ∷ ms) = (m ≡ n) × AreCounted (n + 1) ms

-- the number of the face that an outcome opens
abbrev pub opened_by : Outcome → List ℕ
opened_by (outcome.Opened f) = f.0 ∷ []
opened_by (outcome.Asked number) = []
opened_by (outcome.Replied reply) = []
opened_by outcome.Done = []
opened_by (outcome.Refused refusal) = []

-- the numbers of the faces that steps open
abbrev pub opened_in : List Step → List ℕ
opened_in ts = flat_map (λ (t : Step). opened_by t.outcome) ts

-- the number of a message that is a reply
abbrev pub reply_number : Handed → Option ℕ
reply_number h = h.reply

-- the numbers of the replies that a step hands
abbrev pub replies_of : Step → List ℕ
replies_of t = filter_map reply_number t.handed

-- the numbers of the replies that steps hand
abbrev pub replies_in : List Step → List ℕ
replies_in ts = flat_map replies_of ts

-- the id of a message that is a request
abbrev pub asked_id : Message → Option ℕ
asked_id (message.Request r) = Some r.id
asked_id (message.Response r) = None
asked_id (message.ResponseFinal f) = None
asked_id (message.Interest i) = None
asked_id (message.InterestFinal i) = None
asked_id (message.Declare d) = None

-- the id that was last given at the face, once this is handed too
abbrev pub last_with : ℕ → ℕ → Handed → ℕ
last_with face id h = if h.to.0 == face then unwrap_or (asked_id h.message) id else id

-- the id that was last given at the face, once a step is handed
abbrev pub last_after : ℕ → ℕ → Step → ℕ
last_after face id t = fold (last_with face) id t.handed

-- the id of the last request that steps hand to the face; the default where they hand none
abbrev pub last_asked : ℕ → ℕ → List Step → ℕ
last_asked face default ts = fold (last_after face) default ts

-- the face asked the request of that number, with the id and the quality byte
abbrev pub IsAsked : List Final → ℕ → FaceId → ℕ → ℕ → Type 0
IsAsked asked n face id qos = Contains asked (record { number = n; asker = face; id = id; qos = qos })

-- a reply or a final of request n is to the face that asked it, under its id, with its quality byte
abbrev pub IsToAsker : List Final → ℕ → FaceId → Message → Type 0
IsToAsker asked n to (message.Request r) = Unit {0}
IsToAsker asked n to (message.Response r) = IsAsked asked n to r.rid r.qos
IsToAsker asked n to (message.ResponseFinal f) = IsAsked asked n to f.rid f.qos
IsToAsker asked n to (message.Interest i) = Unit {0}
IsToAsker asked n to (message.InterestFinal i) = Unit {0}
IsToAsker asked n to (message.Declare d) = Unit {0}

-- the message is a declaration
abbrev pub is_declaration : Message → Bool
is_declaration (message.Request r) = false
is_declaration (message.Response r) = false
is_declaration (message.ResponseFinal f) = false
is_declaration (message.Interest i) = false
is_declaration (message.InterestFinal i) = false
is_declaration (message.Declare d) = true

-- what is handed is of a request, and goes to its asker if it is a reply or a final; of no request are declarations alone
abbrev pub GoesToAsker : List Final → Option ℕ → FaceId → Message → Type 0
GoesToAsker asked None to m = is_declaration m ≡ true
GoesToAsker asked (Some n) to m = IsToAsker asked n to m

-- a message as it is handed is of a request, and goes to its asker if it is a reply or a final; only a declaration is of no request
abbrev pub IsHandedToAsker : List Final → Handed → Type 0
IsHandedToAsker asked h = GoesToAsker asked h.number h.to h.message

-- the offer is one of the face itself
abbrev pub is_own : FaceId → QueryTargetQabl → Bool
is_own face o = o.face.0 == face.0

-- the call closes the face
abbrev pub closes : ℕ → Call → Step → Bool
closes face (call.Close f) t = is_accepted t.outcome && (face == f.0)
closes face c t = false
