-- How messages and steps are printed.
use Rattle.std.specs.Prelude.{ℕ, List, [], ◌∷◌, ◌++◌, Option, Some, None, codes, if◌then◌else◌}
use Rattle.std.specs.List.{flat_map}
use Rattle.std.specs.Fmt.{decimal}
use Rattle.zq_message.specs.declared.message.Request.{Request}
use Rattle.zq_message.specs.declared.message.Response.{Response}
use Rattle.zq_message.specs.declared.message.Interest.{Interest}
use Rattle.zq_message.specs.declared.message.DeclareBody.{DeclareBody}
use Rattle.zq_message.specs.declared.message.DeclareBody.TheVariants as body
use Rattle.zq_message.specs.declared.message.Message.{Message}
use Rattle.zq_message.specs.declared.message.Message.TheVariants as message
use Rattle.zq_machine.specs.declared.call.Outcome.{Outcome}
use Rattle.zq_machine.specs.declared.call.Outcome.TheVariants as outcome
use Rattle.zq_machine.specs.declared.call.Refusal.{Refusal}
use Rattle.zq_machine.specs.declared.call.Refusal.TheVariants as refusal
use Rattle.zq_machine.specs.Handing.{Handed}
use Rattle.zq_machine.specs.declared.call.Step.{Step}
use Rattle.zq_io.specs.Words.{field, payload_word, option_word}
use Rattle.zq_io.specs.Values.{zid_word, target_word, wire_word, flag_word}
use Rattle.zq_lines.specs.CallLines.{aggregate_words, info_words, body_words}
use Rattle.zq_lines.specs.Same.{same_message}

-- the words of a request
abbrev pub request_words : Request → List ℕ
request_words r =
    codes "request" ++ field (decimal r.id) ++ field (wire_word r.wire) ++ field (target_word r.target) ++ field (option_word decimal r.timeout)
    ++ field (decimal r.node) ++ field (decimal r.qos) ++ field (payload_word r.payload)

-- the words of a reply
abbrev pub response_words : Response → List ℕ
response_words r =
    codes "response" ++ field (decimal r.rid) ++ field (wire_word r.wire) ++ field (decimal r.qos) ++ body_words r.payload ++ field (option_word zid_word r.responder)

-- the words of an interest, which the gateway hands to no one
abbrev pub interest_words : Interest → List ℕ
interest_words i = codes "interest" ++ field (decimal i.id) ++ field (option_word wire_word i.wire) ++ field (flag_word (codes "k") (codes "n") i.keys) ++ aggregate_words i.aggregate

-- the words of a declaration, for an interest or for none, from a node
abbrev pub declare_words : Option ℕ → ℕ → DeclareBody → List ℕ
declare_words interest node (body.DeclareKeyExpr id wire) = codes "key" ++ field (decimal id) ++ field (wire_word wire)
declare_words interest node (body.UndeclareKeyExpr id) = codes "unkey" ++ field (decimal id)
declare_words interest node (body.DeclareQueryable id wire info) =
    codes "queryable" ++ field (decimal id) ++ field (wire_word wire) ++ info_words info ++ field (decimal node) ++ field (option_word decimal interest)
declare_words interest node (body.UndeclareQueryable id wire) = codes "unqueryable" ++ field (decimal id) ++ field (option_word wire_word wire) ++ field (decimal node)
declare_words interest node body.DeclareFinal = codes "declfinal" ++ field (option_word decimal interest)

-- the words of a message
abbrev pub message_words : Message → List ℕ
message_words (message.Request r) = request_words r
message_words (message.Response r) = response_words r
message_words (message.ResponseFinal f) = codes "final" ++ field (decimal f.rid) ++ field (decimal f.qos)
message_words (message.Declare d) = declare_words d.interest d.node d.body
message_words (message.Interest i) = interest_words i
message_words (message.InterestFinal id) = codes "uninterest" ++ field (decimal id)

-- the name of a refusal
abbrev pub refusal_name : Refusal → List ℕ
refusal_name refusal.UnknownFace = codes "UnknownFace"
refusal_name refusal.UnknownRegion = codes "UnknownRegion"
refusal_name refusal.UpstreamInUse = codes "UpstreamInUse"
refusal_name refusal.UnknownScope = codes "UnknownScope"
refusal_name refusal.InvalidKeyExpr = codes "InvalidKeyExpr"
refusal_name refusal.QueryNotFound = codes "QueryNotFound"
refusal_name refusal.NotInFlight = codes "NotInFlight"
refusal_name refusal.Remapped = codes "Remapped"
refusal_name refusal.UnknownId = codes "UnknownId"
refusal_name refusal.IdInUse = codes "IdInUse"
refusal_name refusal.UnknownRouter = codes "UnknownRouter"
refusal_name refusal.NoFreeId = codes "NoFreeId"

-- the words of an answer
abbrev pub outcome_words : Outcome → List ℕ
outcome_words (outcome.Opened face) = codes "opened " ++ decimal face.0
outcome_words (outcome.Asked number) = codes "asked " ++ decimal number
outcome_words (outcome.Replied reply) = codes "replied " ++ option_word decimal reply
outcome_words outcome.Done = codes "done"
outcome_words (outcome.Refused r) = codes "refused " ++ refusal_name r

-- a line for what leaves, where it isn't what was handed
abbrev pub leaving_words : Message → Option Message → List ℕ
leaving_words handed None = codes "< -" ++ 10 ∷ []
leaving_words handed (Some m) = if same_message handed m then [] else codes "< " ++ message_words m ++ 10 ∷ []

-- a line for what is handed: to whom, under which numbers, and the message
abbrev pub handed_words : Handed → List ℕ
handed_words h =
    codes "> " ++ decimal h.to.0 ++ field (option_word decimal h.number) ++ field (option_word decimal h.reply) ++ codes " " ++ message_words h.message ++ 10 ∷ []
    ++ leaving_words h.message h.leaves

-- a line for the answer, and then what is handed
abbrev pub step_words : Step → List ℕ
step_words t = codes "= " ++ outcome_words t.outcome ++ 10 ∷ [] ++ flat_map handed_words t.handed

-- one step after the other
abbrev pub steps_words : List Step → List ℕ
steps_words steps = flat_map step_words steps
