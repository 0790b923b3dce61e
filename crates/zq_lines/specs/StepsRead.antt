-- How a print of steps is read: by its lines, and each line by its words.
use Rattle.std.specs.Prelude.{ℕ, ◌==◌, List, [], ◌∷◌, Option, Some, None, if◌then◌else◌, codes}
use Rattle.std.specs.Str.{bytes_eq}
use Rattle.zq_message.specs.declared.message.DeclareBody.{DeclareBody}
use Rattle.zq_message.specs.declared.message.DeclareBody.TheVariants as body
use Rattle.zq_message.specs.declared.message.Message.{Message}
use Rattle.zq_message.specs.declared.message.Message.TheVariants as message
use Rattle.zq_machine.specs.declared.call.Outcome.{Outcome}
use Rattle.zq_machine.specs.declared.call.Outcome.TheVariants as outcome
use Rattle.zq_machine.specs.declared.call.Refusal.{Refusal}
use Rattle.zq_machine.specs.declared.call.Refusal.TheVariants as refusal
use Rattle.zq_machine.specs.Handing.{Handed}
use Rattle.zq_machine.specs.declared.call.Step.{Step}
use Rattle.zq_io.specs.Words.{◌>>=◌, number, read_at, at_end, bytes_of, option_of}
use Rattle.zq_io.specs.Values.{most_8, most_16, most_32, most_64, flag_of, face_of, zid_of, wire_of}
use Rattle.zq_lines.specs.Lines.{aggregate_of, info_at, manner_at, body_at, by_first}
use Rattle.zq_lines.specs.Split.{lines_of}

-- a space, and then the whole rest of the line
abbrev pub rest_at : {X : Type 0} → (List ℕ → Option X) → List ℕ → Option X
rest_at read [] = None
rest_at read (b ∷ bytes) = if b == 32 then read bytes else None

-- one word, and the end of the line
abbrev pub last_at : {X : Type 0} → (List ℕ → Option X) → List ℕ → Option X
last_at read bytes = read_at read bytes >>= (λ x. at_end x.1 x.0)

-- `request ID WIRE TARGET OPT-TIMEOUT NODE QOS PAYLOAD`
unfoldable pub request_of : List ℕ → Option Message
request_of bytes = do
  id ← read_at (number most_32) bytes
  wire ← read_at wire_of id.1
  manner ← manner_at wire.1
  payload ← last_at bytes_of manner.4
  Some (message.Request (record { id = id.0; wire = wire.0; target = manner.0; timeout = manner.1; node = manner.2; qos = manner.3; payload = payload }))

-- `response ID WIRE QOS ok PAYLOAD OPT-RESPONDER`, or `err`
unfoldable pub response_of : List ℕ → Option Message
response_of bytes = do
  rid ← read_at (number most_32) bytes
  wire ← read_at wire_of rid.1
  qos ← read_at (number most_8) wire.1
  payload ← body_at qos.1
  responder ← last_at (option_of zid_of) payload.1
  Some (message.Response (record { rid = rid.0; wire = wire.0; qos = qos.0; payload = payload.0; responder = responder }))

-- `final ID QOS`
unfoldable pub final_of : List ℕ → Option Message
final_of bytes = do
  rid ← read_at (number most_32) bytes
  qos ← last_at (number most_8) rid.1
  Some (message.ResponseFinal (record { rid = rid.0; qos = qos }))

-- `interest ID OPT-WIRE k`, or `n`, and maybe `a`
unfoldable pub interest_of : List ℕ → Option Message
interest_of bytes = do
  id ← read_at (number most_32) bytes
  wire ← read_at (option_of wire_of) id.1
  keys ← read_at (flag_of (codes "k") (codes "n")) wire.1
  aggregate ← aggregate_of keys.1
  Some (message.Interest (record { id = id.0; keys = keys.0; aggregate = aggregate; wire = wire.0 }))

-- `uninterest ID`
unfoldable pub uninterest_of : List ℕ → Option Message
uninterest_of bytes = do
  id ← last_at (number most_32) bytes
  Some (message.InterestFinal id)

-- a declaration, for an interest or for none, from a node
abbrev pub declared : Option ℕ → ℕ → DeclareBody → Option Message
declared interest node b = Some (message.Declare (record { interest = interest; node = node; body = b }))

-- `key ID WIRE`, for no interest, from node 0
unfoldable pub key_of : List ℕ → Option Message
key_of bytes = do
  id ← read_at (number most_16) bytes
  wire ← last_at wire_of id.1
  declared None 0 (body.DeclareKeyExpr id.0 wire)

-- `unkey ID`, for no interest, from node 0
unfoldable pub unkey_of : List ℕ → Option Message
unkey_of bytes = do
  id ← last_at (number most_16) bytes
  declared None 0 (body.UndeclareKeyExpr id)

-- `queryable ID WIRE c DIST NODE OPT-INTEREST`, or `p`
unfoldable pub queryable_of : List ℕ → Option Message
queryable_of bytes = do
  id ← read_at (number most_32) bytes
  wire ← read_at wire_of id.1
  info ← info_at wire.1
  node ← read_at (number most_16) info.1
  interest ← last_at (option_of (number most_32)) node.1
  declared interest node.0 (body.DeclareQueryable id.0 wire.0 info.0)

-- `unqueryable ID OPT-WIRE NODE`, for no interest
unfoldable pub unqueryable_of : List ℕ → Option Message
unqueryable_of bytes = do
  id ← read_at (number most_32) bytes
  wire ← read_at (option_of wire_of) id.1
  node ← last_at (number most_16) wire.1
  declared None node (body.UndeclareQueryable id.0 wire.0)

-- `declfinal OPT-INTEREST`, from node 0
unfoldable pub declfinal_of : List ℕ → Option Message
declfinal_of bytes = do
  interest ← last_at (option_of (number most_32)) bytes
  declared interest 0 body.DeclareFinal

-- the message of this name
unfoldable pub message_by : List ℕ → List ℕ → Option Message
message_by name bytes =
    if bytes_eq name (codes "request") then request_of bytes
    else (if bytes_eq name (codes "response") then response_of bytes
    else (if bytes_eq name (codes "final") then final_of bytes
    else (if bytes_eq name (codes "interest") then interest_of bytes
    else (if bytes_eq name (codes "uninterest") then uninterest_of bytes
    else (if bytes_eq name (codes "key") then key_of bytes
    else (if bytes_eq name (codes "unkey") then unkey_of bytes
    else (if bytes_eq name (codes "queryable") then queryable_of bytes
    else (if bytes_eq name (codes "unqueryable") then unqueryable_of bytes
    else (if bytes_eq name (codes "declfinal") then declfinal_of bytes
    else None)))))))))

-- the message that words say
abbrev pub message_of : List ℕ → Option Message
message_of words = by_first message_by words

-- a refusal by its name
unfoldable pub refusal_of : List ℕ → Option Refusal
refusal_of word =
    if bytes_eq word (codes "UnknownFace") then Some refusal.UnknownFace
    else (if bytes_eq word (codes "UnknownRegion") then Some refusal.UnknownRegion
    else (if bytes_eq word (codes "UpstreamInUse") then Some refusal.UpstreamInUse
    else (if bytes_eq word (codes "UnknownScope") then Some refusal.UnknownScope
    else (if bytes_eq word (codes "InvalidKeyExpr") then Some refusal.InvalidKeyExpr
    else (if bytes_eq word (codes "QueryNotFound") then Some refusal.QueryNotFound
    else (if bytes_eq word (codes "NotInFlight") then Some refusal.NotInFlight
    else (if bytes_eq word (codes "Remapped") then Some refusal.Remapped
    else (if bytes_eq word (codes "UnknownId") then Some refusal.UnknownId
    else (if bytes_eq word (codes "IdInUse") then Some refusal.IdInUse
    else (if bytes_eq word (codes "UnknownRouter") then Some refusal.UnknownRouter
    else (if bytes_eq word (codes "NoFreeId") then Some refusal.NoFreeId
    else None)))))))))))

-- `opened F`, `asked NUM`, `replied OPT-NUM`, `done` or `refused NAME`
unfoldable pub outcome_by : List ℕ → List ℕ → Option Outcome
outcome_by name bytes =
    if bytes_eq name (codes "opened") then last_at face_of bytes >>= (λ face. Some (outcome.Opened face))
    else (if bytes_eq name (codes "asked") then last_at (number most_64) bytes >>= (λ n. Some (outcome.Asked n))
    else (if bytes_eq name (codes "replied") then last_at (option_of (number most_64)) bytes >>= (λ reply. Some (outcome.Replied reply))
    else (if bytes_eq name (codes "done") then at_end bytes outcome.Done
    else (if bytes_eq name (codes "refused") then last_at refusal_of bytes >>= (λ r. Some (outcome.Refused r))
    else None))))

-- the answer that words say
abbrev pub outcome_of : List ℕ → Option Outcome
outcome_of words = by_first outcome_by words

-- what leaves: what the next line says, or else the message itself
abbrev pub leaves_by : Message → Option (Option Message) → Option Message
leaves_by m None = Some m
leaves_by m (Some leaves) = leaves

-- ` F OPT-NUM OPT-REPLY MESSAGE`, and what the next line says of what leaves
unfoldable pub handed_of : List ℕ → Option (Option Message) → Option Handed
handed_of bytes next = do
  to ← read_at face_of bytes
  asked ← read_at (option_of (number most_64)) to.1
  reply ← read_at (option_of (number most_64)) asked.1
  m ← rest_at message_of reply.1
  Some (record { to = to.0; number = asked.0; reply = reply.0; message = m; leaves = leaves_by m next })

-- what lines say: what leaves in place of the message before them, if the first says so; what is handed before the next answer; and the steps from that answer on
pub record Told : Type 0 where
  pub leaving : Option (Option Message)
  pub handed : List Handed
  pub steps : List Step

-- the first line doesn't say what leaves
abbrev pub unless_leaving : {X : Type 0} → Option (Option Message) → X → Option X
unless_leaving None x = Some x
unless_leaving (Some leaves) x = None

-- `= OUTCOME` begins a step
abbrev pub answered : Told → Outcome → Option Told
answered told o = unless_leaving told.leaving (record { leaving = None; handed = []; steps = (record { outcome = o; handed = told.handed }) ∷ told.steps })

-- `> F OPT-NUM OPT-REPLY MESSAGE` is a message handed
abbrev pub handing : Told → Handed → Option Told
handing told h = Some (record { leaving = None; handed = h ∷ told.handed; steps = told.steps })

-- `< MESSAGE`, or `< -` for nothing, is what leaves in place of the message before it
abbrev pub replaced : Told → Option Message → Option Told
replaced told m = unless_leaving told.leaving (record { leaving = Some m; handed = told.handed; steps = told.steps })

-- a line, and what the lines behind it say
unfoldable pub told_by : Told → List ℕ → List ℕ → Option Told
told_by told name bytes =
    if bytes_eq name (codes "=") then rest_at outcome_of bytes >>= answered told
    else (if bytes_eq name (codes ">") then handed_of bytes told.leaving >>= handing told
    else (if bytes_eq name (codes "<") then rest_at (option_of message_of) bytes >>= replaced told
    else None))

-- what lines say, the last first
abbrev pub told_of : List (List ℕ) → Option Told
told_of [] = Some (record { leaving = None; handed = []; steps = [] })
told_of (line ∷ lines) = told_of lines >>= (λ told. by_first (told_by told) line)

-- nothing is handed before the first answer
abbrev pub unless_handed : List Handed → List Step → Option (List Step)
unless_handed [] steps = Some steps
unless_handed (h ∷ handed) steps = None

-- the steps that a print says
abbrev pub steps_of : List ℕ → Option (List Step)
steps_of print = told_of (lines_of print) >>= (λ told. unless_leaving told.leaving told.steps >>= unless_handed told.handed)
