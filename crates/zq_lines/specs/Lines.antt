-- The lines of a script: which call a line says, and how a call is written.
use Rattle.std.specs.Prelude.{ℕ, Bool, true, false, ◌==◌, not, List, [], ◌∷◌, Option, Some, None, if◌then◌else◌, drop, take, codes, map, filter}
use Rattle.std.specs.Str.{bytes_eq}
use Rattle.zq_message.specs.declared.message.Zid.{Zid}
use Rattle.zq_message.specs.declared.message.QueryableInfoType.{QueryableInfoType}
use Rattle.zq_message.specs.declared.message.QueryTarget.{QueryTarget}
use Rattle.zq_message.specs.declared.message.ReplyBody.{ReplyBody}
use Rattle.zq_message.specs.declared.message.ReplyBody.TheVariants as body
use Rattle.zq_strategy.specs.declared.types.FinalMark.{FinalMark}
use Rattle.zq_strategy.specs.declared.types.FinalMark.TheVariants as mark
use Rattle.zq_machine.specs.declared.call.Call.{Call}
use Rattle.zq_machine.specs.declared.call.Call.TheVariants as call
use Rattle.zq_io.specs.Words.{◌>>=◌, len_to, cut, pieces, number, read_at, read_each, at_end, text_of, bytes_of, list_of, option_of}
use Rattle.zq_io.specs.Values.{most_8, most_16, most_32, most_64, flag_of, face_of, zid_of, mode_of, bound_of, target_of, behind, region_of, wire_of, zids_of, all_of}
use Rattle.zq_lines.specs.Tables.{entry_of, tree_of}
use Rattle.zq_lines.specs.declared.lines.Deny.{Deny}

-- REGION Z MODE BOUND NS and then the entries of the two lists
abbrev pub deny_side : List ℕ → Option Bool
deny_side word = flag_of (codes "in") (codes "out") word

-- `in:TEXT` or `out:TEXT`
unfoldable pub deny_of : List ℕ → Option Deny
deny_of word = do
  parts ← cut 58 word
  entry ← deny_side parts.0
  text ← text_of parts.1
  Some (record { entry = entry; text = text })

-- the words up to the end of the line
abbrev pub denies_of : List ℕ → Option (List Deny)
denies_of [] = Some []
denies_of (b ∷ bytes) = if b == 32 then read_each deny_of (pieces 32 bytes) else None

-- the item is of this side: of what may not come in, or of what may not go out
abbrev pub at_side : Bool → Deny → Bool
at_side true d = d.entry
at_side false d = not d.entry

-- the text of the item
abbrev pub deny_text : Deny → List ℕ
deny_text d = d.text

-- `open REGION Z MODE BOUND NS ITEM ..`
unfoldable pub opening_of : List ℕ → Option Call
opening_of bytes = do
  region ← read_at region_of bytes
  zid ← read_at zid_of region.1
  strategy ← read_at mode_of zid.1
  remote ← read_at bound_of strategy.1
  namespace ← read_at (option_of text_of) remote.1
  denies ← denies_of namespace.1
  Some (call.Open (record { region = region.0; zid = zid.0; mode = strategy.0; remote_bound = remote.0; namespace = namespace.0; entry_deny = map deny_text (filter (at_side true) denies); exit_deny = map deny_text (filter (at_side false) denies) }))

-- `close F`
unfoldable pub close_of : List ℕ → Option Call
close_of bytes = do
  face ← read_at face_of bytes
  at_end face.1 (call.Close face.0)

-- `key F NUM WIRE`
unfoldable pub key_of : List ℕ → Option Call
key_of bytes = do
  face ← read_at face_of bytes
  id ← read_at (number most_16) face.1
  wire ← read_at wire_of id.1
  at_end wire.1 (call.DeclareKeyExpr face.0 id.0 wire.0)

-- `unkey F NUM`
unfoldable pub unkey_of : List ℕ → Option Call
unkey_of bytes = do
  face ← read_at face_of bytes
  id ← read_at (number most_16) face.1
  at_end id.1 (call.UndeclareKeyExpr face.0 id.0)

-- c or p, and a distance
unfoldable pub info_at : List ℕ → Option (QueryableInfoType × List ℕ)
info_at bytes = do
  complete ← read_at (flag_of (codes "c") (codes "p")) bytes
  distance ← read_at (number most_16) complete.1
  Some (record { complete = complete.0; distance = distance.0 }, distance.1)

-- `queryable F NUM WIRE c DIST NODE`
unfoldable pub queryable_of : List ℕ → Option Call
queryable_of bytes = do
  face ← read_at face_of bytes
  id ← read_at (number most_32) face.1
  wire ← read_at wire_of id.1
  info ← info_at wire.1
  node ← read_at (number most_16) info.1
  at_end node.1 (call.DeclareQueryable face.0 id.0 wire.0 info.0 node.0)

-- `unqueryable F NUM OPT-WIRE NODE`
unfoldable pub unqueryable_of : List ℕ → Option Call
unqueryable_of bytes = do
  face ← read_at face_of bytes
  id ← read_at (number most_32) face.1
  wire ← read_at (option_of wire_of) id.1
  node ← read_at (number most_16) wire.1
  at_end node.1 (call.UndeclareQueryable face.0 id.0 wire.0 node.0)

-- an interest is aggregating, if the line goes on with a last word, `a`
unfoldable pub aggregate_of : List ℕ → Option Bool
aggregate_of [] = Some false
aggregate_of (b ∷ bytes) = if bytes_eq (b ∷ bytes) (codes " a") then Some true else None

-- `interest F NUM OPT-WIRE k`, and maybe `a`
unfoldable pub interest_of : List ℕ → Option Call
interest_of bytes = do
  face ← read_at face_of bytes
  id ← read_at (number most_32) face.1
  wire ← read_at (option_of wire_of) id.1
  keys ← read_at (flag_of (codes "k") (codes "n")) wire.1
  aggregate ← aggregate_of keys.1
  Some (call.Interest face.0 id.0 keys.0 aggregate wire.0)

-- `uninterest F NUM`
unfoldable pub uninterest_of : List ℕ → Option Call
uninterest_of bytes = do
  face ← read_at face_of bytes
  id ← read_at (number most_32) face.1
  at_end id.1 (call.InterestFinal face.0 id.0)

-- the mark of a kind: `key TEXT`, or `initial`
unfoldable pub mark_by : Bool → List ℕ → Option (FinalMark × List ℕ)
mark_by true bytes = do
  text ← read_at text_of bytes
  Some (mark.Key text.0, text.1)
mark_by false bytes = Some (mark.Initial, bytes)

-- `initial`, or `key TEXT`
unfoldable pub mark_at : List ℕ → Option (FinalMark × List ℕ)
mark_at bytes = do
  kind ← read_at (flag_of (codes "key") (codes "initial")) bytes
  mark_by kind.0 kind.1

-- `finalize F MARK 1`
unfoldable pub finalize_of : List ℕ → Option Call
finalize_of bytes = do
  face ← read_at face_of bytes
  what ← mark_at face.1
  set ← read_at (flag_of (codes "1") (codes "0")) what.1
  at_end set.1 (call.FinalizeInterest face.0 what.0 set.0)

-- what stands between the expression and the payload of a request
unfoldable pub manner_at : List ℕ → Option (QueryTarget × Option ℕ × ℕ × ℕ × List ℕ)
manner_at bytes = do
  target ← read_at target_of bytes
  timeout ← read_at (option_of (number most_64)) target.1
  node ← read_at (number most_16) timeout.1
  qos ← read_at (number most_8) node.1
  Some (target.0, timeout.0, node.0, qos.0, qos.1)

-- `ask F ID WIRE TARGET OPT-TIMEOUT NODE QOS PAYLOAD NOW`
unfoldable pub ask_of : List ℕ → Option Call
ask_of bytes = do
  face ← read_at face_of bytes
  id ← read_at (number most_32) face.1
  wire ← read_at wire_of id.1
  manner ← manner_at wire.1
  payload ← read_at bytes_of manner.4
  now ← read_at (number most_64) payload.1
  at_end now.1 (call.Request face.0 (record { id = id.0; wire = wire.0; target = manner.0; timeout = manner.1; node = manner.2; qos = manner.3; payload = payload.0 }) now.0)

-- a reply, or an error
abbrev pub body_by : Bool → List ℕ → ReplyBody
body_by true payload = body.Reply payload
body_by false payload = body.Err payload

-- `ok PAYLOAD` or `err PAYLOAD`
unfoldable pub body_at : List ℕ → Option (ReplyBody × List ℕ)
body_at bytes = do
  kind ← read_at (flag_of (codes "ok") (codes "err")) bytes
  payload ← read_at bytes_of kind.1
  Some (body_by kind.0 payload.0, payload.1)

-- `by:` and an id
unfoldable pub by_of : List ℕ → Option Zid
by_of word = do
  parts ← cut 58 word
  rest ← behind (codes "by") parts
  zid_of rest

-- the responder, if the line goes on
unfoldable pub responder_of : List ℕ → Option (Option Zid)
responder_of [] = Some None
responder_of (b ∷ bytes) = do
  zid ← read_at by_of (b ∷ bytes)
  at_end zid.1 (Some zid.0)

-- `reply F ID WIRE ok PAYLOAD`, and maybe `by:Z`
unfoldable pub reply_of : List ℕ → Option Call
reply_of bytes = do
  face ← read_at face_of bytes
  id ← read_at (number most_32) face.1
  wire ← read_at wire_of id.1
  payload ← body_at wire.1
  responder ← responder_of payload.1
  Some (call.Response face.0 (record { rid = id.0; wire = wire.0; qos = 0; payload = payload.0; responder = responder }))

-- `final F ID`
unfoldable pub final_of : List ℕ → Option Call
final_of bytes = do
  face ← read_at face_of bytes
  id ← read_at (number most_32) face.1
  at_end id.1 (call.ResponseFinal face.0 id.0)

-- `sent NUM`
unfoldable pub sent_of : List ℕ → Option Call
sent_of bytes = do
  reply ← read_at (number most_64) bytes
  at_end reply.1 (call.Sent reply.0)

-- `poll NOW`
unfoldable pub poll_of : List ℕ → Option Call
poll_of bytes = do
  now ← read_at (number most_64) bytes
  at_end now.1 (call.Poll now.0)

-- `gateways REGION ENTRIES ALL`
unfoldable pub gateways_of : List ℕ → Option Call
gateways_of bytes = do
  region ← read_at region_of bytes
  entries ← read_at (list_of 59 entry_of) region.1
  others ← read_at all_of entries.1
  at_end others.1 (call.SetGateways region.0 (record { of = entries.0; all = others.0 }))

-- `network REGION NODES TREES DISTANCES`
unfoldable pub network_of : List ℕ → Option Call
network_of bytes = do
  region ← read_at region_of bytes
  nodes ← read_at zids_of region.1
  trees ← read_at (list_of 59 tree_of) nodes.1
  distances ← read_at (list_of 44 (number most_16)) trees.1
  at_end distances.1 (call.SetNetwork region.0 (record { nodes = nodes.0; trees = trees.0; distances = distances.0 }))

-- `nodes F LIST`
unfoldable pub nodes_of : List ℕ → Option Call
nodes_of bytes = do
  face ← read_at face_of bytes
  ids ← read_at zids_of face.1
  at_end ids.1 (call.SetNodeIds face.0 (record { ids = ids.0 }))

-- the calls that stand seldom, by their names
unfoldable pub other_by : List ℕ → List ℕ → Option Call
other_by head bytes =
    if bytes_eq head (codes "open") then opening_of bytes
    else (if bytes_eq head (codes "close") then close_of bytes
    else (if bytes_eq head (codes "interest") then interest_of bytes
    else (if bytes_eq head (codes "uninterest") then uninterest_of bytes
    else (if bytes_eq head (codes "finalize") then finalize_of bytes
    else (if bytes_eq head (codes "gateways") then gateways_of bytes
    else (if bytes_eq head (codes "network") then network_of bytes
    else (if bytes_eq head (codes "nodes") then nodes_of bytes
    else None)))))))

-- a call by its name and its fields
unfoldable pub call_by : List ℕ → List ℕ → Option Call
call_by head bytes =
    if bytes_eq head (codes "ask") then ask_of bytes
    else (if bytes_eq head (codes "reply") then reply_of bytes
    else (if bytes_eq head (codes "final") then final_of bytes
    else (if bytes_eq head (codes "sent") then sent_of bytes
    else (if bytes_eq head (codes "poll") then poll_of bytes
    else (if bytes_eq head (codes "queryable") then queryable_of bytes
    else (if bytes_eq head (codes "unqueryable") then unqueryable_of bytes
    else (if bytes_eq head (codes "key") then key_of bytes
    else (if bytes_eq head (codes "unkey") then unkey_of bytes
    else other_by head bytes))))))))

-- by the first word, and by what follows it
abbrev pub by_first : {X : Type 0} → (List ℕ → List ℕ → Option X) → List ℕ → Option X
by_first read line = read (take (len_to 32 line) line) (drop (len_to 32 line) line)

-- the call that a line says
abbrev pub call_of : List ℕ → Option Call
call_of line = by_first call_by line
