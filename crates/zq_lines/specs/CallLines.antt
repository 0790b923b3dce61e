-- How a call is written as a line.
use Rattle.std.specs.Prelude.{ℕ, List, [], ◌++◌, Option, Some, None, codes, Bool, true, false}
use Rattle.std.specs.List.{flat_map}
use Rattle.std.specs.Fmt.{decimal}
use Rattle.zq_message.specs.declared.message.FaceId.{FaceId}
use Rattle.zq_message.specs.declared.message.Request.{Request}
use Rattle.zq_message.specs.declared.message.Response.{Response}
use Rattle.zq_message.specs.declared.message.Zid.{Zid}
use Rattle.zq_message.specs.declared.message.QueryableInfoType.{QueryableInfoType}
use Rattle.zq_message.specs.declared.message.ReplyBody.{ReplyBody}
use Rattle.zq_message.specs.declared.message.ReplyBody.TheVariants as body
use Rattle.zq_strategy.specs.declared.types.FinalMark.{FinalMark}
use Rattle.zq_strategy.specs.declared.types.FinalMark.TheVariants as mark
use Rattle.zq_machine.specs.declared.call.Opening.{Opening}
use Rattle.zq_machine.specs.declared.call.Call.{Call}
use Rattle.zq_machine.specs.declared.call.Call.TheVariants as call
use Rattle.zq_io.specs.Words.{field, payload_word, list_word, option_word}
use Rattle.zq_io.specs.Values.{flag_word, face_word, zid_word, mode_word, bound_word, target_word, region_word, wire_word, zids_word, all_word}
use Rattle.zq_lines.specs.Tables.{entry_word, tree_word}

-- an item of a list of what may not come in, or of what may not go out: behind the name of the side
abbrev pub deny_item : List ℕ → List ℕ → List ℕ
deny_item side text = field (side ++ payload_word text)

-- the entries of both lists
abbrev pub denies_words : List (List ℕ) → List (List ℕ) → List ℕ
denies_words entry exit = flat_map (deny_item (codes "in:")) entry ++ flat_map (deny_item (codes "out:")) exit

-- the words of an opening
abbrev pub opening_words : Opening → List ℕ
opening_words o =
    field (region_word o.region) ++ field (zid_word o.zid) ++ field (mode_word o.mode) ++ field (bound_word o.remote_bound)
    ++ field (option_word payload_word o.namespace) ++ denies_words o.entry_deny o.exit_deny

-- c or p, and a distance
abbrev pub info_words : QueryableInfoType → List ℕ
info_words info = field (flag_word (codes "c") (codes "p") info.complete) ++ field (decimal info.distance)

-- the words of a mark
abbrev pub mark_words : FinalMark → List ℕ
mark_words mark.Initial = field (codes "initial")
mark_words (mark.Key text) = field (codes "key") ++ field (payload_word text)

-- what a reply brings
abbrev pub body_words : ReplyBody → List ℕ
body_words (body.Reply payload) = field (codes "ok") ++ field (payload_word payload)
body_words (body.Err payload) = field (codes "err") ++ field (payload_word payload)

-- nothing for no responder
abbrev pub by_words : Option Zid → List ℕ
by_words None = []
by_words (Some zid) = field (codes "by:" ++ zid_word zid)

-- nothing for an interest that is not aggregating
abbrev pub aggregate_words : Bool → List ℕ
aggregate_words false = []
aggregate_words true = field (codes "a")

-- a name and a field
abbrev pub first_words : List ℕ → List ℕ → List ℕ
first_words name word = name ++ field word

-- a name, a face and an id
abbrev pub ids_words : List ℕ → FaceId → List ℕ → List ℕ
ids_words name face id = name ++ field (face_word face) ++ field id

-- the line of a declaration or of its end
abbrev pub declaring_words : Call → List ℕ
declaring_words (call.DeclareKeyExpr face id wire) = ids_words (codes "key") face (decimal id) ++ field (wire_word wire)
declaring_words (call.UndeclareKeyExpr face id) = ids_words (codes "unkey") face (decimal id)
declaring_words (call.DeclareQueryable face id wire info node) = ids_words (codes "queryable") face (decimal id) ++ field (wire_word wire) ++ info_words info ++ field (decimal node)
declaring_words (call.UndeclareQueryable face id wire node) = ids_words (codes "unqueryable") face (decimal id) ++ field (option_word wire_word wire) ++ field (decimal node)
declaring_words c = []

-- the line of a request
abbrev pub ask_words : FaceId → Request → ℕ → List ℕ
ask_words face r now =
    ids_words (codes "ask") face (decimal r.id) ++ field (wire_word r.wire) ++ field (target_word r.target) ++ field (option_word decimal r.timeout)
    ++ field (decimal r.node) ++ field (decimal r.qos) ++ field (payload_word r.payload) ++ field (decimal now)

-- the line of a reply
abbrev pub reply_words : FaceId → Response → List ℕ
reply_words face r = ids_words (codes "reply") face (decimal r.rid) ++ field (wire_word r.wire) ++ body_words r.payload ++ by_words r.responder

-- the line of a request, of what answers it, or of a moment; else of a declaration
abbrev pub asking_words : Call → List ℕ
asking_words (call.Request face r now) = ask_words face r now
asking_words (call.Response face r) = reply_words face r
asking_words (call.ResponseFinal face rid) = ids_words (codes "final") face (decimal rid)
asking_words (call.Sent reply) = first_words (codes "sent") (decimal reply)
asking_words (call.Poll now) = first_words (codes "poll") (decimal now)
asking_words c = declaring_words c

-- the line of a region's table or of a face's; else of a request or a declaration
abbrev pub table_words : Call → List ℕ
table_words (call.SetGateways region table) = first_words (codes "gateways") (region_word region) ++ field (list_word 59 entry_word table.of) ++ field (all_word table.all)
table_words (call.SetNetwork region net) =
    first_words (codes "network") (region_word region) ++ field (zids_word net.nodes) ++ field (list_word 59 tree_word net.trees) ++ field (list_word 44 decimal net.distances)
table_words (call.SetNodeIds face ids) = first_words (codes "nodes") (face_word face) ++ field (zids_word ids.ids)
table_words c = asking_words c

-- the line of a call
abbrev pub call_words : Call → List ℕ
call_words (call.Open o) = codes "open" ++ opening_words o
call_words (call.Close face) = first_words (codes "close") (face_word face)
call_words (call.Interest face id keys aggregate wire) =
    ids_words (codes "interest") face (decimal id) ++ field (option_word wire_word wire) ++ field (flag_word (codes "k") (codes "n") keys) ++ aggregate_words aggregate
call_words (call.InterestFinal face id) = ids_words (codes "uninterest") face (decimal id)
call_words (call.FinalizeInterest face what set) = first_words (codes "finalize") (face_word face) ++ mark_words what ++ field (flag_word (codes "1") (codes "0") set)
call_words c = table_words c
