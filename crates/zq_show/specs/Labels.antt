-- What a person reads of a call and of a message, beside its arrow.
use Rattle.std.specs.Prelude.{ℕ, ◌==◌, Bool, List, [], ◌++◌, Option, Some, None, codes, if◌then◌else◌}
use Rattle.std.specs.Fmt.{decimal}
use Rattle.zq_message.specs.declared.message.DeclareBody.{DeclareBody}
use Rattle.zq_message.specs.declared.message.DeclareBody.TheVariants as body
use Rattle.zq_message.specs.declared.message.Message.{Message}
use Rattle.zq_message.specs.declared.message.Message.TheVariants as message
use Rattle.zq_message.specs.declared.message.QueryableInfoType.{QueryableInfoType}
use Rattle.zq_message.specs.declared.message.Region.{Region}
use Rattle.zq_message.specs.declared.message.ReplyBody.{ReplyBody}
use Rattle.zq_message.specs.declared.message.ReplyBody.TheVariants as payload
use Rattle.zq_message.specs.declared.message.Request.{Request}
use Rattle.zq_message.specs.declared.message.Response.{Response}
use Rattle.zq_message.specs.declared.message.WireExpr.{WireExpr}
use Rattle.zq_io.specs.Words.{field}
use Rattle.zq_io.specs.Values.{region_word, target_word}
use Rattle.zq_strategy.specs.declared.types.FinalMark.{FinalMark}
use Rattle.zq_strategy.specs.declared.types.FinalMark.TheVariants as mark
use Rattle.zq_machine.specs.declared.call.Call.{Call}
use Rattle.zq_machine.specs.declared.call.Call.TheVariants as call
use Rattle.zq_show.specs.Answer.{named}

-- the text that an expression by a number stands for; where it is not known, the number in brackets, and the rest
abbrev pub numbered_words : Option (List ℕ) → WireExpr → List ℕ
numbered_words None w = codes "[" ++ decimal w.scope ++ codes "]" ++ w.suffix
numbered_words (Some key) w = key

-- an expression: its text, or what its number stands for
abbrev pub key_words : Option (List ℕ) → WireExpr → List ℕ
key_words key w = if w.scope == 0 then w.suffix else numbered_words key w

-- a word, and the key that it is about
abbrev pub worded : List ℕ → Option (List ℕ) → WireExpr → List ℕ
worded word key w = word ++ key_words key w

-- a queryable that is declared
abbrev pub declared_label : Option (List ℕ) → WireExpr → QueryableInfoType → List ℕ
declared_label key w i = worded (codes "queryable ") key w ++ (if i.complete then codes ", complete" else [])

-- a queryable that is withdrawn, by its key where that is said
abbrev pub withdrawn_label : ℕ → Option (List ℕ) → Option WireExpr → List ℕ
withdrawn_label id key None = named (codes "end of queryable ") id
withdrawn_label id key (Some w) = worded (codes "end of queryable ") key w

-- a number that is given to a key
abbrev pub numbered_key : ℕ → Option (List ℕ) → WireExpr → List ℕ
numbered_key id key w = named (codes "key ") id ++ worded (codes ": ") key w

-- an interest in a key, or in all
abbrev pub interest_label : Option (List ℕ) → Option WireExpr → List ℕ
interest_label key None = codes "interest in all keys"
interest_label key (Some w) = worded (codes "interest in ") key w

-- of what a mark speaks
abbrev pub marked_words : FinalMark → List ℕ
marked_words mark.Initial = []
marked_words (mark.Key key) = codes " on " ++ key

-- a mark
abbrev pub mark_label : FinalMark → Bool → List ℕ
mark_label m set = (if set then codes "all is declared" else codes "more may come") ++ marked_words m

-- a question
abbrev pub ask_label : Option (List ℕ) → Request → List ℕ
ask_label key r = worded (codes "ask ") key r.wire ++ codes "," ++ field (target_word r.target)

-- what a reply brings, on its key
abbrev pub payload_label : Option (List ℕ) → WireExpr → ReplyBody → List ℕ
payload_label key w (payload.Reply bytes) = worded (codes "reply ") key w ++ codes ": " ++ bytes
payload_label key w (payload.Err bytes) = codes "error: " ++ bytes

-- a reply, or an error
abbrev pub reply_label : Option (List ℕ) → Response → List ℕ
reply_label key r = payload_label key r.wire r.payload

-- a word, and a region
abbrev pub regional : List ℕ → Region → List ℕ
regional word region = word ++ field (region_word region)

-- what a person reads of a call whose expression is of a key, if that is known
abbrev pub call_label : Option (List ℕ) → Call → List ℕ
call_label key (call.Open o) = regional (codes "open in") o.region
call_label key (call.Close face) = codes "close"
call_label key (call.DeclareKeyExpr face id wire) = numbered_key id key wire
call_label key (call.UndeclareKeyExpr face id) = named (codes "end of key ") id
call_label key (call.DeclareQueryable face id wire info node) = declared_label key wire info
call_label key (call.UndeclareQueryable face id wire node) = withdrawn_label id key wire
call_label key (call.Interest face id keys aggregate wire) = interest_label key wire
call_label key (call.InterestFinal face id) = named (codes "end of interest ") id
call_label key (call.FinalizeInterest face mark set) = mark_label mark set
call_label key (call.Request face request now) = ask_label key request
call_label key (call.Response face response) = reply_label key response
call_label key (call.ResponseFinal face rid) = codes "final"
call_label key (call.Sent reply) = named (codes "sent reply ") reply
call_label key (call.Poll now) = named (codes "time ") now
call_label key (call.SetGateways region table) = regional (codes "gateways of") region
call_label key (call.SetNetwork region net) = regional (codes "network of") region
call_label key (call.SetNodeIds face ids) = codes "node ids"

-- what a person reads of a declaration
abbrev pub body_label : DeclareBody → List ℕ
body_label (body.DeclareKeyExpr id wire) = numbered_key id None wire
body_label (body.UndeclareKeyExpr id) = named (codes "end of key ") id
body_label (body.DeclareQueryable id wire info) = declared_label None wire info
body_label (body.UndeclareQueryable id wire) = withdrawn_label id None wire
body_label body.DeclareFinal = codes "all is told"

-- what a person reads of a message; a request is of this key, if it is known
abbrev pub message_label : Option (List ℕ) → Message → List ℕ
message_label key (message.Interest i) = interest_label None i.wire
message_label key (message.InterestFinal id) = named (codes "end of interest ") id
message_label key (message.Declare d) = body_label d.body
message_label key (message.Request r) = worded (codes "request ") key r.wire
message_label key (message.Response r) = reply_label None r
message_label key (message.ResponseFinal f) = codes "final"
