-- What a face in a namespace sends, as it is read behind the namespace.
use Rattle.std.specs.Prelude.{ℕ, Bool, true, false, ◌==◌, ◌&&◌, List, Option, length, if◌then◌else◌}
use Rattle.std.specs.Option.{option_map}
use Rattle.zq_key.specs.Space.{prefixed}
use Rattle.zq_message.specs.declared.message.WireExpr.{WireExpr}
use Rattle.zq_message.specs.declared.message.Request.{Request}
use Rattle.zq_message.specs.declared.message.Response.{Response}
use Rattle.zq_message.specs.declared.message.ReplyBody.{ReplyBody}
use Rattle.zq_message.specs.declared.message.ReplyBody.TheVariants as reply
use Rattle.zq_message.specs.declared.message.Interest.{Interest}
use Rattle.zq_message.specs.declared.message.DeclareBody.{DeclareBody}
use Rattle.zq_message.specs.declared.message.DeclareBody.TheVariants as declare
use Rattle.zq_message.specs.declared.message.Message.{Message}
use Rattle.zq_message.specs.declared.message.Message.TheVariants as message

-- an expression without a number goes behind the namespace; what has a number is read by what the number stands for, which need not be under the namespace
abbrev pub entered : List ℕ → WireExpr → WireExpr
entered n w = if w.scope == 0 then record w { suffix = prefixed n w.suffix } else w

-- an expression that need not be there; one that is missing stays so
abbrev pub entered_option : List ℕ → Option WireExpr → Option WireExpr
entered_option n w = option_map (entered n) w

-- whether a reply is an error
abbrev pub is_error : ReplyBody → Bool
is_error (reply.Reply bytes) = false
is_error (reply.Err bytes) = true

-- whether an expression has neither a number nor a suffix
abbrev pub is_bare : WireExpr → Bool
is_bare w = (w.scope == 0) && (length w.suffix == 0)

-- whether a reply is an error with the empty expression, which says no key
abbrev pub is_bare_error : Response → Bool
is_bare_error r = is_error r.payload && is_bare r.wire

-- a reply; an error's empty expression stays empty
abbrev pub entered_response : List ℕ → Response → Response
entered_response n r = if is_bare_error r then r else record r { wire = entered n r.wire }

-- a request
abbrev pub entered_request : List ℕ → Request → Request
entered_request n r = record r { wire = entered n r.wire }

-- an interest
abbrev pub entered_interest : List ℕ → Interest → Interest
entered_interest n i = record i { wire = entered_option n i.wire }

-- a declaration
abbrev pub entered_body : List ℕ → DeclareBody → DeclareBody
entered_body n (declare.DeclareKeyExpr id w) = declare.DeclareKeyExpr id (entered n w)
entered_body n (declare.UndeclareKeyExpr id) = declare.UndeclareKeyExpr id
entered_body n (declare.DeclareQueryable id w info) = declare.DeclareQueryable id (entered n w) info
entered_body n (declare.UndeclareQueryable id w) = declare.UndeclareQueryable id (entered_option n w)
entered_body n declare.DeclareFinal = declare.DeclareFinal

-- a message
abbrev pub entered_message : List ℕ → Message → Message
entered_message n (message.Interest i) = message.Interest (entered_interest n i)
entered_message n (message.InterestFinal id) = message.InterestFinal id
entered_message n (message.Declare d) = message.Declare (record d { body = entered_body n d.body })
entered_message n (message.Request r) = message.Request (entered_request n r)
entered_message n (message.Response r) = message.Response (entered_response n r)
entered_message n (message.ResponseFinal f) = message.ResponseFinal f
