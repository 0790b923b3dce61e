-- The words of each call, behind its name.
use Rattle.std.specs.Prelude.{ℕ, ◌==◌, ◌&&◌, ◌||◌, List, Option, Some, None, codes, if◌then◌else◌}
use Rattle.std.specs.Str.{bytes_eq}
use Rattle.zq_lines.specs.declared.kind.Kind.{Kind}
use Rattle.zq_lines.specs.declared.kind.Kind.TheVariants as kind
use Rattle.zq_lines.specs.declared.form.Span.{Span}
use Rattle.zq_lines.specs.declared.form.Span.TheVariants as span
use Rattle.zq_lines.specs.declared.form.TheConstants.{CONFIG, START, BEST, OPEN, FACE, IDS, KEY, UNKEY, QUERYABLE, UNQUERYABLE, INTEREST, FINALIZE, ASK, REPLY, LONG, GATEWAYS, NETWORK, NODES}

-- the words of a call that speaks of keys and queryables
abbrev pub declaring_form : List ℕ → Option (List Kind)
declaring_form name =
    if bytes_eq name (codes "key") then Some KEY.now
    else (if bytes_eq name (codes "unkey") then Some UNKEY.now
    else (if bytes_eq name (codes "queryable") then Some QUERYABLE.now
    else (if bytes_eq name (codes "unqueryable") then Some UNQUERYABLE.now
    else (if bytes_eq name (codes "interest") then Some INTEREST.now
    else (if bytes_eq name (codes "uninterest") then Some IDS.now
    else None)))))

-- the words of a call that is of no key and no query
abbrev pub other_form : List ℕ → Option (List Kind)
other_form name =
    if bytes_eq name (codes "open") then Some OPEN.now
    else (if bytes_eq name (codes "close") then Some FACE.now
    else (if bytes_eq name (codes "finalize") then Some FINALIZE.now
    else (if bytes_eq name (codes "gateways") then Some GATEWAYS.now
    else (if bytes_eq name (codes "network") then Some NETWORK.now
    else (if bytes_eq name (codes "nodes") then Some NODES.now
    else declaring_form name)))))

-- the words of the call of a name, if there is one: all, those that it has at least, or those that it has at most
abbrev pub form_of : List ℕ → Option (List Kind)
form_of name =
    if bytes_eq name (codes "ask") then Some ASK.now
    else (if bytes_eq name (codes "reply") then Some REPLY.now
    else (if bytes_eq name (codes "final") then Some IDS.now
    else (if bytes_eq name (codes "sent") || bytes_eq name (codes "poll") then Some LONG.now
    else other_form name)))

-- the words of a line of a number and a name, if there are such: of a call, of the configuration, which stands first, of the counters or of the choice
abbrev pub form_at : ℕ → List ℕ → Option (List Kind)
form_at number name =
    if number == 1 && bytes_eq name (codes "config") then Some CONFIG.now
    else (if bytes_eq name (codes "start") then Some START.now
    else (if bytes_eq name (codes "best") then Some BEST.now
    else form_of name))

-- how many words the call of a name may have: further ones, or one less, or just its own
abbrev pub span_of : List ℕ → Span
span_of name =
    if bytes_eq name (codes "open") || bytes_eq name (codes "reply") || bytes_eq name (codes "finalize") || bytes_eq name (codes "config") then span.More
    else (if bytes_eq name (codes "interest") then span.Less
    else span.Exact)

-- what each further word of the call of a name is
abbrev pub tail_of : List ℕ → Kind
tail_of name =
    if bytes_eq name (codes "open") then kind.Item
    else (if bytes_eq name (codes "reply") then kind.Responder
    else (if bytes_eq name (codes "config") then kind.Entry
    else kind.Any))
