-- The generated load: eight clients of Local, four of which declare a queryable; and queries, each asked, answered, ended and reported before the next.
use Rattle.std.specs.Prelude.{ℕ, ◌+◌, ◌*◌, ◌-◌, ◌/◌, ◌%◌, ◌==◌, ◌≤◌, nat_lt, Bool, true, zero, suc, List, [], ◌∷◌, ◌++◌, None, length, if◌then◌else◌, codes}
use Rattle.std.specs.List.{count_by, flat_map}
use Rattle.std.specs.Fmt.{decimal}
use Rattle.zq_message.specs.declared.message.Bound.TheVariants as bound
use Rattle.zq_message.specs.declared.message.Mode.TheVariants as mode
use Rattle.zq_message.specs.declared.message.QueryTarget.TheVariants as target
use Rattle.zq_message.specs.declared.message.Region.TheVariants as region
use Rattle.zq_message.specs.declared.message.ReplyBody.TheVariants as body
use Rattle.zq_tables.specs.Naming.{plain}
use Rattle.zq_machine.specs.declared.call.Call.{Call}
use Rattle.zq_machine.specs.declared.call.Call.TheVariants as call
use Rattle.zq_machine.specs.Handing.{Handed}
use Rattle.zq_machine.specs.declared.call.Step.{Step}
use Rattle.zq_machine.specs.declared.config.Entry.TheVariants as entry
use Rattle.zq_machine.specs.Configs.{Settings, no_counts, usual_best}
use Rattle.zq_script.specs.declared.load.Kind.{Kind}
use Rattle.zq_script.specs.declared.load.Kind.TheVariants as kind
use Rattle.zq_machine.specs.Headline.{asks, is_final, replies_to}
use Rattle.zq_machine.specs.Machine.{steps}
use Rattle.zq_script.specs.declared.load.Counts.{Counts}

-- `config 1 10000 north:client local`
abbrev pub load_config : Settings
load_config = record { zid = record { 0 = 1 }; entries = entry.North mode.Client ∷ entry.Local ∷ []; timeout = 10000; start = no_counts; best = usual_best }

-- the key on which a face declares
abbrev pub declared_key : ℕ → List ℕ
declared_key face = codes "load/" ++ decimal face ++ codes "/**"

-- the key of a query: below that of the face which answers it
abbrev pub asked_key : ℕ → List ℕ
asked_key query = codes "load/" ++ decimal (query % 4) ++ codes "/" ++ decimal query

-- a client is opened in Local
abbrev pub open_call : ℕ → Call
open_call face = call.Open (record { region = region.Local; zid = record { 0 = 100 + face }; mode = mode.Client; remote_bound = bound.North; namespace = None; entry_deny = []; exit_deny = [] })

-- a face declares its queryable, complete and near
abbrev pub declare_call : ℕ → Call
declare_call face = call.DeclareQueryable (record { 0 = face }) 1 (plain (declared_key face)) (record { complete = true; distance = 0 }) 0

-- the query is asked
abbrev pub ask_call : ℕ → Call
ask_call query = call.Request (record { 0 = 4 + query % 4 }) (record { id = query; wire = plain (asked_key query); target = target.All; timeout = None; node = 0; qos = 0; payload = decimal query }) query

-- it is answered, under the id that its target knows
abbrev pub reply_call : ℕ → Call
reply_call query = call.Response (record { 0 = query % 4 }) (record { rid = query / 4 + 1; wire = plain (asked_key query); qos = 0; payload = body.Reply (decimal query); responder = None })

-- its target ends it
abbrev pub final_call : ℕ → Call
final_call query = call.ResponseFinal (record { 0 = query % 4 }) (query / 4 + 1)

-- its reply is reported as sent
abbrev pub sent_call : ℕ → Call
sent_call query = call.Sent query

-- the four calls of a query, one after the other
abbrev pub query_call : ℕ → ℕ → Call
query_call query part =
    if part == 0 then ask_call query
    else (if part == 1 then reply_call query
    else (if part == 2 then final_call query
    else sent_call query))

-- the calls by their number: the faces, the queryables, the queries
abbrev pub load_call : ℕ → Call
load_call number =
    if nat_lt number 8 then open_call number
    else (if nat_lt number 12 then declare_call (number - 8)
    else query_call ((number - 12) / 4) ((number - 12) % 4))

-- so many calls from a number on
abbrev pub calls_from : ℕ → ℕ → List Call
calls_from number zero = []
calls_from number (suc more) = load_call number ∷ calls_from (number + 1) more

-- the calls of a load of so many queries
abbrev pub load_calls : ℕ → List Call
load_calls amount = calls_from 0 (12 + 4 * amount)

-- what steps hand
abbrev pub handed_over : List Step → List Handed
handed_over steps = flat_map (λ t. t.handed) steps

-- a final is handed
abbrev pub is_end : Handed → Bool
is_end h = is_final h.message

-- whether a message is of a kind that is counted
abbrev pub kind_test : Kind → Handed → Bool
kind_test kind.Request = asks
kind_test kind.Response = replies_to
kind_test kind.Final = is_end

-- how many messages, and of which kinds
abbrev pub count : List Handed → Counts
count handed = record { handed = length handed; requests = count_by asks handed; responses = count_by replies_to handed; finals = count_by is_end handed }

-- two counts together
abbrev pub plus : Counts → Counts → Counts
plus a b = record { handed = a.handed + b.handed; requests = a.requests + b.requests; responses = a.responses + b.responses; finals = a.finals + b.finals }

-- none of the counts is greater
pub record IsBelow (most : ℕ) (c : Counts) : Type 0 where
  pub handed : c.handed ≤ most
  pub requests : c.requests ≤ most
  pub responses : c.responses ≤ most
  pub finals : c.finals ≤ most

-- the line of counts
abbrev pub counts_line : ℕ → Counts → List ℕ
counts_line calls c =
    codes "calls " ++ decimal calls ++ codes " handed " ++ decimal c.handed ++ codes " requests " ++ decimal c.requests ++ codes " responses " ++ decimal c.responses ++ codes " finals " ++ decimal c.finals ++ 10 ∷ []

-- what a load prints: how many calls it makes, and the counts over their steps
abbrev pub load_line : ℕ → List ℕ
load_line amount = counts_line (length (load_calls amount)) (count (handed_over (steps load_config (load_calls amount))))
