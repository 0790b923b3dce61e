-- What leaves in place of a message, and what the exit of a namespace keeps of what did not leave.
use Rattle.std.specs.Prelude.{ℕ, Bool, true, false, List, [], Option, Some, None, is_some, if◌then◌else◌}
use Rattle.std.specs.BTreeMap.{insert_entry, is_at}
use Rattle.std.specs.BTreeSet.{insert_key}
use Rattle.std.specs.List.{list_any}
use Rattle.std.specs.Map.{remove_entry}
use Rattle.std.specs.Option.{option_map}
use Rattle.std.specs.Ordering.{nat_cmp}
use Rattle.std.specs.Set.{remove_key}
use Rattle.zq_message.specs.declared.message.WireExpr.{WireExpr}
use Rattle.zq_message.specs.declared.message.Request.{Request}
use Rattle.zq_message.specs.declared.message.Response.{Response}
use Rattle.zq_message.specs.declared.message.Interest.{Interest}
use Rattle.zq_message.specs.declared.message.Declare.{Declare}
use Rattle.zq_message.specs.declared.message.DeclareBody.{DeclareBody}
use Rattle.zq_message.specs.declared.message.DeclareBody.TheVariants as declare
use Rattle.zq_message.specs.declared.message.Message.{Message}
use Rattle.zq_message.specs.declared.message.Message.TheVariants as message
use Rattle.zq_namespace.specs.Entry.{is_bare_error}
use Rattle.zq_namespace.specs.Exit.{Heads, head_at, wire_out, option_out}

-- the exit of a namespace: the namespace; of declarations and interests that did not leave, the heads, and the ids in order
pub record ExitState : Type 0 where
  pub ns : List ℕ
  pub heads : Heads
  pub queryables : List ℕ
  pub interests : List ℕ

-- nothing is kept
abbrev pub new_exit : List ℕ → ExitState
new_exit n = record { ns = n; heads = []; queryables = []; interests = [] }

-- whether an id is among those that are kept
abbrev pub has_id : ℕ → List ℕ → Bool
has_id id ids = list_any (is_at (nat_cmp id)) ids

-- an id with others, once
abbrev pub with_id : ℕ → List ℕ → List ℕ
with_id id ids = insert_key nat_cmp ids id

-- the other ids
abbrev pub without_id : ℕ → List ℕ → List ℕ
without_id id ids = remove_key (is_at (nat_cmp id)) ids

-- a text as the head of a number
abbrev pub with_head : ℕ → List ℕ → Heads → Heads
with_head id text heads = insert_entry nat_cmp heads id text

-- the heads of other numbers
abbrev pub without_head : ℕ → Heads → Heads
without_head id heads = remove_entry (is_at (nat_cmp id)) heads

-- ---- what leaves

-- a request with another expression
abbrev pub request_with : Request → WireExpr → Message
request_with r w = message.Request (record r { wire = w })

-- a reply with another expression
abbrev pub response_with : Response → WireExpr → Message
response_with r w = message.Response (record r { wire = w })

-- an interest with another expression, or with none
abbrev pub interest_with : Interest → Option WireExpr → Message
interest_with i w = message.Interest (record i { wire = w })

-- a declaration with another body
abbrev pub declare_with : Declare → DeclareBody → Message
declare_with d b = message.Declare (record d { body = b })

-- in place of a declaration: an end leaves if what it ends did, and where it has an expression by this alone
abbrev pub body_leaves : ExitState → DeclareBody → Option DeclareBody
body_leaves s (declare.DeclareKeyExpr id w) = option_map (λ v. declare.DeclareKeyExpr id v) (wire_out s.ns s.heads w)
body_leaves s (declare.UndeclareKeyExpr id) = if is_some (head_at id s.heads) then None else Some (declare.UndeclareKeyExpr id)
body_leaves s (declare.DeclareQueryable id w info) = option_map (λ v. declare.DeclareQueryable id v info) (wire_out s.ns s.heads w)
body_leaves s (declare.UndeclareQueryable id None) = if has_id id s.queryables then None else Some (declare.UndeclareQueryable id None)
body_leaves s (declare.UndeclareQueryable id (Some w)) = option_map (λ v. declare.UndeclareQueryable id (Some v)) (wire_out s.ns s.heads w)
body_leaves s declare.DeclareFinal = Some declare.DeclareFinal

-- in place of a message; an error reply that says no key leaves as it is
abbrev pub leaves : ExitState → Message → Option Message
leaves s (message.Interest i) = option_map (interest_with i) (option_out s.ns s.heads i.wire)
leaves s (message.InterestFinal id) = if has_id id s.interests then None else Some (message.InterestFinal id)
leaves s (message.Declare d) = option_map (declare_with d) (body_leaves s d.body)
leaves s (message.Request r) = option_map (request_with r) (wire_out s.ns s.heads r.wire)
leaves s (message.Response r) = if is_bare_error r then Some (message.Response r) else option_map (response_with r) (wire_out s.ns s.heads r.wire)
leaves s (message.ResponseFinal f) = Some (message.ResponseFinal f)

-- ---- what is kept

-- of a declaration that did not leave: a key's text as the head of its number, a queryable's id; what ends is dropped
abbrev pub body_kept : ExitState → DeclareBody → ExitState
body_kept s (declare.DeclareKeyExpr id w) = record s { heads = with_head id w.suffix s.heads }
body_kept s (declare.UndeclareKeyExpr id) = record s { heads = without_head id s.heads }
body_kept s (declare.DeclareQueryable id w info) = record s { queryables = with_id id s.queryables }
body_kept s (declare.UndeclareQueryable id None) = record s { queryables = without_id id s.queryables }
body_kept s (declare.UndeclareQueryable id (Some w)) = s
body_kept s declare.DeclareFinal = s

-- of a message that did not leave
abbrev pub kept : ExitState → Message → ExitState
kept s (message.Interest i) = record s { interests = with_id i.id s.interests }
kept s (message.InterestFinal id) = record s { interests = without_id id s.interests }
kept s (message.Declare d) = body_kept s d.body
kept s (message.Request r) = s
kept s (message.Response r) = s
kept s (message.ResponseFinal f) = s

-- what leaves changes nothing
abbrev pub after_out : {X : Type 0} → Option X → ExitState → ExitState → ExitState
after_out (Some x) s t = s
after_out None s t = t

-- the exit after a message
abbrev pub after_leaving : ExitState → Message → ExitState
after_leaving s m = after_out (leaves s m) s (kept s m)

-- ---- what is given

-- whether the number or the id that a declaration gives is kept
abbrev pub has_body : ExitState → DeclareBody → Bool
has_body s (declare.DeclareKeyExpr id w) = is_some (head_at id s.heads)
has_body s (declare.UndeclareKeyExpr id) = false
has_body s (declare.DeclareQueryable id w info) = has_id id s.queryables
has_body s (declare.UndeclareQueryable id w) = false
has_body s declare.DeclareFinal = false

-- whether the number or the id that a message gives is kept
abbrev pub has : ExitState → Message → Bool
has s (message.Interest i) = has_id i.id s.interests
has s (message.InterestFinal id) = false
has s (message.Declare d) = has_body s d.body
has s (message.Request r) = false
has s (message.Response r) = false
has s (message.ResponseFinal f) = false

-- whether a declaration gives a number or an id
abbrev pub body_gives : DeclareBody → Bool
body_gives (declare.DeclareKeyExpr id w) = true
body_gives (declare.UndeclareKeyExpr id) = false
body_gives (declare.DeclareQueryable id w info) = true
body_gives (declare.UndeclareQueryable id w) = false
body_gives declare.DeclareFinal = false

-- whether a message gives a number or an id, so that something may have to be kept
abbrev pub gives : Message → Bool
gives (message.Interest i) = true
gives (message.InterestFinal id) = false
gives (message.Declare d) = body_gives d.body
gives (message.Request r) = false
gives (message.Response r) = false
gives (message.ResponseFinal f) = false
