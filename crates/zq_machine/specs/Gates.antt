-- Gates: a face that was opened with a namespace or with deny lists has one. By it what the face says is read, it may not ask for some keys, and not all that it is handed leaves as it is.
use Rattle.std.specs.Prelude.{◌≡◌, ℕ, Bool, true, false, ◌&&◌, List, [], ◌∷◌, fold, Option, Some, None, if◌then◌else◌, is_none}
use Rattle.std.specs.BTreeMap.{insert_entry, is_at}
use Rattle.std.specs.List.{list_all}
use Rattle.std.specs.Map.{lookup, set_value}
use Rattle.std.specs.Option.{option_and_then, option_map, option_map_or}
use Rattle.std.specs.Ordering.{nat_cmp}
use Rattle.zq_key.specs.Key.{is_key, is_plain}
use Rattle.zq_message.specs.declared.message.DeclareBody.{DeclareBody}
use Rattle.zq_message.specs.declared.message.DeclareBody.TheVariants as body
use Rattle.zq_message.specs.declared.message.Message.{Message}
use Rattle.zq_message.specs.declared.message.Message.TheVariants as message
use Rattle.zq_message.specs.declared.message.Response.{Response}
use Rattle.zq_message.specs.declared.message.WireExpr.{WireExpr}
use Rattle.zq_namespace.specs.Denied.{MuxState, mux_kept, mux_leaves, new_mux}
use Rattle.zq_namespace.specs.Entry.{entered, entered_response}
use Rattle.zq_namespace.specs.Leaves.{ExitState, gives}
use Rattle.zq_machine.specs.declared.call.Opening.{Opening}
use Rattle.zq_machine.specs.Calls.{is_plain_opening}
use Rattle.zq_machine.specs.Handing.{Handed}

-- a face's gate: the keys that it may not ask for, and its exit
pub record Gate : Type 0 where
  pub entry : List (List ℕ)
  pub exit : MuxState

-- the gates of the open faces that have one, by face
abbrev pub Gates : Type 0
Gates = List (ℕ × Gate)

-- the gate of a face, if it has one
abbrev pub gate_at : ℕ → Gates → Option Gate
gate_at face gates = lookup (is_at (nat_cmp face)) gates

-- ---- openings

-- a namespace, if there is one, is a plain key
abbrev pub is_space : Option (List ℕ) → Bool
is_space None = true
is_space (Some n) = is_plain n

-- the namespace of an opening is plain, and what it denies are keys
abbrev pub is_sound : Opening → Bool
is_sound o = is_space o.namespace && list_all is_key o.entry_deny && list_all is_key o.exit_deny

-- the gate that a face is opened with; none, where it has neither a namespace nor a deny list
abbrev pub gate_for : Opening → Option Gate
gate_for o = if is_plain_opening o then None else Some (record { entry = o.entry_deny; exit = new_mux o.namespace o.exit_deny })

-- a face joins those with a gate, if it has one
abbrev pub with_gate : ℕ → Option Gate → Gates → Gates
with_gate face None gates = gates
with_gate face (Some g) gates = insert_entry nat_cmp gates face g

-- ---- entry

-- the namespace of an exit, if it has one
abbrev pub space_in : MuxState → Option (List ℕ)
space_in m = option_map (λ (e : ExitState). e.ns) m.space

-- the namespace of a face by its gate, if it has one
abbrev pub space_of : Option Gate → Option (List ℕ)
space_of g = option_and_then (λ (g : Gate). space_in g.exit) g

-- the keys that a face may not ask for, by its gate
abbrev pub denied_by : Option Gate → List (List ℕ)
denied_by g = option_map_or (λ (g : Gate). g.entry) g []

-- the keys that a face is not asked for, by its gate
abbrev pub unasked_by : Option Gate → List (List ℕ)
unasked_by g = option_map_or (λ (g : Gate). g.exit.exit) g []

-- an expression as it is read: behind the namespace of the face that sends it
abbrev pub entered_by : Option (List ℕ) → WireExpr → WireExpr
entered_by None w = w
entered_by (Some n) w = entered n w

-- the expression of a reply as it is read; an error's empty one says no key in any namespace
abbrev pub reply_by : Option (List ℕ) → Response → WireExpr
reply_by None r = r.wire
reply_by (Some n) r = (entered_response n r).wire

-- ---- exit

-- what leaves of a message by a gate, where the text is the whole one that a request is on; all of it without a gate
abbrev pub leaves_by : Option Gate → List ℕ → Message → Option Message
leaves_by None text m = Some m
leaves_by (Some g) text m = mux_leaves g.exit text m

-- what is handed, with what leaves of it
abbrev pub through : List ℕ → Gates → Handed → Handed
through text gates h = record h { leaves = leaves_by (gate_at h.to.0 gates) text h.message }

-- a gate with what its exit keeps of a message that did not leave
abbrev pub kept_by : Message → Gate → Gate
kept_by m g = record g { exit = mux_kept g.exit m }

-- the same at a face, if it has a gate
abbrev pub put_kept : ℕ → Message → Gates → Option Gate → Gates
put_kept face m gates None = gates
put_kept face m gates (Some g) = set_value (is_at (nat_cmp face)) gates (kept_by m g)

-- the same at the face that is handed it
abbrev pub keeping : Handed → Gates → Gates
keeping h gates = put_kept h.to.0 h.message gates (gate_at h.to.0 gates)

-- a number or an id that a message gives is kept where the message did not leave
abbrev pub with_given : Handed → Gates → Gates
with_given h gates = if is_none h.leaves && gives h.message then keeping h gates else gates

-- a declaration ends a number, or a queryable by its id
abbrev pub ends_body : DeclareBody → Bool
ends_body (body.DeclareKeyExpr id w) = false
ends_body (body.UndeclareKeyExpr id) = true
ends_body (body.DeclareQueryable id w info) = false
ends_body (body.UndeclareQueryable id None) = true
ends_body (body.UndeclareQueryable id (Some w)) = false
ends_body body.DeclareFinal = false

-- a message ends a number or an id that was given
abbrev pub ends_given : Message → Bool
ends_given (message.Request r) = false
ends_given (message.Response r) = false
ends_given (message.ResponseFinal f) = false
ends_given (message.Interest i) = false
ends_given (message.InterestFinal i) = true
ends_given (message.Declare d) = ends_body d.body

-- what a message ends is kept no more, where the message did not leave
abbrev pub without_ended : Gates → Handed → Gates
without_ended gates h = if is_none h.leaves && ends_given h.message then keeping h gates else gates

-- all of a message leaves, as it is before the gates
abbrev pub IsWhole : Handed → Type 0
IsWhole h = h.leaves ≡ Some h.message

-- messages with what leaves of them, and the gates then
pub record Out : Type 0 where
  pub handed : List Handed
  pub gates : Gates

-- a message goes first
abbrev pub out_first : Handed → Out → Out
out_first h o = record o { handed = h ∷ o.handed }

-- messages go through the gates of their faces one after another, each by what was kept of those before it
abbrev pub let_out : List ℕ → List Handed → Gates → Out
let_out text [] gates = record { handed = []; gates = gates }
let_out text (h ∷ hs) gates = out_first (through text gates h) (let_out text hs (with_given (through text gates h) gates))

-- once all are through, what they end is kept no more
abbrev pub end_kept : Out → Out
end_kept o = record o { gates = fold without_ended o.gates o.handed }

-- the messages of a call go through the gates of their faces
abbrev pub leave_all : List ℕ → List Handed → Gates → Out
leave_all text hs gates = end_kept (let_out text hs gates)
