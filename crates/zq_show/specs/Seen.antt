-- What is kept beside the gateway of a run, call by call: what decides of a request, and the hats do not show.
use Rattle.std.specs.Prelude.{ℕ, true, false, List, [], Option, Some, None, if◌then◌else◌, fold, unwrap_or}
use Rattle.std.specs.Option.{option_and_then, option_map, option_map_or}
use Rattle.std.specs.Map.{keys_of, remove_entry, set_value}
use Rattle.std.specs.BTreeMap.{insert_entry, is_at}
use Rattle.std.specs.Ordering.{nat_cmp}
use Rattle.zq_key.specs.Key.{is_key}
use Rattle.zq_message.specs.RegionMap.{with_entry}
use Rattle.zq_message.specs.declared.message.DeclareBody.{DeclareBody}
use Rattle.zq_message.specs.declared.message.DeclareBody.TheVariants as body
use Rattle.zq_message.specs.declared.message.FaceId.{FaceId}
use Rattle.zq_message.specs.declared.message.Message.{Message}
use Rattle.zq_message.specs.declared.message.Message.TheVariants as message
use Rattle.zq_message.specs.declared.message.QueryableInfoType.{QueryableInfoType}
use Rattle.zq_message.specs.declared.message.WireExpr.{WireExpr}
use Rattle.zq_index.specs.Holders.{IndexBy, held_at, with_holding_by, without_holding_by}
use Rattle.zq_strategy.specs.Kept.{declaration_at}
use Rattle.zq_strategy.specs.State.{HatState}
use Rattle.zq_route.specs.declared.gateways.Gateways.{Gateways}
use Rattle.zq_tables.specs.declared.resolved.Resolved.{Resolved}
use Rattle.zq_tables.specs.declared.resolved.Resolved.TheVariants as said
use Rattle.zq_tables.specs.FaceTexts.{declared_key}
use Rattle.zq_tables.specs.Naming.{NamingState, change_naming, closed_naming, declare_refusal, face_naming, no_naming, opened_naming, said_of, with_name, with_told_number, without_name}
use Rattle.zq_machine.specs.declared.call.Call.{Call}
use Rattle.zq_machine.specs.declared.call.Call.TheVariants as call
use Rattle.zq_machine.specs.declared.call.Opening.{Opening}
use Rattle.zq_machine.specs.declared.call.Outcome.{Outcome}
use Rattle.zq_machine.specs.declared.call.Outcome.TheVariants as outcome
use Rattle.zq_machine.specs.declared.call.Step.{Step}
use Rattle.zq_machine.specs.declared.face.OpenFace.{OpenFace}
use Rattle.zq_machine.specs.Deciding.{opened}
use Rattle.zq_machine.specs.Gates.{Gates, entered_by, gate_at, gate_for, is_sound, space_of, with_gate}
use Rattle.zq_machine.specs.Handing.{Handed}
use Rattle.zq_machine.specs.Selecting.{full_text}
use Rattle.zq_machine.specs.State.{at, hat_at, is_region}
use Rattle.zq_egress.specs.Exits.{without_gate}
use Rattle.zq_show.specs.Answer.{is_refused}

-- the ids of each face's queryables, by their keys
abbrev pub Owned : Type 0
Owned = List (ℕ × IndexBy ℕ)

-- the open faces, the gateways that were listed, the numbers of keys, the gates of faces, and the ids of each face's queryables
pub record SeenState : Type 0 where
  pub faces : List (ℕ × OpenFace)
  pub lists : List (ℕ × Gateways)
  pub names : NamingState
  pub gates : Gates
  pub owned : Owned

-- before any call
abbrev pub no_faces : SeenState
no_faces = record { faces = []; lists = []; names = no_naming; gates = []; owned = [] }

-- what an expression says that a face sends, behind its namespace
abbrev pub said_in : NamingState → Gates → FaceId → WireExpr → Resolved
said_in names gates face w = said_of (face_naming face.0 names) (entered_by (space_of (gate_at face.0 gates)) w)

-- the text that is said in full, where there is one
abbrev pub key_in_full : Resolved → Option (List ℕ)
key_in_full said.Unscoped = None
key_in_full said.Empty = None
key_in_full (said.Full text) = Some text

-- the hat of an open face
abbrev pub hat_by : List (ℕ × HatState) → List (ℕ × OpenFace) → ℕ → Option HatState
hat_by hats faces face = option_and_then (λ (o : OpenFace). hat_at o.region hats) (at face faces)

-- the key that a face declared under an id
abbrev pub key_by : List (ℕ × HatState) → List (ℕ × OpenFace) → ℕ → ℕ → Option (List ℕ)
key_by hats faces face id = option_map (λ d. d.key) (option_and_then (declaration_at face id) (hat_by hats faces face))

-- the key of the queryable that a call withdraws, if it withdraws one
abbrev pub withdrawn : List (ℕ × HatState) → List (ℕ × OpenFace) → Call → Option (List ℕ)
withdrawn hats faces (call.UndeclareQueryable face id wire node) = key_by hats faces face.0 id
withdrawn hats faces _ = None

-- a face that was opened joins the others
abbrev pub with_opened : Outcome → Opening → List (ℕ × OpenFace) → List (ℕ × OpenFace)
with_opened (outcome.Opened face) o faces = insert_entry nat_cmp faces face.0 (opened o)
with_opened _ o faces = faces

-- the open faces after a call that was not refused
abbrev pub faces_after : Outcome → Call → List (ℕ × OpenFace) → List (ℕ × OpenFace)
faces_after o (call.Open opening) faces = with_opened o opening faces
faces_after o (call.Close face) faces = remove_entry (is_at (nat_cmp face.0)) faces
faces_after o _ faces = faces

-- the gateways that are listed after a call that was not refused
abbrev pub lists_after : Call → List (ℕ × Gateways) → List (ℕ × Gateways)
lists_after (call.SetGateways region table) lists = if is_region region then with_entry lists region table else lists
lists_after _ lists = lists

-- the gate of a face that was opened joins the others
abbrev pub with_opened_gate : Outcome → Opening → Gates → Gates
with_opened_gate (outcome.Opened face) o gates = if is_sound o then with_gate face.0 (gate_for o) gates else gates
with_opened_gate _ o gates = gates

-- the gates after a call that was not refused
abbrev pub gates_after : Outcome → Call → Gates → Gates
gates_after o (call.Open opening) gates = with_opened_gate o opening gates
gates_after o (call.Close face) gates = without_gate face.0 gates
gates_after o _ gates = gates

-- the face declares a number for a text, where it can
abbrev pub named : ℕ → ℕ → List ℕ → NamingState → NamingState
named face id text names = option_map_or (λ _. names) (declare_refusal id text (face_naming face names)) (change_naming face (with_name id text) names)

-- a face that was opened has no numbers
abbrev pub with_opened_names : Outcome → NamingState → NamingState
with_opened_names (outcome.Opened face) names = opened_naming face.0 names
with_opened_names _ names = names

-- the numbers after a call that was not refused, but for those that the gateway gives
abbrev pub names_after : Gates → Outcome → Call → NamingState → NamingState
names_after gates o (call.Open opening) names = with_opened_names o names
names_after gates o (call.Close face) names = closed_naming face.0 names
names_after gates o (call.DeclareKeyExpr face id wire) names = named face.0 id (full_text (said_in names gates face wire)) names
names_after gates o (call.UndeclareKeyExpr face id) names = change_naming face.0 (without_name id) names
names_after gates o _ names = names

-- the key for which a declaration gives a number
abbrev pub key_in : DeclareBody → Option (List ℕ)
key_in (body.DeclareKeyExpr id wire) = Some wire.suffix
key_in _ = None

-- the key for which a message gives a number
abbrev pub told_key : Message → Option (List ℕ)
told_key (message.Declare d) = key_in d.body
told_key _ = None

-- the gateway gives a face a number for a key
abbrev pub with_given : ℕ → NamingState → List ℕ → NamingState
with_given face names text = change_naming face (with_told_number text (declared_key (face_naming face names) false true text).declared) names

-- the number that the gateway gives a face for a text, if it is a key
abbrev pub with_number : ℕ → NamingState → List ℕ → NamingState
with_number face names text = if is_key text then with_given face names text else names

-- the number that a message gives, if it gives one
abbrev pub with_told : NamingState → Handed → NamingState
with_told names h = option_map_or (with_number h.to.0 names) (told_key h.message) names

-- what a face holds is changed, where the face is there
abbrev pub put_held : ℕ → (IndexBy ℕ → IndexBy ℕ) → Owned → Owned
put_held face f owned = option_map_or (λ held. set_value (is_at (nat_cmp face)) owned (f held)) (at face owned) owned

-- a face's queryable stands under an id, where it is known under which key
abbrev pub held_with : ℕ → ℕ → QueryableInfoType → Option (List ℕ) → Owned → Owned
held_with face id info key owned = option_map_or (λ k. put_held face (with_holding_by nat_cmp k id info) owned) key owned

-- a face's queryable stands under an id no more
abbrev pub held_without : ℕ → ℕ → Option (List ℕ) → Owned → Owned
held_without face id key owned = option_map_or (λ k. put_held face (without_holding_by nat_cmp k id) owned) key owned

-- a face that was opened has no queryables
abbrev pub with_opened_owner : Outcome → Owned → Owned
with_opened_owner (outcome.Opened face) owned = insert_entry nat_cmp owned face.0 []
with_opened_owner _ owned = owned

-- the ids of queryables after a call that was not refused, by the hats after it and the key of the one that it withdraws
abbrev pub owned_after : List (ℕ × HatState) → List (ℕ × OpenFace) → Option (List ℕ) → Outcome → Call → Owned → Owned
owned_after hats faces key o (call.Open opening) owned = with_opened_owner o owned
owned_after hats faces key o (call.Close face) owned = remove_entry (is_at (nat_cmp face.0)) owned
owned_after hats faces key o (call.DeclareQueryable face id wire info node) owned = held_with face.0 id info (key_by hats faces face.0 id) owned
owned_after hats faces key o (call.UndeclareQueryable face id wire node) owned = held_without face.0 id key owned
owned_after hats faces key o _ owned = owned

-- what is seen after a call that was not refused
abbrev pub seen_after : List (ℕ × HatState) → Option (List ℕ) → Call → Step → SeenState → SeenState
seen_after hats gone c t s =
    record {
      faces = faces_after t.outcome c s.faces;
      lists = lists_after c s.lists;
      names = fold with_told (names_after s.gates t.outcome c s.names) t.handed;
      gates = gates_after t.outcome c s.gates;
      owned = owned_after hats s.faces gone t.outcome c s.owned;
    }

-- what is seen after a call
abbrev pub noticed : List (ℕ × HatState) → Option (List ℕ) → Call → Step → SeenState → SeenState
noticed hats gone c t s = if is_refused t.outcome then s else seen_after hats gone c t s

-- the ids under which a face declared a key
abbrev pub ids_on : ℕ → List ℕ → Owned → List ℕ
ids_on face key owned = keys_of (held_at key (unwrap_or (at face owned) []))
