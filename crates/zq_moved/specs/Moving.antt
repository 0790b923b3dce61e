-- Calls as faces in one namespace would make them: which calls can be moved there, and the moved calls.
use Rattle.std.specs.Prelude.{ℕ, Bool, true, false, not, ◌&&◌, ◌||◌, ◌==◌, List, map, Option, Some, None, if◌then◌else◌}
use Rattle.std.specs.List.{list_all}
use Rattle.std.specs.Option.{option_map_or}
use Rattle.zq_key.specs.Space.{behind}
use Rattle.zq_message.specs.declared.message.Response.{Response}
use Rattle.zq_message.specs.declared.message.WireExpr.{WireExpr}
use Rattle.zq_strategy.specs.declared.types.FinalMark.{FinalMark}
use Rattle.zq_strategy.specs.declared.types.FinalMark.TheVariants as mark
use Rattle.zq_strategy.specs.Moved.{move_mark}
use Rattle.zq_namespace.specs.Entry.{is_bare_error}
use Rattle.zq_namespace.specs.Exit.{is_receiver}
use Rattle.zq_machine.specs.declared.call.Opening.{Opening}
use Rattle.zq_machine.specs.declared.call.Call.{Call}
use Rattle.zq_machine.specs.declared.call.Call.TheVariants as call
use Rattle.zq_machine.specs.Calls.{is_absent}
use Rattle.zq_machine.specs.Hearing.{has_text}

-- ---- what can be moved

-- an expression writes a text, or has a number of the face that sends it
abbrev pub can_move_wire : WireExpr → Bool
can_move_wire w = if w.scope == 0 then has_text w.suffix else not (is_receiver w.mapping)

-- an expression that need not be there
abbrev pub can_move_option : Option WireExpr → Bool
can_move_option w = option_map_or can_move_wire w true

-- the expression of a reply; that of an error may be empty
abbrev pub can_move_reply : Response → Bool
can_move_reply r = is_bare_error r || can_move_wire r.wire

-- a mark has a text that is not empty, or none
abbrev pub can_move_mark : FinalMark → Bool
can_move_mark mark.Initial = true
can_move_mark (mark.Key text) = has_text text

-- a face is opened in no namespace, and its deny lists have no empty text
abbrev pub can_move_opening : Opening → Bool
can_move_opening o = is_absent o.namespace && list_all has_text o.entry_deny && list_all has_text o.exit_deny

-- a call has none of what does not go into a namespace
abbrev pub can_move_call : Call → Bool
can_move_call (call.Open o) = can_move_opening o
can_move_call (call.DeclareKeyExpr face id wire) = can_move_wire wire
can_move_call (call.DeclareQueryable face id wire info node) = can_move_wire wire
can_move_call (call.UndeclareQueryable face id wire node) = can_move_option wire
can_move_call (call.Request face r now) = can_move_wire r.wire
can_move_call (call.Response face r) = can_move_reply r
can_move_call (call.FinalizeInterest face m set) = can_move_mark m
can_move_call (call.Interest face id keys aggregate wire) = can_move_option wire
can_move_call c = true

-- the same of all calls
abbrev pub can_move : List Call → Bool
can_move calls = list_all can_move_call calls

-- ---- what is moved

-- an opening in the namespace, with the texts of its deny lists behind it
abbrev pub moved_opening : List ℕ → Opening → Opening
moved_opening n o = record o { namespace = Some n; entry_deny = map (behind n) o.entry_deny; exit_deny = map (behind n) o.exit_deny }

-- a call: faces are opened in the namespace, and marks go behind it; what faces write stays as it is
abbrev pub moved_call : List ℕ → Call → Call
moved_call n (call.Open o) = call.Open (moved_opening n o)
moved_call n (call.FinalizeInterest face m set) = call.FinalizeInterest face (move_mark (behind n) m) set
moved_call n c = c

-- the call is of a queryable
abbrev pub is_queryable : Call → Bool
is_queryable (call.DeclareQueryable face id wire info node) = true
is_queryable (call.UndeclareQueryable face id wire node) = true
is_queryable c = false

-- the call declares something or asks to hear, or ends that
abbrev pub is_declaring : Call → Bool
is_declaring (call.DeclareKeyExpr face id wire) = true
is_declaring (call.UndeclareKeyExpr face id) = true
is_declaring (call.Interest face id keys aggregate wire) = true
is_declaring (call.InterestFinal face id) = true
is_declaring c = is_queryable c

-- the call is the same in a namespace
abbrev pub is_copied : Call → Bool
is_copied (call.Open o) = false
is_copied (call.FinalizeInterest face m set) = false
is_copied c = true

-- the same calls in the namespace
abbrev pub moved : List ℕ → List Call → List Call
moved n calls = map (moved_call n) calls

-- ---- faces that are in namespaces of their own

-- a namespace of a face under a prefix, or the prefix where it has none
abbrev pub space_under : List ℕ → Option (List ℕ) → List ℕ
space_under n None = n
space_under n (Some m) = behind n m

-- an opening under the prefix, with the texts of its deny lists behind it
abbrev pub opening_under : List ℕ → Opening → Opening
opening_under n o = record o { namespace = Some (space_under n o.namespace); entry_deny = map (behind n) o.entry_deny; exit_deny = map (behind n) o.exit_deny }

-- a call under the prefix
abbrev pub call_under : List ℕ → Call → Call
call_under n (call.Open o) = call.Open (opening_under n o)
call_under n (call.FinalizeInterest face m set) = call.FinalizeInterest face (move_mark (behind n) m) set
call_under n c = c

-- the same calls under the prefix
abbrev pub moved_under : List ℕ → List Call → List Call
moved_under n calls = map (call_under n) calls
