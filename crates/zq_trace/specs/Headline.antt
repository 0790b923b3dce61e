-- The headline, said of a trace alone: of a configuration, a list of calls and the list of their steps.
use Rattle.std.specs.Prelude.{◌≡◌, ℕ, ◌==◌, Bool, false, ◌||◌, List, [], ◌++◌, map, Option, if◌then◌else◌}
use Rattle.std.specs.List.{filter, list_any}
use Rattle.std.specs.Option.{is_some, option_and_then, option_map, option_map_or}
use Rattle.zq_message.specs.declared.message.Message.{Message}
use Rattle.zq_message.specs.declared.message.Message.TheVariants as message
use Rattle.zq_query.specs.declared.records.Final.{Final}
use Rattle.zq_machine.specs.declared.call.Call.{Call}
use Rattle.zq_machine.specs.declared.call.Call.TheVariants as call
use Rattle.zq_machine.specs.declared.call.Outcome.{Outcome}
use Rattle.zq_machine.specs.declared.call.Outcome.TheVariants as outcome
use Rattle.zq_machine.specs.declared.call.Step.{Step}
use Rattle.zq_machine.specs.Handing.{Handed}
use Rattle.zq_machine.specs.Configs.{Settings}
use Rattle.zq_machine.specs.Deciding.{is_accepted}
use Rattle.zq_trace.specs.Faces.{EachCall, Trace}
use Rattle.zq_trace.specs.Awaited.{next_reply, owner}
use Rattle.zq_trace.specs.Expected.{finals_of, if_open, next_request, replies_of, requests_of, shown}
use Rattle.zq_trace.specs.Refusals.{Lacks, next_face, refusal_of}

-- the number under which a reply is accepted: none if its asker is closed
abbrev pub reply_number : Settings → Trace → Option Final → Option ℕ
reply_number config past f = option_map (λ (f : Final). next_reply config past) (option_and_then (if_open past) f)

-- what an accepted call is answered
abbrev pub granted : Settings → Trace → Call → Outcome
granted config past (call.Open x) = outcome.Opened (record { 0 = next_face config past })
granted config past (call.Request face r now) = outcome.Asked (next_request config past)
granted config past (call.Response face r) = outcome.Replied (reply_number config past (owner config past face.0 r.rid))
granted config past c = outcome.Done

-- what a call is answered: the first cause that holds refuses it
abbrev pub answer : Lacks → Settings → Trace → Call → Outcome
answer lacks config past c = option_map_or (λ r. outcome.Refused r) (refusal_of lacks config past c) (granted config past c)

-- a refused call hands nothing
abbrev pub if_accepted : {X : Type 0} → Step → List X → List X
if_accepted t xs = if is_accepted t.outcome then xs else []

-- the kinds of messages, in the order in which a call hands them
abbrev pub kind : Message → ℕ
kind (message.Request r) = 0
kind (message.Response r) = 1
kind (message.ResponseFinal f) = 2
kind m = 3

-- the messages of a kind
abbrev pub of_kind : ℕ → List Handed → List Handed
of_kind k hs = filter (λ (h : Handed). kind h.message == k) hs

-- it has the number of a request, or of a reply
abbrev pub is_numbered : Handed → Bool
is_numbered h = is_some h.number || is_some h.reply

-- what one call of a trace keeps: it is answered what it has to be; it hands these requests, these replies and these finals, in this order, and then declarations, which have no number; and nothing, where it is refused
pub record CallHeadline (lacks : Lacks) (config : Settings) (past : Trace) (c : Call) (t : Step) : Type 0 where
  pub answered : t.outcome ≡ answer lacks config past c
  pub requests : map (shown past) (of_kind 0 t.handed) ≡ if_accepted t (requests_of config past c)
  pub replies : map (shown past) (of_kind 1 t.handed) ≡ if_accepted t (replies_of config past c)
  pub finals : map (shown past) (of_kind 2 t.handed) ≡ if_accepted t (finals_of config past c t)
  pub ordered : of_kind 0 t.handed ++ of_kind 1 t.handed ++ of_kind 2 t.handed ++ of_kind 3 t.handed ≡ t.handed
  pub apart : list_any is_numbered (of_kind 3 t.handed) ≡ false
  pub silent : is_accepted t.outcome ≡ false → t.handed ≡ []

-- each call keeps it, behind those before
abbrev pub HeadlineFrom : Lacks → Settings → Trace → List Call → List Step → Type 0
HeadlineFrom lacks config = EachCall (CallHeadline lacks config)

-- the headline
abbrev pub Headline : Lacks → Settings → List Call → List Step → Type 0
Headline lacks config calls steps = HeadlineFrom lacks config [] calls steps
