-- A call that is no request, tells nothing and is refused by nothing: its messages go out through the gates of their faces, each by itself, and it leaves what it changes itself.
use Rattle.std.proofs.Common.{◌≡◌, ◌∙◌, refl, sym, ap, subst, ℕ, true, false, not, List, [], ◌∷◌, map, fold, Option, None, append-nil, true≢false}
use Rattle.std.specs.List.{All, AllByRecursion, list_any}
use Rattle.std.proofs.lemmas.Bool.{or_parts}
use Rattle.std.proofs.lemmas.List.{map-append}
use Rattle.std.proofs.lemmas.List.Folds.{list_any-append}
use Rattle.zq_message.specs.declared.message.FaceId.{FaceId}
use Rattle.zq_message.specs.declared.message.Message.{Message}
use Rattle.zq_message.specs.declared.message.Message.TheVariants as message
use Rattle.zq_message.specs.declared.message.Response.{Response}
use Rattle.zq_namespace.specs.Denied.{HasKey}
use Rattle.zq_query.specs.declared.records.Final.{Final}
use Rattle.zq_query.specs.Polling.{timeouts}
use Rattle.zq_query.specs.Records.{is_pending, lacks_reply}
use Rattle.zq_tables.specs.declared.resolved.Resolved.{Resolved}
use Rattle.zq_tables.specs.Naming.{NamingState}
use Rattle.zq_machine.specs.declared.call.Refusal.TheVariants as refusal
use Rattle.zq_machine.specs.declared.call.Step.{Step}
use Rattle.zq_machine.specs.Deciding.{first_of, granted, handed_timeouts, passing_finals, refusal_of, regated, told_of}
use Rattle.zq_machine.specs.Gates.{Gates, Out, end_kept, leave_all, let_out, through, without_ended}
use Rattle.zq_machine.specs.Handing.{Handed}
use Rattle.zq_machine.specs.Headline.{asks}
use Rattle.zq_machine.specs.Machine.{accepted_state, answer, asked_text, settle}
use Rattle.zq_machine.specs.Messages.{TextMessage, text_final}
use Rattle.zq_machine.specs.Selecting.{is_unscoped, says_key_or_nothing}
use Rattle.zq_machine.specs.State.{State, is_open}
use Rattle.zq_machine.specs.TextCalls.{TextCall, passing, replying}
use Rattle.zq_machine.specs.Writing.{sent_final, unsent, write, written}
use Rattle.zq_machine.proofs.Asks.{granted_asks, is_asking}
use Rattle.zq_machine.proofs.GoingOut.{any_through, final_through, none_unsent, plain_out, written_plain}
use Rattle.zq_machine.proofs.Ungated.{plain_goes, plain_leaves}
use Rattle.zq_machine.proofs.Writing.{finals_written, let_go, with_finals}
use Rattle.zq_egress.specs.Exits.{HasText, left_by}
use Rattle.zq_egress.specs.declared.exits.Exit.{Exit}
use Rattle.zq_gateway.proofs.Due.{all_from}

module _ (s : State) (t : TextCall) (none : told_of s.core t ≡ []) (quiet : is_asking t ≡ false) where
  -- its messages before the gates, and through them
  abbrev pub messages_in : List Handed
  messages_in = write s.names (granted s.core t).messages

  abbrev pub messages_out : List Handed
  messages_out = map (through (asked_text t) (regated s t)) messages_in

  -- all of its requests leave, for there are none
  all_sent : unsent messages_out ≡ []
  all_sent = none_unsent messages_out (any_through (asked_text t) (regated s t) asks (λ h left. refl) messages_in ∙ granted_asks s.names s.core t quiet)

  abbrev pub its_step : List Handed → Step
  its_step hs = record { outcome = (granted s.core t).outcome; handed = hs }

  module _ (fits : refusal_of s.core t ≡ None) where
    pub quiet_goes : its_step messages_out ≡ answer s t
    quiet_goes = sym (plain_goes s t none fits ∙ (λ j. with_finals (all_sent j) (its_step messages_out) (accepted_state s t)) ∙ ap its_step (append-nil messages_out))

    pub quiet_stays : settle s t ≡ accepted_state s t
    quiet_stays = plain_leaves s t none fits ∙ (λ j. let_go (all_sent j) (accepted_state s t))

    -- finals leave by every gate
    pub finals_go : (fs : List Final) → (granted s.core t).messages ≡ map text_final fs → its_step (map sent_final fs) ≡ answer s t
    finals_go fs are = ap its_step (sym (ap (λ ms. map (through (asked_text t) (regated s t)) (write s.names ms)) are ∙ ap (map (through (asked_text t) (regated s t))) (finals_written s.names fs) ∙ each fs)) ∙ quiet_goes
      where
        each : (gs : List Final) → map (through (asked_text t) (regated s t)) (map sent_final gs) ≡ map sent_final gs
        each [] = refl
        each (g ∷ gs) = λ j. final_through (asked_text t) (regated s t) g j ∷ each gs j

-- what is no request needs no text
no_text : (text : List ℕ) (to : FaceId) (number reply : Option ℕ) (m : Message) (left : Option Message) → asks (record { to = to; number = number; reply = reply; message = m; leaves = left }) ≡ false → HasKey text m
no_text text to number reply (message.Request r) left none = absurd (true≢false none)
no_text text to number reply (message.Response r) left none = tt
no_text text to number reply (message.ResponseFinal f) left none = tt
no_text text to number reply (message.Interest i) left none = tt
no_text text to number reply (message.InterestFinal i) left none = tt
no_text text to number reply (message.Declare d) left none = tt

pub need_no_text : (text : List ℕ) (hs : List Handed) → list_any asks hs ≡ false → All (HasText text) hs
need_no_text text hs none = all_from (HasText text) hs (by hs none)
  where
    by : (ks : List Handed) → list_any asks ks ≡ false → AllByRecursion (HasText text) ks
    by [] f = tt
    by (k ∷ ks) f = let p = or_parts (asks k) (list_any asks ks) f in (no_text text k.to k.number k.reply k.message k.leaves p.0, by ks p.1)

-- messages of requests, replies and finals are through the gates, which stay as they are
module _ (text : List ℕ) (gates : Gates) where
  all_plain : (hs : List Handed) (names : NamingState) (ms : List TextMessage) → hs ≡ write names ms → leave_all text hs gates ≡ record { handed = map (through text gates) hs; gates = gates }
  all_plain hs names ms are = subst (λ l. leave_all text l gates ≡ record { handed = map (through text gates) l; gates = gates }) (sym are) (plain_out text gates (write names ms) (written_plain names ms))

  pub passed : (new : Gates) (hs ks : List Handed) (es : List Exit) (names : NamingState) (ms : List TextMessage) → hs ≡ write names ms → ks ≡ hs → let_out text ks gates ≡ record { handed = left_by es ks; gates = new }
      → ◌≡◌ {A = Out} (record { handed = left_by es hs; gates = fold without_ended new (left_by es hs) }) (record { handed = map (through text gates) hs; gates = gates })
  passed new hs ks es names ms are same out =
      ap end_kept (sym (subst (λ l. let_out text l gates ≡ record { handed = left_by es l; gates = new }) same out)) ∙ all_plain hs names ms are

-- ---- a moment that has come
pub passing_asks : (now : ℕ) → is_asking (passing now) ≡ false
unfolding is_asking
passing_asks now = refl

-- error replies are no requests
pub timeouts_ask : (s : State) (now : ℕ) → list_any asks (write s.names (handed_timeouts s.core.faces (timeouts now s.core.queries))) ≡ false
timeouts_ask s now =
    let late = handed_timeouts s.core.faces (timeouts now s.core.queries) in
    let finals = map text_final (passing_finals now s.core.queries) in
    (or_parts (list_any asks (write s.names late)) (list_any asks (write s.names finals))
    (sym (ap (list_any asks) (map-append (written s.names) late finals) ∙ list_any-append asks (write s.names late) (write s.names finals)) ∙ granted_asks s.names s.core (passing now) (passing_asks now))).0

-- ---- a reply
pub replying_asks : (face : FaceId) (sd : Resolved) (r : Response) → is_asking (replying face sd r) ≡ false
unfolding is_asking
replying_asks face sd r = refl

pub replying_fits : (s : State) (face : FaceId) (sd : Resolved) (r : Response) → is_open face.0 s.core ≡ true → is_unscoped sd ≡ false → is_pending face.0 r.rid s.core.queries.records ≡ true → says_key_or_nothing sd ≡ true → lacks_reply face.0 r.rid s.core.queries ≡ false
    → refusal_of s.core (replying face sd r) ≡ None
replying_fits s face sd r opens scoped there says enough = λ j.
    first_of ((not (opens j), refusal.UnknownFace) ∷ (scoped j, refusal.UnknownScope) ∷ (not (there j), refusal.QueryNotFound) ∷ (not (says j), refusal.InvalidKeyExpr) ∷ (enough j, refusal.NoFreeId) ∷ [])
