-- For the bodies, how a call goes through the gates: one that is no request is answered as they let out what it hands; and of a call that tells nothing each message goes by itself.
use Rattle.std.proofs.Common.{◌≡◌, ◌∙◌, refl, sym, ap, false, List, [], ◌∷◌, None, append-nil}
use Rattle.std.specs.List.{AllByRecursion}
use Rattle.zq_tables.specs.Naming.{NamingState}
use Rattle.zq_machine.specs.Deciding.{granted, refusal_of, regated, told_of}
use Rattle.zq_machine.specs.Gates.{IsWhole, Out, leave_all}
use Rattle.zq_machine.specs.Headline.{asks}
use Rattle.zq_machine.specs.Machine.{accepted_state, answer, asked_text, follow, going_out, handing, settle}
use Rattle.zq_machine.specs.declared.call.Step.{Step}
use Rattle.zq_machine.specs.Messages.{TextMessage, text_final, text_reply, text_request}
use Rattle.zq_machine.specs.State.{State}
use Rattle.zq_machine.specs.TextCalls.{TextCall}
use Rattle.zq_machine.specs.Writing.{unsent, write}
use Rattle.zq_machine.proofs.Asks.{is_asking}
use Rattle.zq_machine.proofs.GoingOut.{any_out, none_unsent, plain_out, written_plain}
use Rattle.zq_machine.proofs.Granted.{granted_is_accepted, none_asked, plainly}
use Rattle.zq_machine.proofs.Writing.{answered_by, answers_granted, gated, gone_out, let_go, plain_answer, plain_settle, settled_by, settles_granted, with_finals}

-- ---- a call that is no request
module _ (s : State) (t : TextCall) (quiet : is_asking t ≡ false) where
  all_sent : unsent (going_out s t).handed ≡ []
  all_sent = none_unsent (going_out s t).handed (any_out (asked_text t) asks (λ h left. refl) (handing s t) (follow s t).gates ∙ none_asked s t quiet)

  pub quiet_answer : answer s t ≡ gone_out (asked_text t) (plain_answer s t) (plain_settle s t)
  quiet_answer =
      (λ j. with_finals (all_sent j) (gone_out (asked_text t) (plain_answer s t) (plain_settle s t)) (gated (asked_text t) (plain_answer s t) (plain_settle s t)))
      ∙ ap (λ hs. record (plain_answer s t) { handed = hs }) (append-nil (going_out s t).handed)

  pub quiet_settle : settle s t ≡ gated (asked_text t) (plain_answer s t) (plain_settle s t)
  quiet_settle = λ j. let_go (all_sent j) (gated (asked_text t) (plain_answer s t) (plain_settle s t))

-- ---- before the gates all leaves
pub written_whole : (names : NamingState) (ms : List TextMessage) → AllByRecursion IsWhole (write names ms)
written_whole names [] = tt
written_whole names (text_request r ∷ ms) = (refl, written_whole names ms)
written_whole names (text_reply r ∷ ms) = (refl, written_whole names ms)
written_whole names (text_final f ∷ ms) = (refl, written_whole names ms)

-- ---- a call that nothing refuses and that tells nothing: its messages go through the gates, each by itself
module _ (s : State) (t : TextCall) (none : told_of s.core t ≡ []) (fits : refusal_of s.core t ≡ None) where
  abbrev messages_out : Step
  messages_out = plainly s.names (granted s.core t) (asked_text t) (regated s t)

  abbrev as_step : Out → Step
  as_step o = record { outcome = (granted s.core t).outcome; handed = o.handed }

  abbrev as_state : Out → State
  as_state o = record (accepted_state s t) { gates = o.gates }

  goes_plainly : leave_all (asked_text t) (write s.names (granted s.core t).messages) (regated s t) ≡ record { handed = messages_out.handed; gates = regated s t }
  goes_plainly = plain_out (asked_text t) (regated s t) (write s.names (granted s.core t).messages) (written_plain s.names (granted s.core t).messages)

  before : ◌≡◌ {A = Step} (record { outcome = (granted s.core t).outcome; handed = write s.names (granted s.core t).messages }) (plain_answer s t)
  before = answers_granted s t (write s.names (granted s.core t).messages) none fits refl

  left : plain_settle s t ≡ accepted_state s t
  left = settles_granted s t none fits (granted_is_accepted s.core t fits)

  pub plain_goes : answer s t ≡ with_finals (unsent messages_out.handed) messages_out (accepted_state s t)
  plain_goes =
      (λ j. answered_by (asked_text t) (sym before j) (left j))
      ∙ ap (λ (o : Out). with_finals (unsent o.handed) (as_step o) (as_state o)) goes_plainly

  pub plain_leaves : settle s t ≡ let_go (unsent messages_out.handed) (accepted_state s t)
  plain_leaves =
      (λ j. settled_by (asked_text t) (sym before j) (left j))
      ∙ ap (λ (o : Out). let_go (unsent o.handed) (as_state o)) goes_plainly
