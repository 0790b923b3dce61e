-- A call before the gates of faces is answered its messages one by one, with what faces are told behind them, and leaves what it changes itself, with the numbers that were told; and so it goes through the gates.
use Rattle.std.proofs.Common.{◌≡◌, ℕ, true, false, cond, List, [], ◌∷◌, ◌++◌, map, Option, Some, None, refl, sym, ap, ◌∙◌, append-nil, arith}
use Rattle.std.specs.Prelude.{not, ◌+◌}
use Rattle.zq_query.specs.Balance.{finals_under, owed_by}
use Rattle.zq_query.specs.Records.{any_over}
use Rattle.zq_query.proofs.Balance.{letting_balance, letting_none_over}
use Rattle.std.specs.Option.{is_some, option_map}
use Rattle.zq_message.specs.declared.message.FaceId.{FaceId}
use Rattle.zq_message.specs.declared.message.Region.{Region}
use Rattle.zq_message.specs.declared.message.Request.{Request}
use Rattle.zq_query.specs.Asking.{lacks_number}
use Rattle.zq_tables.specs.declared.resolved.Resolved.{Resolved}
use Rattle.zq_machine.specs.declared.face.OpenFace.{OpenFace}
use Rattle.zq_machine.specs.Selecting.{select_for, target_of}
use Rattle.zq_key.proofs.Naturals.{map-map}
use Rattle.zq_query.specs.declared.records.Final.{Final}
use Rattle.zq_query.specs.Polling.{timeouts, lacks_replies}
use Rattle.zq_tables.specs.Naming.{NamingState}
use Rattle.zq_machine.specs.Handing.{Handed}
use Rattle.zq_machine.specs.declared.call.Refusal.TheVariants as refusal
use Rattle.zq_machine.specs.declared.call.Step.{Step}
use Rattle.zq_machine.specs.Messages.{Decided, text_final}
use Rattle.zq_machine.specs.State.{Core, State, at, face_region, region_in}
use Rattle.zq_machine.specs.TextCalls.{TextCall, asking, closing, passing}
use Rattle.zq_machine.specs.Deciding.{answered, decide, granted, is_accepted, refusal_of, told_of}
use Rattle.zq_machine.specs.Machine.{accepted_state, answer, asked_text, follow, going_out, handing, settle, telling}
use Rattle.zq_machine.specs.Writing.{Place, Told, finish, is_unsent, sent_final, tell, unsent, without_unsent, write, written}
use Rattle.zq_machine.specs.Gates.{leave_all, let_out}

-- ---- what is decided, with what is told
-- the messages of a step one by one, by the old numbers, and what is told behind them
abbrev pub fully : NamingState → Told → Decided → Step
fully names w d = record { outcome = d.outcome; handed = write names d.messages ++ w.handed }

-- a state with the numbers that were told
abbrev pub with_told : State → Told → State
with_told z w = record z { names = w.names }

-- the state after what is decided, before anything is told
abbrev pub after_decided : State → TextCall → Decided → State
after_decided s t d = cond (is_accepted d.outcome) (accepted_state s t) s

-- what is told after it
abbrev pub told_after : Decided → State → Told
told_after d z = tell z.core d.told z.names

-- ---- a call before the gates of faces
-- its step: all that it hands, as if all of it left
abbrev pub plain_answer : State → TextCall → Step
plain_answer s t = record { outcome = (decide s.core t).outcome; handed = handing s t }

-- the state then: what it changes itself, with the numbers that were told
abbrev pub plain_settle : State → TextCall → State
plain_settle s t = record { core = (follow s t).core; names = (telling s t).names; gates = (follow s t).gates }

-- ---- through the gates
-- a step with what the gates let out
abbrev pub gone_out : List ℕ → Step → State → Step
gone_out text z w = record z { handed = (let_out text z.handed w.gates).handed }

-- the state with what the gates keep of it
abbrev pub gated : List ℕ → Step → State → State
gated text z w = record w { gates = (leave_all text z.handed w.gates).gates }

-- a step with the finals of requests that did not leave
abbrev pub with_finals : List Place → Step → State → Step
with_finals places z w = record z { handed = z.handed ++ map sent_final (finish w.core places).finals }

-- the state without these
abbrev pub let_go : List Place → State → State
let_go places w = record w { core = (finish w.core places).core }

-- both, of a plain step and its state
abbrev pub answered_by : List ℕ → Step → State → Step
answered_by text z w = with_finals (unsent (gone_out text z w).handed) (gone_out text z w) (gated text z w)

abbrev pub settled_by : List ℕ → Step → State → State
settled_by text z w = let_go (unsent (gone_out text z w).handed) (gated text z w)

-- so a call is answered, and this is the state then
pub answers_out : (s : State) (t : TextCall) → answer s t ≡ answered_by (asked_text t) (plain_answer s t) (plain_settle s t)
answers_out s t = refl

pub settles_out : (s : State) (t : TextCall) → settle s t ≡ settled_by (asked_text t) (plain_answer s t) (plain_settle s t)
settles_out s t = refl

-- what does not look at records of requests is changed by the call itself alone
pub finished_view : {X : Type 0} (view : Core → X) → ((places : List Place) (c : Core) → view (without_unsent places c) ≡ view c) → (c : Core) (places : List Place) → view (finish c places).core ≡ view c
finished_view view same c [] = refl
finished_view view same c (p ∷ places) = same (p ∷ places) c

pub settles_view : {X : Type 0} (view : Core → X) → ((places : List Place) (c : Core) → view (without_unsent places c) ≡ view c) → (s : State) (t : TextCall) → view (settle s t).core ≡ view (follow s t).core
settles_view view same s t = finished_view view same (follow s t).core (unsent (going_out s t).handed)

-- ---- what does not leave keeps the balance
-- the finals of what did not leave, and those that are still to come, are those that were to come
pub finish_balance : (n : ℕ) (c : Core) (places : List Place) → finals_under n (finish c places).finals + owed_by c.queries.closed n (finish c places).core.queries.records ≡ owed_by c.queries.closed n c.queries.records
finish_balance n c [] = omega arith
finish_balance n c (p ∷ ps) = letting_balance c.queries.closed n (is_unsent (p ∷ ps)) c.queries.records

-- and no record is left with nothing
pub finish_standing : (c : Core) (places : List Place) → any_over c.queries.records ≡ false → any_over (finish c places).core.queries.records ≡ false
finish_standing c [] standing = standing
finish_standing c (p ∷ ps) standing = letting_none_over (is_unsent (p ∷ ps)) c.queries.records

-- ---- finals are written as they are, whatever the numbers
pub finals_written : (names : NamingState) (fs : List Final) → write names (map text_final fs) ≡ map sent_final fs
finals_written names fs = map-map text_final (written names) sent_final (λ f. refl) fs

-- ---- for the bodies: what is answered and left before the gates where nothing refuses a call that tells nothing
-- the messages of a step one by one
abbrev pub plainly : NamingState → Decided → Step
plainly names d = record { outcome = d.outcome; handed = write names d.messages }

pub answers_granted : (s : State) (t : TextCall) (handed : List Handed) → told_of s.core t ≡ [] → refusal_of s.core t ≡ None → handed ≡ write s.names (granted s.core t).messages
    → ◌≡◌ {A = Step} (record { outcome = (granted s.core t).outcome; handed = handed }) (plain_answer s t)
answers_granted s t handed none fits told =
    ap (λ (l : List Handed). record { outcome = (granted s.core t).outcome; handed = l }) (told ∙ sym (append-nil (write s.names (granted s.core t).messages)))
    ∙ (λ j. fully s.names (tell (after_decided s t (granted s.core t)).core (sym none j) (after_decided s t (granted s.core t)).names) (granted s.core t))
    ∙ ap (λ d. fully s.names (told_after d (after_decided s t d)) d) (ap (λ o. answered o (granted s.core t)) (sym fits))

pub settles_granted : (s : State) (t : TextCall) → told_of s.core t ≡ [] → refusal_of s.core t ≡ None → is_accepted (granted s.core t).outcome ≡ true → plain_settle s t ≡ accepted_state s t
settles_granted s t none fits accepts =
    ap (λ d. with_told (after_decided s t d) (told_after d (after_decided s t d))) (ap (λ o. answered o (granted s.core t)) fits)
    ∙ (λ j. with_told (after_decided s t (granted s.core t)) (tell (after_decided s t (granted s.core t)).core (none j) (after_decided s t (granted s.core t)).names))
    ∙ ap (λ b. cond b (accepted_state s t) s) accepts

-- a moment that has come is refused where numbers of replies are lacking, and by nothing else
pub poll_fits : (s : State) (now : ℕ) → lacks_replies (timeouts now s.core.queries) s.core.queries ≡ false → refusal_of s.core (passing now) ≡ None
poll_fits s now fits = ap (λ b. cond b (Some refusal.NoFreeId) None) fits

-- an open face is closed
pub close_fits : (s : State) (face : FaceId) (r : Region) → face_region face.0 s.core ≡ Some r → refusal_of s.core (closing face) ≡ None
close_fits s face r there = by (at face.0 s.core.faces) there
  where
    by : (o : Option OpenFace) → option_map region_in o ≡ Some r → cond (not (is_some o)) (Some refusal.UnknownFace) None ≡ None
    by None e = absurd (cc)
    by (Some o) e = refl

-- an open face asks, and its targets have ids
pub ask_fits : (s : State) (face : FaceId) (sd : Resolved) (r : Request) (now : ℕ) (opened : OpenFace) → at face.0 s.core.faces ≡ Some opened → lacks_number (map target_of (select_for s.core face sd r (Some opened))) s.core.queries ≡ false
    → refusal_of s.core (asking face sd r now) ≡ None
ask_fits s face sd r now opened there fits =
    ap (λ o. cond (not (is_some o)) (Some refusal.UnknownFace) (cond (lacks_number (map target_of (select_for s.core face sd r o)) s.core.queries) (Some refusal.NoFreeId) None)) there
    ∙ ap (λ b. cond b (Some refusal.NoFreeId) None) fits
