-- A call that is refused hands and changes nothing; one that nothing refuses is answered its messages, with what faces are told behind them, as the gates of faces let them out, and finals of requests that did not leave; and it changes no more than itself, numbers of keys, what gates keep, and the records of those requests.
use Rattle.std.proofs.Common.{◌≡◌, ◌∙◌, refl, sym, ap, subst, Bool, true, false, cond, not, List, [], ◌∷◌, ◌++◌, map, append-nil, Option, Some, None, true≢false}
use Rattle.std.specs.Prelude.{ℕ, ◌||◌}
use Rattle.std.specs.List.{AllByRecursion, filter, filter_map, list_any}
use Rattle.std.specs.Option.{is_some}
use Rattle.std.proofs.Math.Bool.{or-false}
use Rattle.std.proofs.lemmas.Bool.{false≢true}
use Rattle.std.proofs.lemmas.List.Elements.{filter-append, filter_map-append}
use Rattle.std.proofs.lemmas.List.Folds.{list_any-append}
use Rattle.zq_query.specs.declared.records.ReplyTo.{ReplyTo}
use Rattle.zq_query.specs.Records.{is_pending, next_reply}
use Rattle.zq_message.specs.declared.message.FaceId.{FaceId}
use Rattle.zq_message.specs.declared.message.Region.{Region}
use Rattle.zq_query.specs.Closing.{closing_finals}
use Rattle.zq_tables.specs.Naming.{NamingState}
use Rattle.zq_machine.specs.Handing.{Handed}
use Rattle.zq_machine.specs.declared.call.Outcome.TheVariants as outcome
use Rattle.zq_machine.specs.declared.call.Refusal.{Refusal}
use Rattle.zq_machine.specs.declared.call.Step.{Step}
use Rattle.zq_machine.specs.Deciding.{Cause, accepted, answered, causes, first_of, granted, is_accepted, refusal_of, regated, renamed, replied_outcome, told_of}
use Rattle.zq_machine.specs.Gates.{Gates, Out, leave_all, through}
use Rattle.zq_machine.specs.Headline.{asks}
use Rattle.zq_machine.specs.Machine.{accepted_state, answer, asked_text, follow, going_out, refused_step, settle}
use Rattle.zq_machine.specs.Messages.{Decided}
use Rattle.zq_machine.specs.State.{Core, State, face_region}
use Rattle.zq_machine.specs.TextCalls.{TextCall, opening, closing, naming, unnaming, declaring, withdrawing, asking, replying, ending, reporting, passing, listing, finalizing, announcing, retracting, networking, tabling, hearing, unhearing}
use Rattle.zq_machine.specs.Writing.{Place, Told, finish, sent_final, tell, unsent, without_unsent, write}
use Rattle.zq_machine.proofs.Asks.{any_both, granted_asks, is_asking}
use Rattle.zq_machine.proofs.GoingOut.{any_out, any_through, none_unsent, plain_out, written_plain}
use Rattle.zq_machine.proofs.Lists.{all_append}
use Rattle.zq_machine.proofs.Replies.{next-pending}
use Rattle.zq_machine.proofs.Telling.{OfDeclared, none_any, none_filtered, none_mapped, told_all}
use Rattle.zq_machine.proofs.Writing.{after_decided, answered_by, close_fits, finals_written, fully, gated, gone_out, let_go, plain_answer, plain_settle, settled_by, told_after, with_finals, with_told}

-- ---- causes
pub passed : (c : Cause) (cs : List Cause) → first_of (c ∷ cs) ≡ None → (c.0 ≡ false) × (first_of cs ≡ None)
passed c cs h = by c.0 refl h
  where
    by : (b : Bool) → c.0 ≡ b → cond b (Some c.1) (first_of cs) ≡ None → (c.0 ≡ false) × (first_of cs ≡ None)
    by true e g = absurd (cc)
    by false e g = (e, g)

abbrev pub AllPassed : List Cause → Type 0
AllPassed [] = Unit {0}
AllPassed (c ∷ cs) = (c.0 ≡ false) × AllPassed cs

pub all_passed : (cs : List Cause) → first_of cs ≡ None → AllPassed cs
all_passed [] h = tt
all_passed (c ∷ cs) h = let p = passed c cs h in (p.0, all_passed cs p.1)

pending_there : (o : Option ReplyTo) (p : Bool) → is_some o ≡ p → not p ≡ false → is_accepted (replied_outcome o) ≡ true
pending_there None p e h = absurd (true≢false (ap not e ∙ h))
pending_there (Some to) p e h = refl

pub granted_is_accepted : (c : Core) (t : TextCall) → refusal_of c t ≡ None → is_accepted (granted c t).outcome ≡ true
granted_is_accepted c (replying face s r) h =
    let p = all_passed (causes c (replying face s r)) h in
    pending_there (next_reply face.0 r.rid c.queries) (is_pending face.0 r.rid c.queries.records) (next-pending face.0 r.rid c.queries) p.1.1.0
granted_is_accepted c (passing now) h = refl
granted_is_accepted c (asking face s r now) h = refl
granted_is_accepted c (opening o) h = refl
granted_is_accepted c (closing face) h = refl
granted_is_accepted c (naming face id s x) h = refl
granted_is_accepted c (unnaming face id x) h = refl
granted_is_accepted c (declaring face id s i n) h = refl
granted_is_accepted c (withdrawing face id) h = refl
granted_is_accepted c (ending face rid) h = refl
granted_is_accepted c (reporting reply) h = refl
granted_is_accepted c (listing r t) h = refl
granted_is_accepted c (finalizing face m set) h = refl
granted_is_accepted c (announcing face sd i node) h = refl
granted_is_accepted c (retracting face sd node) h = refl
granted_is_accepted c (networking r net) h = refl
granted_is_accepted c (tabling face ids) h = refl
granted_is_accepted c (hearing face id keys sd) h = refl
granted_is_accepted c (unhearing face id) h = refl

-- ---- each call
-- what an accepted call tells
abbrev pub told_by : State → TextCall → Told
told_by s t = tell (accepted s.core t) (told_of s.core t) (renamed s t)

-- a call that is no request hands none
none_told : (s : State) (t : TextCall) → list_any asks (told_by s t).handed ≡ false
none_told s t = none_any asks (told_by s t).handed (told_all (λ h. asks h ≡ false) (λ to d. refl) (accepted s.core t) (told_of s.core t) (renamed s t))

-- what holds of what is granted, with what is told, where nothing refuses, and of a refusal holds of each call before the gates
pub by_decided : (P : Step → State → Type 0) (s : State) (t : TextCall)
    → (refusal_of s.core t ≡ None → P (fully s.names (told_by s t) (granted s.core t)) (with_told (accepted_state s t) (told_by s t)))
    → ((r : Refusal) → P (refused_step r) s)
    → P (plain_answer s t) (plain_settle s t)
by_decided P s t given stays = by (refusal_of s.core t) refl
  where
    Holds : Decided → State → Type 0
    Holds d z = P (fully s.names (told_after d z) d) (with_told z (told_after d z))

    taken : (b : Bool) → b ≡ true → refusal_of s.core t ≡ None → Holds (granted s.core t) (cond b (accepted_state s t) s)
    taken true e h = given h
    taken false e h = absurd (false≢true e)

    by : (o : Option Refusal) → refusal_of s.core t ≡ o → P (fully s.names (told_after (answered o (granted s.core t)) (after_decided s t (answered o (granted s.core t)))) (answered o (granted s.core t))) (with_told (after_decided s t (answered o (granted s.core t))) (told_after (answered o (granted s.core t)) (after_decided s t (answered o (granted s.core t)))))
    by (Some r) e = stays r
    by None e = taken (is_accepted (granted s.core t).outcome) (granted_is_accepted s.core t e) e

pub none_asked : (s : State) (t : TextCall) → is_asking t ≡ false → list_any asks (plain_answer s t).handed ≡ false
none_asked s t quiet =
    by_decided (λ z w. list_any asks z.handed ≡ false) s t
    (λ h. any_both asks (write s.names (granted s.core t).messages) (told_by s t).handed (granted_asks s.names s.core t quiet) (none_told s t))
    (λ r. refl)

-- the same of a call as it is answered
pub by_out : (P : Step → State → Type 0) (s : State) (t : TextCall)
    → (refusal_of s.core t ≡ None → P (answered_by (asked_text t) (fully s.names (told_by s t) (granted s.core t)) (with_told (accepted_state s t) (told_by s t))) (settled_by (asked_text t) (fully s.names (told_by s t) (granted s.core t)) (with_told (accepted_state s t) (told_by s t))))
    → ((r : Refusal) → P (refused_step r) s)
    → P (answer s t) (settle s t)
by_out P s t given stays = by_decided (λ z w. P (answered_by (asked_text t) z w) (settled_by (asked_text t) z w)) s t given stays

-- what the gates keep of a step, and what the end of requests that did not leave keeps
abbrev pub KeptOut : (Step → State → Type 0) → Type 0
KeptOut P = (text : List ℕ) (z : Step) (w : State) → P z w → P (gone_out text z w) (gated text z w)

abbrev pub KeptEnding : (Step → State → Type 0) → Type 0
KeptEnding P = (p : Place) (places : List Place) (z : Step) (w : State) → P z w → P (with_finals (p ∷ places) z w) (let_go (p ∷ places) w)

module _ (P : Step → State → Type 0) where
  none_ends : (z : Step) (w : State) → P z w → P (with_finals [] z w) (let_go [] w)
  none_ends z w p = subst (λ hs. P (record z { handed = hs }) w) (sym (append-nil z.handed)) p

  ending_by : KeptEnding P → (places : List Place) (z : Step) (w : State) → P z w → P (with_finals places z w) (let_go places w)
  ending_by ends [] z w p = none_ends z w p
  ending_by ends (x ∷ places) z w p = ends x places z w p

  -- what both keep holds of each call, if it holds of what is granted and of a refusal
  pub by_granted : (s : State) (t : TextCall) → KeptOut P → KeptEnding P
      → (refusal_of s.core t ≡ None → P (fully s.names (told_by s t) (granted s.core t)) (with_told (accepted_state s t) (told_by s t)))
      → ((r : Refusal) → P (refused_step r) s)
      → P (answer s t) (settle s t)
  by_granted s t out ends given stays =
      let z = plain_answer s t in
      let w = plain_settle s t in
      ending_by ends (unsent (gone_out (asked_text t) z w).handed) (gone_out (asked_text t) z w) (gated (asked_text t) z w) (out (asked_text t) z w (by_decided P s t given stays))

  -- of a call that is no request all requests leave, for it hands none
  pub by_told : (s : State) (t : TextCall) → is_asking t ≡ false → KeptOut P
      → (refusal_of s.core t ≡ None → P (fully s.names (told_by s t) (granted s.core t)) (with_told (accepted_state s t) (told_by s t)))
      → ((r : Refusal) → P (refused_step r) s)
      → P (answer s t) (settle s t)
  by_told s t quiet out given stays =
      let z = plain_answer s t in
      let w = plain_settle s t in
      subst (λ places. P (with_finals places (gone_out (asked_text t) z w) (gated (asked_text t) z w)) (let_go places (gated (asked_text t) z w)))
      (sym (none_unsent (gone_out (asked_text t) z w).handed (any_out (asked_text t) asks (λ h left. refl) z.handed w.gates ∙ none_asked s t quiet)))
      (none_ends (gone_out (asked_text t) z w) (gated (asked_text t) z w) (out (asked_text t) z w (by_decided P s t given stays)))

-- ---- a call that tells nothing
-- its messages through the gates, each by itself
abbrev pub plainly : NamingState → Decided → List ℕ → Gates → Step
plainly names d text gates = record { outcome = d.outcome; handed = map (through text gates) (write names d.messages) }

pub by_plain : (P : Step → State → Type 0) (s : State) (t : TextCall) → told_of s.core t ≡ []
    → (refusal_of s.core t ≡ None
    → P (with_finals (unsent (plainly s.names (granted s.core t) (asked_text t) (regated s t)).handed) (plainly s.names (granted s.core t) (asked_text t) (regated s t)) (accepted_state s t))
    (let_go (unsent (plainly s.names (granted s.core t) (asked_text t) (regated s t)).handed) (accepted_state s t)))
    → ((r : Refusal) → P (refused_step r) s)
    → P (answer s t) (settle s t)
by_plain P s t none given stays = by_out P s t (λ h. subst Ends (sym (out_plainly)) (given h)) stays
  where
    -- by what goes out, with the names
    Ends : Out × NamingState → Type 0
    Ends x =
        let z : Step = record { outcome = (granted s.core t).outcome; handed = x.0.handed } in
        let w : State = record { core = accepted s.core t; names = x.1; gates = x.0.gates } in
        P (with_finals (unsent x.0.handed) z w) (let_go (unsent x.0.handed) w)

    handed_plainly : write s.names (granted s.core t).messages ++ (told_by s t).handed ≡ write s.names (granted s.core t).messages
    handed_plainly = (λ j. write s.names (granted s.core t).messages ++ (tell (accepted s.core t) (none j) (renamed s t)).handed) ∙ append-nil (write s.names (granted s.core t).messages)

    out_plainly : ◌≡◌ {A = Out × NamingState} (leave_all (asked_text t) (write s.names (granted s.core t).messages ++ (told_by s t).handed) (regated s t), (told_by s t).names)
        (record { handed = map (through (asked_text t) (regated s t)) (write s.names (granted s.core t).messages); gates = regated s t }, renamed s t)
    out_plainly = λ j. (
      (ap (λ hs. leave_all (asked_text t) hs (regated s t)) handed_plainly ∙ plain_out (asked_text t) (regated s t) (write s.names (granted s.core t).messages) (written_plain s.names (granted s.core t).messages)) j,
      (tell (accepted s.core t) (none j) (renamed s t)).names,
    )

-- and is no request: all of its messages leave that are requests, for there are none
pub by_quiet : (P : Step → State → Type 0) (s : State) (t : TextCall) → told_of s.core t ≡ [] → is_asking t ≡ false
    → (refusal_of s.core t ≡ None → P (plainly s.names (granted s.core t) (asked_text t) (regated s t)) (accepted_state s t))
    → ((r : Refusal) → P (refused_step r) s)
    → P (answer s t) (settle s t)
by_quiet P s t none quiet given stays =
    let z = plainly s.names (granted s.core t) (asked_text t) (regated s t) in
    by_plain P s t none
    (λ h.
    subst (λ places. P (with_finals places z (accepted_state s t)) (let_go places (accepted_state s t)))
    (sym (none_unsent z.handed (any_through (asked_text t) (regated s t) asks (λ h left. refl) (write s.names (granted s.core t).messages) ∙ granted_asks s.names s.core t quiet)))
    (none_ends P z (accepted_state s t) (given h)))
    stays

-- ---- for the bodies: what is answered and left before the gates where nothing refuses a call
pub answers_told : (s : State) (t : TextCall) (handed : List Handed) → refusal_of s.core t ≡ None → handed ≡ write s.names (granted s.core t).messages ++ (told_by s t).handed
    → ◌≡◌ {A = Step} (record { outcome = (granted s.core t).outcome; handed = handed }) (plain_answer s t)
answers_told s t handed fits told =
    ap (λ (l : List Handed). record { outcome = (granted s.core t).outcome; handed = l }) told
    ∙ (λ j. fully s.names (told_after (granted s.core t) (cond (sym (granted_is_accepted s.core t fits) j) (accepted_state s t) s)) (granted s.core t))
    ∙ ap (λ o. fully s.names (told_after (answered o (granted s.core t)) (after_decided s t (answered o (granted s.core t)))) (answered o (granted s.core t))) (sym fits)

pub settles_told : (s : State) (t : TextCall) → refusal_of s.core t ≡ None → plain_settle s t ≡ with_told (accepted_state s t) (told_by s t)
settles_told s t fits =
    ap (λ o. with_told (after_decided s t (answered o (granted s.core t))) (told_after (answered o (granted s.core t)) (after_decided s t (answered o (granted s.core t))))) fits
    ∙ (λ j. let z = cond (granted_is_accepted s.core t fits j) (accepted_state s t) s in with_told z (told_after (granted s.core t) z))

-- ---- what decides after a call that nothing refuses is what it changes, but for the records of requests that did not leave
module _ (P : Core → Type 0) (s : State) (t : TextCall) (fits : refusal_of s.core t ≡ None) where
  pub settled_of : ((places : List Place) (c : Core) → P c → P (without_unsent places c)) → P (accepted s.core t) → P (settle s t).core
  settled_of stays p = by (unsent (going_out s t).handed)
    where
      now : P (follow s t).core
      now = subst (λ (w : State). P w.core) (sym (settles_told s t fits)) p

      by : (places : List Place) → P (finish (follow s t).core places).core
      by [] = now
      by (x ∷ places) = stays (x ∷ places) (follow s t).core now

  pub settled_to : ((places : List Place) (c : Core) → P (without_unsent places c) → P c) → P (settle s t).core → P (accepted s.core t)
  settled_to back p = subst (λ (w : State). P w.core) (settles_told s t fits) (by (unsent (going_out s t).handed) p)
    where
      by : (places : List Place) → P (finish (follow s t).core places).core → P (follow s t).core
      by [] p = p
      by (x ∷ places) p = back (x ∷ places) (follow s t).core p

-- an open face is closed
pub closed_step : (s : State) (face : FaceId) (r : Region) (handed : List Handed) → face_region face.0 s.core ≡ Some r → handed ≡ map sent_final (closing_finals face.0 s.core.queries) ++ (told_by s (closing face)).handed
    → ◌≡◌ {A = Step} (record { outcome = outcome.Done; handed = handed }) (plain_answer s (closing face))
closed_step s face r handed there told =
    answers_told s (closing face) handed (close_fits s face r there) (told ∙ ap (λ l. l ++ (told_by s (closing face)).handed) (sym (finals_written s.names (closing_finals face.0 s.core.queries))))

pub closed_after : (s : State) (face : FaceId) (r : Region) → face_region face.0 s.core ≡ Some r → plain_settle s (closing face) ≡ with_told (accepted_state s (closing face)) (told_by s (closing face))
closed_after s face r there = settles_told s (closing face) (close_fits s face r there)

-- ---- messages with what is told behind them
module _ (s : State) (t : TextCall) (hs : List Handed) where
  pub any_beside : (p : Handed → Bool) → OfDeclared (λ h. p h ≡ false) → list_any p (hs ++ (told_by s t).handed) ≡ list_any p hs
  any_beside p none =
      list_any-append p hs (told_by s t).handed
      ∙ ap (λ b. list_any p hs || b) (none_any p (told_by s t).handed (told_all (λ h. p h ≡ false) none (accepted s.core t) (told_of s.core t) (renamed s t)))
      ∙ or-false (list_any p hs)

  pub filter_beside : (p : Handed → Bool) → OfDeclared (λ h. p h ≡ false) → filter p (hs ++ (told_by s t).handed) ≡ filter p hs
  filter_beside p none =
      filter-append p hs (told_by s t).handed
      ∙ ap (λ l. filter p hs ++ l) (none_filtered p (told_by s t).handed (told_all (λ h. p h ≡ false) none (accepted s.core t) (told_of s.core t) (renamed s t)))
      ∙ append-nil (filter p hs)

  pub mapped_beside : {X : Type 0} (f : Handed → Option X) → OfDeclared (λ h. f h ≡ None) → filter_map f (hs ++ (told_by s t).handed) ≡ filter_map f hs
  mapped_beside f none =
      filter_map-append f hs (told_by s t).handed
      ∙ ap (λ l. filter_map f hs ++ l) (none_mapped f (told_by s t).handed (told_all (λ h. f h ≡ None) none (accepted s.core t) (told_of s.core t) (renamed s t)))
      ∙ append-nil (filter_map f hs)

  pub all_beside : (P : Handed → Type 0) → OfDeclared P → AllByRecursion P hs → AllByRecursion P (hs ++ (told_by s t).handed)
  all_beside P each all = all_append P hs (told_by s t).handed all (told_all P each (accepted s.core t) (told_of s.core t) (renamed s t))
