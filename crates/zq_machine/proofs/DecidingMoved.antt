-- What is decided moves with its texts: the answer, what it hands, and what it changes.
use Rattle.std.proofs.Common.{◌≡◌, ◌∙◌, sym, refl, ap, ℕ, Bool, true, false, cond, not, List, [], ◌∷◌, ◌++◌, map, Option, Some, None}
use Rattle.std.specs.List.{cons_option}
use Rattle.std.specs.Option.{option_map}
use Rattle.std.proofs.lemmas.List.{map-append}
use Rattle.zq_key.proofs.Naturals.{map-map}
use Rattle.zq_key.specs.Key.{is_key, is_chunk}
use Rattle.zq_message.specs.declared.message.FaceId.{FaceId}
use Rattle.zq_message.specs.declared.message.Request.{Request}
use Rattle.zq_message.specs.declared.message.Response.{Response}
use Rattle.zq_strategy.specs.declared.offer.QueryTargetQabl.{QueryTargetQabl}
use Rattle.zq_strategy.specs.Moved.{Keeps, move_offer}
use Rattle.zq_query.specs.declared.records.Final.{Final}
use Rattle.zq_query.specs.declared.records.ReplyTo.{ReplyTo}
use Rattle.zq_query.specs.declared.records.Timeout.{Timeout}
use Rattle.zq_query.specs.Closing.{closing_finals, finals_after, finals_landed}
use Rattle.zq_query.specs.Polling.{timeouts}
use Rattle.zq_query.specs.Records.{is_entry, is_pending, next_reply}
use Rattle.zq_tables.specs.declared.resolved.Resolved.{Resolved}
use Rattle.zq_tables.specs.declared.resolved.Resolved.TheVariants as said
use Rattle.zq_machine.specs.declared.call.Refusal.{Refusal}
use Rattle.zq_machine.specs.Messages.{Decided, text_final}
use Rattle.zq_machine.specs.declared.face.OpenFace.{OpenFace}
use Rattle.zq_machine.specs.State.{Core, at, is_open}
use Rattle.zq_machine.specs.Selecting.{select_for, select}
use Rattle.zq_machine.specs.TextCalls.{TextCall, opening, closing, naming, unnaming, declaring, withdrawing, asking, replying, ending, reporting, passing, listing, finalizing, announcing, retracting, networking, tabling, hearing, unhearing}
use Rattle.zq_machine.specs.Deciding.{refusal_of, handed_request, handed_requests, handed_reply, timed_out, handed_timeouts, passing_finals, replied, granted, messages_of, outcome_of, answered, decide, is_accepted, accepted}
use Rattle.zq_machine.specs.Moved.{move_said, move_text, move_core, move_suffix, move_message, move_decided, after_text, DecidesAlike}
use Rattle.zq_machine.proofs.ChangedMoved.{accepted_moved, told_moved}
use Rattle.zq_machine.proofs.SelectionMoved.{select_moved}
use Rattle.zq_machine.proofs.CausesMoved.{refused_alike}
use Rattle.zq_machine.proofs.Refused.{has_text, third_holds}

-- ---- the empty text is no key: no request on it is handed on, and no reply on it is accepted
nothing_selected : (c : Core) (face : FaceId) (t : Request) (o : Option OpenFace) → select_for c face (said.Full []) t o ≡ []
unfolding is_key is_chunk
nothing_selected c face t None = refl
nothing_selected c face t (Some o) = refl

no_empty_reply : (c : Core) (face : FaceId) (r : Response) → refusal_of c (replying face (said.Full []) r) ≡ None → ⊥
unfolding is_key is_chunk
no_empty_reply c face r e = third_holds (not (is_open face.0 c)) (not (is_pending face.0 r.rid c.queries.records)) _ _ _ e

module _ (φ : List ℕ → List ℕ) where
  -- ---- what is handed
  finals_moved : (fs : List Final) → map text_final fs ≡ map (move_message φ) (map text_final fs)
  finals_moved fs = sym (map-map text_final (move_message φ) text_final (λ _. refl) fs)

  timeouts_moved : (faces : List (ℕ × OpenFace)) (ts : List Timeout) → handed_timeouts faces ts ≡ map (move_message φ) (handed_timeouts faces ts)
  timeouts_moved faces [] = refl
  timeouts_moved faces (t ∷ ts) = by t.reply (timeouts_moved faces ts)
    where
      by : (o : Option ℕ) → handed_timeouts faces ts ≡ map (move_message φ) (handed_timeouts faces ts) → cons_option (option_map (timed_out faces t) o) [] ++ handed_timeouts faces ts ≡ map (move_message φ) (cons_option (option_map (timed_out faces t) o) [] ++ handed_timeouts faces ts)
      by None same = same
      by (Some k) same = ap (λ ms. timed_out faces t k ∷ ms) same

  passing_moved : (faces : List (ℕ × OpenFace)) (ts : List Timeout) (fs : List Final) → handed_timeouts faces ts ++ map text_final fs ≡ map (move_message φ) (handed_timeouts faces ts ++ map text_final fs)
  passing_moved faces ts fs =
      (λ j. timeouts_moved faces ts j ++ finals_moved fs j) ∙ sym (map-append (move_message φ) (handed_timeouts faces ts) (map text_final fs))

  reply_by : (text : List ℕ) (r : Response) (to : ReplyTo) (o : Option ℕ) → cons_option (option_map (handed_reply (move_suffix φ text) r to) o) [] ≡ map (move_message φ) (cons_option (option_map (handed_reply text r to) o) [])
  reply_by text r to (Some k) = refl
  reply_by text r to None = refl

  replied_moved : (text : List ℕ) (r : Response) (o : Option ReplyTo) → replied (move_suffix φ text) r o ≡ map (move_message φ) (replied text r o)
  replied_moved text r None = refl
  replied_moved text r (Some to) = reply_by text r to to.reply

  module _ (keeps : Keeps φ) (c : Core) where
    each_moved : (text : List ℕ) (r : Request) (os : List QueryTargetQabl) → map (handed_request c.queries (move_suffix φ text) r) (map (move_offer φ) os) ≡ map (move_message φ) (map (handed_request c.queries text r) os)
    each_moved text r os =
        map-map (move_offer φ) (handed_request c.queries (move_suffix φ text) r) (λ o. move_message φ (handed_request c.queries text r o)) (λ _. refl) os
        ∙ sym (map-map (handed_request c.queries text r) (move_message φ) (λ o. move_message φ (handed_request c.queries text r o)) (λ _. refl) os)

    requests_moved : (face : FaceId) (text : List ℕ) (r : Request) (os : List QueryTargetQabl) → handed_requests c.queries face (move_suffix φ text) r (map (move_offer φ) os) ≡ map (move_message φ) (handed_requests c.queries face text r os)
    requests_moved face text r [] = refl
    requests_moved face text r (o ∷ os) = each_moved text r (o ∷ os)

    asked_by : (face : FaceId) (text : List ℕ) (s : Resolved) (r : Request) → handed_requests c.queries face (move_suffix φ text) r (select (move_core φ c) face (move_said φ s) r) ≡ map (move_message φ) (handed_requests c.queries face text r (select c face s r))
    asked_by face text s r = ap (handed_requests c.queries face (move_suffix φ text) r) (select_moved φ keeps c face r s) ∙ requests_moved face text r (select c face s r)

    asked_none : (face : FaceId) (r : Request) → handed_requests c.queries face (φ []) r (select (move_core φ c) face (said.Full (φ [])) r) ≡ map (move_message φ) (handed_requests c.queries face [] r (select c face (said.Full []) r))
    asked_none face r =
        let none : select c face (said.Full []) r ≡ [] = nothing_selected c face r (at face.0 c.faces) in
        ap (handed_requests c.queries face (φ []) r) (select_moved φ keeps c face r (said.Full []) ∙ ap (map (move_offer φ)) none)
        ∙ sym (ap (λ os. map (move_message φ) (handed_requests c.queries face [] r os)) none)

    -- ---- what a call is answered that nothing refuses
    messages_moved : (t : TextCall) → refusal_of c t ≡ None → messages_of (move_core φ c) (move_text φ t) ≡ map (move_message φ) (messages_of c t)
    messages_moved (opening o) e = refl
    messages_moved (closing face) e = finals_moved (closing_finals face.0 c.queries)
    messages_moved (naming face id s standing) e = refl
    messages_moved (unnaming face id standing) e = refl
    messages_moved (declaring face id s info node) e = refl
    messages_moved (withdrawing face id) e = refl
    messages_moved (asking face said.Unscoped r now) e = asked_by face [] said.Unscoped r
    messages_moved (asking face said.Empty r now) e = asked_by face [] said.Empty r
    messages_moved (asking face (said.Full []) r now) e = asked_none face r
    messages_moved (asking face (said.Full (b ∷ bs)) r now) e = asked_by face (b ∷ bs) (said.Full (b ∷ bs)) r
    messages_moved (replying face said.Unscoped r) e = replied_moved [] r (next_reply face.0 r.rid c.queries)
    messages_moved (replying face said.Empty r) e = replied_moved [] r (next_reply face.0 r.rid c.queries)
    messages_moved (replying face (said.Full []) r) e = absurd (no_empty_reply c face r e)
    messages_moved (replying face (said.Full (b ∷ bs)) r) e = replied_moved (b ∷ bs) r (next_reply face.0 r.rid c.queries)
    messages_moved (ending face rid) e = finals_moved (finals_after (is_entry face.0 rid) c.queries.closed c.queries.records)
    messages_moved (reporting reply) e = finals_moved (finals_landed reply c.queries.closed c.queries.records)
    messages_moved (passing now) e = passing_moved c.faces (timeouts now c.queries) (passing_finals now c.queries)
    messages_moved (listing r table) e = refl
    messages_moved (finalizing face m set) e = refl
    messages_moved (announcing face sd i node) e = refl
    messages_moved (retracting face sd node) e = refl
    messages_moved (networking r net) e = refl
    messages_moved (tabling face ids) e = refl
    messages_moved (hearing face id keys sd) e = refl
    messages_moved (unhearing face id) e = refl

    outcome_moved : (t : TextCall) → outcome_of (move_core φ c) (move_text φ t) ≡ outcome_of c t
    outcome_moved (opening o) = refl
    outcome_moved t = refl

    -- ---- what it decides
    granted_moved : (t : TextCall) → refusal_of c t ≡ None → granted (move_core φ c) (move_text φ t) ≡ move_decided φ (granted c t)
    granted_moved t e = λ j. record { outcome = outcome_moved t j; messages = messages_moved t e j; told = told_moved φ keeps c t (has_text c t e) j }

    answer_by : (t : TextCall) (o : Option Refusal) → refusal_of c t ≡ o → answered o (granted (move_core φ c) (move_text φ t)) ≡ move_decided φ (answered o (granted c t))
    answer_by t None e = granted_moved t e
    answer_by t (Some r) e = refl

    pub answer_moved : (t : TextCall) → decide (move_core φ c) (move_text φ t) ≡ move_decided φ (decide c t)
    answer_moved t = ap (λ o. answered o (granted (move_core φ c) (move_text φ t))) (refused_alike φ keeps c t) ∙ answer_by t (refusal_of c t) refl

    change_by : (t : TextCall) → refusal_of c t ≡ None → (b : Bool) → cond b (accepted (move_core φ c) (move_text φ t)) (move_core φ c) ≡ move_core φ (cond b (accepted c t) c)
    change_by t e true = accepted_moved φ keeps c t (has_text c t e)
    change_by t e false = refl

    change_of : (t : TextCall) (o : Option Refusal) → refusal_of c t ≡ o
        → cond (is_accepted (answered o (granted c t)).outcome) (accepted (move_core φ c) (move_text φ t)) (move_core φ c) ≡ move_core φ (cond (is_accepted (answered o (granted c t)).outcome) (accepted c t) c)
    change_of t None e = change_by t e (is_accepted (granted c t).outcome)
    change_of t (Some r) e = refl

    pub change_moved : (t : TextCall) → after_text (move_core φ c) (move_text φ t) ≡ move_core φ (after_text c t)
    change_moved t =
        ap (λ (s : Decided). cond (is_accepted s.outcome) (accepted (move_core φ c) (move_text φ t)) (move_core φ c)) (answer_moved t) ∙ change_of t (refusal_of c t) refl

pub decides_alike : (φ : List ℕ → List ℕ) → Keeps φ → DecidesAlike φ
decides_alike φ keeps = record { answer = answer_moved φ keeps; change = change_moved φ keeps }
