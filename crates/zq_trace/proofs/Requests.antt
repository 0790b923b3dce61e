-- The requests that a call hands are those that the trace tells, where the trace picks what the machine selects.
use Rattle.std.proofs.Common.{◌≡◌, ◌∙◌, refl, sym, ap, ℕ, Bool, true, false, cond, not, List, [], ◌∷◌, ◌++◌, map, Option, Some, None, append-nil, true≢false}
use Rattle.std.specs.Prelude.{◌==◌, ◌&&◌, ◌||◌, if◌then◌else◌, unwrap_or}
use Rattle.std.specs.List.{list_any}
use Rattle.std.specs.Option.{option_and_then, option_map_or}
use Rattle.std.proofs.lemmas.Bool.{or_parts}
use Rattle.std.proofs.lemmas.List.Elements.{filter-append}
use Rattle.zq_message.specs.declared.message.FaceId.{FaceId}
use Rattle.zq_message.specs.declared.message.Message.{Message}
use Rattle.zq_message.specs.declared.message.Message.TheVariants as message
use Rattle.zq_message.specs.declared.message.Request.{Request}
use Rattle.zq_namespace.specs.Denied.{is_denied}
use Rattle.zq_strategy.specs.declared.offer.QueryTargetQabl.{QueryTargetQabl}
use Rattle.zq_tables.specs.declared.resolved.Resolved.{Resolved}
use Rattle.zq_tables.specs.declared.resolved.Resolved.TheVariants as said_word
use Rattle.zq_tables.specs.Naming.{no_names, plain, read_by}
use Rattle.zq_machine.specs.declared.call.Call.{Call}
use Rattle.zq_machine.specs.declared.call.Call.TheVariants as call
use Rattle.zq_machine.specs.declared.call.Refusal.{Refusal}
use Rattle.zq_machine.specs.declared.call.Step.{Step}
use Rattle.zq_machine.specs.declared.face.OpenFace.{OpenFace}
use Rattle.zq_machine.specs.Handing.{Handed}
use Rattle.zq_machine.specs.Configs.{Settings}
use Rattle.zq_machine.specs.Deciding.{is_accepted, refusal_of}
use Rattle.zq_machine.specs.Gates.{denied_by, gate_at}
use Rattle.zq_machine.specs.Headline.{HandsEach, HandsOn, IsHandedOn, KeepsPromises, RefusesBy, asks, is_request, none_leaves, own_final}
use Rattle.zq_machine.specs.Machine.{step}
use Rattle.zq_machine.specs.Selecting.{full_text, says_key, select as machine_select}
use Rattle.zq_machine.specs.State.{State, at}
use Rattle.zq_machine.specs.TextCalls.{allowed, asked_said, read, said}
use Rattle.zq_trace.specs.Faces.{Face, Trace, face_at, says}
use Rattle.zq_trace.specs.Awaited.{free_id}
use Rattle.zq_trace.specs.Selected.{allowed_key, asked_key, picked, select}
use Rattle.zq_trace.specs.Expected.{Shown, in_full, next_request, read_message, request_to, requests_of, shown}
use Rattle.zq_trace.specs.Headline.{if_accepted, kind, of_kind}
use Rattle.zq_trace.proofs.Asked.{counted_now}
use Rattle.zq_trace.proofs.Ids.{ids_alike}
use Rattle.zq_trace.proofs.Runs.{IsRun, call_promise, reached}
use Rattle.zq_trace.proofs.Saying.{closed_face, numbers_now, open_face, said_here}

-- ---- a refused call hands nothing
pub nothing_handed : (s : State) (c : Call) → KeepsPromises s c → is_accepted (step s c).outcome ≡ false → (step s c).handed ≡ []
nothing_handed s c k h = by (refusal_of s.core (read s c)) k.refusals
  where
    by : (o : Option Refusal) → RefusesBy o s c → (step s c).handed ≡ []
    by None fine = absurd (true≢false (sym fine ∙ h))
    by (Some r) told = ap (λ (t : Step). t.handed) told.0

either : (b : Bool) (x : List Shown) → cond b x x ≡ x
either true x = refl
either false x = refl

pub none_if : (t : Step) → if_accepted {X = Shown} t [] ≡ []
none_if t = either (is_accepted t.outcome) []

-- ---- kinds
request_kind : (m : Message) → is_request m ≡ (kind m == 0)
request_kind (message.Request r) = refl
request_kind (message.Response r) = refl
request_kind (message.ResponseFinal r) = refl
request_kind (message.Interest r) = refl
request_kind (message.InterestFinal r) = refl
request_kind (message.Declare r) = refl

pub none_of_kind : (k : ℕ) (hs : List Handed) → list_any (λ (h : Handed). kind h.message == k) hs ≡ false → of_kind k hs ≡ []
none_of_kind k [] none = refl
none_of_kind k (h ∷ hs) none =
    let parts = or_parts (kind h.message == k) (list_any (λ (x : Handed). kind x.message == k) hs) none in
    ap (λ b. cond b (h ∷ of_kind k hs) (of_kind k hs)) parts.0 ∙ none_of_kind k hs parts.1

any_kind : (hs : List Handed) → list_any asks hs ≡ list_any (λ (h : Handed). kind h.message == 0) hs
any_kind [] = refl
any_kind (h ∷ hs) = λ j. request_kind h.message j || any_kind hs j

-- ---- the key that is asked for
module _ (config : Settings) (past : Trace) (run : IsRun config past) where
  abbrev s : State
  s = reached config past

  text_of : (denied : List (List ℕ)) (w : Resolved) (q : List ℕ) → allowed_key denied w ≡ Some q → q ≡ full_text (allowed denied w)
  text_of denied w q h = by (says_key w) (is_denied denied (full_text w)) h
    where
      by : (a b : Bool) → (if a && not b then Some (full_text w) else None) ≡ Some q → q ≡ full_text (if a && b then said_word.Empty else w)
      by true false e = let same : full_text w ≡ q = (let it : Some (full_text w) ≡ Some q = e in cc) in sym same
      by true true e = absurd (let gap : None ≡ Some q = e in cc)
      by false b e = absurd (let gap : None ≡ Some q = e in cc)

  -- what an asker's request says, in both
  pub key_text : (face : FaceId) (r : Request) (q : List ℕ) → asked_key past face r ≡ Some q → q ≡ full_text (asked_said face r s)
  key_text face r q h = by (at face.0 s.core.faces) refl
    where
      by : (o : Option OpenFace) → at face.0 s.core.faces ≡ o → q ≡ full_text (asked_said face r s)
      by None gone = absurd (let gap : None ≡ Some q = sym (ap (λ f. option_and_then (λ (x : Face). allowed_key x.denied (says r.wire x)) f) (closed_face config past run face.0 gone)) ∙ h in cc)
      by (Some o) seen =
          let f = open_face config past run face.0 o seen in
          text_of (denied_by (gate_at face.0 s.gates)) (said face r.wire s) q
          (sym ((λ j. allowed_key (f.2.denied j) (said_here config past run face.0 o seen r.wire j))) ∙ sym (ap (λ g. option_and_then (λ (x : Face). allowed_key x.denied (says r.wire x)) g) f.1) ∙ h)

  -- ---- one request
  one_shown : (r : Request) (q : List ℕ) (o : QueryTargetQabl) (h : Handed) → HandsOn s q r o h → shown past h ≡ request_to config past r q o
  one_shown r q o h on = λ j. record { to = on.to j; number = number j; reply = on.reply j; message = whole j }
    where
      m : Request
      m = on.copy.0

      is : IsHandedOn s q r o m
      is = on.copy.2

      number : h.number ≡ Some (next_request config past)
      number = on.number ∙ ap Some (sym (counted_now config past run))

      id : m.id ≡ unwrap_or (free_id config past o.face.0) 0
      id = ap (λ x. unwrap_or x 0) (sym is.next ∙ ids_alike config past run o.face.0)

      wire : in_full m.wire (read_by (option_map_or (λ (f : Face). f.numbers) (face_at past o.face.0) no_names) m.wire) ≡ plain q
      wire = ap (λ n. in_full m.wire (read_by n m.wire)) (numbers_now config past run o.face.0) ∙ ap (in_full m.wire) is.key

      whole : read_message (option_map_or (λ (f : Face). f.numbers) (face_at past h.to.0) no_names) h.message ≡ message.Request (record r { id = unwrap_or (free_id config past o.face.0) 0; wire = plain q; node = o.node })
      whole =
          (λ j. read_message (option_map_or (λ (f : Face). f.numbers) (face_at past (on.to j).0) no_names) (on.copy.1 j))
          ∙ (λ j. message.Request (record { id = id j; wire = wire j; target = is.target j; timeout = is.timeout j; node = is.node j; qos = is.qos j; payload = is.payload j }))

  pub one_kind : (q : List ℕ) (r : Request) (o : QueryTargetQabl) (h : Handed) → HandsOn s q r o h → kind h.message ≡ 0
  one_kind q r o h on = ap kind on.copy.1

  each_shown : (r : Request) (q : List ℕ) (os : List QueryTargetQabl) (hs : List Handed) → HandsEach s q r os hs → map (shown past) (of_kind 0 hs) ≡ map (request_to config past r q) os
  each_shown r q [] [] each = refl
  each_shown r q [] (h ∷ hs) each = absurd each
  each_shown r q (o ∷ os) [] each = absurd each
  each_shown r q (o ∷ os) (h ∷ hs) each =
      ap (λ k. map (shown past) (cond (k == 0) (h ∷ of_kind 0 hs) (of_kind 0 hs))) (one_kind q r o h each.0)
      ∙ (λ j. one_shown r q o h each.0 j ∷ each_shown r q os hs each.1 j)

  end_kind : (b : Bool) (face : FaceId) (r : Request) → of_kind 0 (if b then own_final s face r ∷ [] else []) ≡ []
  end_kind true face r = refl
  end_kind false face r = refl

  -- with another text only where there is nothing to hand
  text_same : (face : FaceId) (r : Request) (os : List QueryTargetQabl) → select config past face r ≡ os → map (request_to config past r (full_text (asked_said face r s))) os ≡ map (request_to config past r (unwrap_or (asked_key past face r) [])) os
  text_same face r [] e = refl
  text_same face r (x ∷ xs) e = by (face_at past face.0) (asked_key past face r) refl e
    where
      by : (f : Option Face) (k : Option (List ℕ)) → asked_key past face r ≡ k → option_map_or (λ (g : Face). option_map_or (λ q. picked config past face r q g) k []) f [] ≡ x ∷ xs
          → map (request_to config past r (full_text (asked_said face r s))) (x ∷ xs) ≡ map (request_to config past r (unwrap_or (asked_key past face r) [])) (x ∷ xs)
      by None k is h = absurd (let gap : [] ≡ x ∷ xs = h in cc)
      by (Some f) None is h = absurd (let gap : [] ≡ x ∷ xs = h in cc)
      by (Some f) (Some q) is h = ap (λ t. map (request_to config past r t) (x ∷ xs)) (sym (key_text face r q is) ∙ sym (ap (λ k. unwrap_or k []) is))

  module _ (picks : (face : FaceId) (r : Request) → select config past face r ≡ machine_select s.core face (asked_said face r s) r) where
    accepted_requests : (face : FaceId) (r : Request) (now : ℕ) → is_accepted (step s (call.Request face r now)).outcome ≡ true → map (shown past) (of_kind 0 (step s (call.Request face r now)).handed) ≡ requests_of config past (call.Request face r now)
    accepted_requests face r now h =
        let p = ((call_promise config past (call.Request face r now)).requests h).1 in
        ap (λ l. map (shown past) (of_kind 0 l)) p.all
        ∙ ap (map (shown past)) (filter-append (λ (x : Handed). kind x.message == 0) p.requests (if none_leaves p.requests then own_final s face r ∷ [] else []) ∙ ap (λ l. of_kind 0 p.requests ++ l) (end_kind (none_leaves p.requests) face r) ∙ append-nil (of_kind 0 p.requests))
        ∙ each_shown r (full_text (asked_said face r s)) (machine_select s.core face (asked_said face r s) r) p.requests p.each
        ∙ ap (map (request_to config past r (full_text (asked_said face r s)))) (sym (picks face r))
        ∙ text_same face r (select config past face r) refl

    none_handed : (c : Call) → list_any asks (step s c).handed ≡ false → map (shown past) (of_kind 0 (step s c).handed) ≡ if_accepted (step s c) []
    none_handed c none = ap (map (shown past)) (none_of_kind 0 (step s c).handed (sym (any_kind (step s c).handed) ∙ none)) ∙ sym (none_if (step s c))

    pub requests_shown : (c : Call) → map (shown past) (of_kind 0 (step s c).handed) ≡ if_accepted (step s c) (requests_of config past c)
    requests_shown (call.Request face r now) = by (is_accepted (step s (call.Request face r now)).outcome) refl
      where
        by : (b : Bool) → is_accepted (step s (call.Request face r now)).outcome ≡ b → map (shown past) (of_kind 0 (step s (call.Request face r now)).handed) ≡ cond b (requests_of config past (call.Request face r now)) []
        by true h = accepted_requests face r now h
        by false h = ap (λ l. map (shown past) (of_kind 0 l)) (nothing_handed s (call.Request face r now) (call_promise config past (call.Request face r now)) h)
    requests_shown c = none_handed c (call_promise config past c).requests
