-- A request of an open face: what it is answered and leaves, by what of it is handed and leaves. The entries of requests that do not leave are let go, and the final comes where none leaves.
use Rattle.std.proofs.Common.{◌≡◌, ◌∙◌, refl, sym, ap, ℕ, ◌+◌, Bool, true, false, cond, List, [], ◌∷◌, ◌++◌, map, Option, Some, None, append-nil, true≢false}
use Rattle.std.specs.Prelude.{◌||◌, ◌==◌, ◌^◌}
use Rattle.std.specs.List.{list_any}
use Rattle.std.specs.Option.{is_some}
use Rattle.zq_message.specs.declared.message.FaceId.{FaceId}
use Rattle.zq_message.specs.declared.message.Request.{Request}
use Rattle.zq_strategy.specs.declared.offer.QueryTargetQabl.{QueryTargetQabl}
use Rattle.zq_query.specs.declared.records.Final.{Final}
use Rattle.zq_query.specs.Asking.{after_ask, is_full, lacks_number}
use Rattle.zq_query.specs.Records.{QueryState, Record, any_over, letting_go_all}
use Rattle.zq_query.proofs.Balance.{ask_none_over}
use Rattle.zq_tables.specs.declared.resolved.Resolved.{Resolved}
use Rattle.zq_machine.specs.declared.call.Outcome.TheVariants as outcome
use Rattle.zq_machine.specs.declared.call.Step.{Step}
use Rattle.zq_machine.specs.declared.face.OpenFace.{OpenFace}
use Rattle.zq_machine.specs.Deciding.{deadline, handed_requests, refusal_of, with_queries}
use Rattle.zq_machine.specs.Gates.{through}
use Rattle.zq_machine.specs.Handing.{Handed}
use Rattle.zq_machine.specs.Headline.{none_leaves}
use Rattle.zq_machine.specs.Machine.{answer, settle}
use Rattle.zq_machine.specs.Selecting.{full_text, select_for, target_of}
use Rattle.zq_machine.specs.State.{Core, State, at}
use Rattle.zq_machine.specs.TextCalls.{TextCall, asking}
use Rattle.zq_machine.specs.Writing.{Place, finish, sent_final, unsent, write}
use Rattle.zq_machine.proofs.Finals.{IsSound}
use Rattle.zq_machine.proofs.GoingOut.{final_through, none_unsent}
use Rattle.zq_machine.proofs.LettingGo.{one_by_one}
use Rattle.zq_machine.proofs.Sending.{all_away, finals_of_unsent}
use Rattle.zq_machine.proofs.Ungated.{plain_goes, plain_leaves}
use Rattle.zq_machine.proofs.Writing.{ask_fits}
use Rattle.zq_gateway.specs.Requesting.{asked_out, requests_out}
use Rattle.zq_egress.proofs.Unsent.{unsent-append}

-- what is left once the entries at places are let go one after another
abbrev pub without_all : List Place → Core → Core
without_all places c = with_queries c (record c.queries { records = letting_go_all c.queries.records places })

finished : (c : Core) (places : List Place) → any_over c.queries.records ≡ false → (finish c places).core ≡ without_all places c
finished c [] standing = refl
finished c (p ∷ places) standing = ap (λ (rs : List Record). with_queries c (record c.queries { records = rs })) (one_by_one (p ∷ places) c.queries.records standing)

-- a final behind messages is no request that does not leave
unsent_behind : (hs : List Handed) (f : Final) (b : Bool) → unsent (hs ++ cond b (sent_final f ∷ []) []) ≡ unsent hs
unsent_behind hs f b = unsent-append hs (cond b (sent_final f ∷ []) []) ∙ ap (λ l. unsent hs ++ l) (by b) ∙ append-nil (unsent hs)
  where
    by : (b : Bool) → unsent (cond b (sent_final f ∷ []) []) ≡ []
    by true = refl
    by false = refl

module _ (s : State) (sound : IsSound s) (face : FaceId) (text : List ℕ) (r : Request) (d : ℕ) where
  -- what a request hands to the faces of offers, through their gates
  abbrev out : List QueryTargetQabl → List Handed
  out os = map (through text s.gates) (write s.names (handed_requests s.core.queries face text r os))

  abbrev asked : List QueryTargetQabl → QueryState
  asked os = after_ask face r.id r.qos (map target_of os) d s.core.queries

  abbrev last : Final
  last = record { number = s.core.queries.requests; asker = face; id = r.id; qos = r.qos }

  no_offer : unsent (through text s.gates (sent_final last) ∷ []) ≡ []
  no_offer = none_unsent (through text s.gates (sent_final last) ∷ []) refl

  out_is : (os : List QueryTargetQabl) → is_some (at face.0 s.core.faces) ≡ true → list_any (is_full s.core.queries) (map target_of os) ≡ false
      → out os ++ map sent_final (finish (with_queries s.core (asked os)) (unsent (out os))).finals ≡ asked_out s face text r os
  out_is [] opens fits = λ j. (final_through text s.gates last j ∷ []) ++ map sent_final (finish (with_queries s.core (asked [])) (no_offer j)).finals
  out_is (o ∷ os) opens fits =
      ap (λ fs. requests_out s text r (o ∷ os) ++ map sent_final fs)
      (finals_of_unsent s.names s.gates text s.core.queries r s.core.queries.records sound.standing d face s.core.queries.closed (sound.apart face.0 opens) o os (with_queries s.core (asked (o ∷ os))) refl (all_away s.core.queries (o ∷ os) fits) refl)
      ∙ ap (λ l. requests_out s text r (o ∷ os) ++ l) (by (none_leaves (requests_out s text r (o ∷ os))))
    where
      by : (b : Bool) → map sent_final (cond b (last ∷ []) []) ≡ cond b (sent_final last ∷ []) []
      by true = refl
      by false = refl

  left_is : (os : List QueryTargetQabl) → (finish (with_queries s.core (asked os)) (unsent (out os))).core ≡ without_all (unsent (asked_out s face text r os)) (with_queries s.core (asked os))
  left_is os =
      finished (with_queries s.core (asked os)) (unsent (out os)) (ask_none_over face r.id r.qos (map target_of os) d s.core.queries sound.standing)
      ∙ ap (λ places. without_all places (with_queries s.core (asked os))) (by os ∙ sym (unsent_behind (requests_out s text r os) last (none_leaves (requests_out s text r os))))
    where
      by : (xs : List QueryTargetQabl) → unsent (out xs) ≡ unsent (requests_out s text r xs)
      by [] = no_offer
      by (x ∷ xs) = refl

-- an open face asks, and its targets have ids
module _ (s : State) (sound : IsSound s) (face : FaceId) (sd : Resolved) (r : Request) (now : ℕ) (opened : OpenFace) (there : at face.0 s.core.faces ≡ Some opened)
    (fits : lacks_number (map target_of (select_for s.core face sd r (Some opened))) s.core.queries ≡ false) where
  abbrev t : TextCall
  t = asking face sd r now

  abbrev offers : Option OpenFace → List QueryTargetQabl
  offers o = select_for s.core face sd r o

  abbrev until : ℕ
  until = deadline s.core r.timeout now

  passes : refusal_of s.core t ≡ None
  passes = ask_fits s face sd r now opened there fits

  enough : list_any (is_full s.core.queries) (map target_of (offers (Some opened))) ≡ false
  enough = second (s.core.queries.requests + 1 == 2 ^ 64) (list_any (is_full s.core.queries) (map target_of (offers (Some opened)))) fits
    where
      second : (a b : Bool) → (a || b) ≡ false → b ≡ false
      second true b e = absurd (true≢false e)
      second false b e = e

  pub asked_answer : ◌≡◌ {A = Step} (record { outcome = outcome.Asked s.core.queries.requests; handed = asked_out s face (full_text sd) r (offers (Some opened)) }) (answer s t)
  asked_answer =
      sym (plain_goes s t refl passes
      ∙ (λ j. step_by (there j))
      ∙ ap (λ hs. record { outcome = outcome.Asked s.core.queries.requests; handed = hs }) (out_is s sound face (full_text sd) r until (offers (Some opened)) (ap is_some there) enough))
    where
      step_by : Option OpenFace → Step
      step_by o =
          let hs = out s sound face (full_text sd) r until (offers o) in
          record { outcome = outcome.Asked s.core.queries.requests; handed = hs ++ map sent_final (finish (with_queries s.core (asked s sound face (full_text sd) r until (offers o))) (unsent hs)).finals }

  pub asked_settle : settle s t ≡ record s { core = without_all (unsent (asked_out s face (full_text sd) r (offers (Some opened)))) (with_queries s.core (after_ask face r.id r.qos (map target_of (offers (Some opened))) until s.core.queries)) }
  asked_settle =
      plain_leaves s t refl passes
      ∙ (λ j. state_by (there j))
      ∙ ap (λ (c : Core). record s { core = c }) (left_is s sound face (full_text sd) r until (offers (Some opened)))
    where
      state_by : Option OpenFace → State
      state_by o =
          record s { core = (finish (with_queries s.core (asked s sound face (full_text sd) r until (offers o))) (unsent (out s sound face (full_text sd) r until (offers o)))).core }
