-- A request on what its face may not ask for selects nothing.
use Rattle.std.proofs.Common.{◌≡◌, ◌∙◌, refl, ap, subst, ℕ, true, false, cond, List, [], ◌∷◌, ◌++◌, Option, Some, None}
use Rattle.std.specs.List.{list_any}
use Rattle.std.specs.Map.{values_of}
use Rattle.zq_message.specs.declared.message.FaceId.{FaceId}
use Rattle.zq_message.specs.declared.message.Request.{Request}
use Rattle.zq_strategy.specs.declared.offer.QueryTargetQabl.{QueryTargetQabl}
use Rattle.zq_tables.specs.declared.resolved.Resolved.{Resolved}
use Rattle.zq_machine.specs.declared.call.Call.{Call}
use Rattle.zq_machine.specs.declared.call.Call.TheVariants as call
use Rattle.zq_machine.specs.declared.call.Refusal.{Refusal}
use Rattle.zq_machine.specs.declared.face.OpenFace.{OpenFace}
use Rattle.zq_machine.specs.Behind.{IsBarred}
use Rattle.zq_machine.specs.Deciding.{is_accepted, refusal_of}
use Rattle.zq_machine.specs.Gates.{denied_by, gate_at}
use Rattle.zq_machine.specs.Handing.{Handed}
use Rattle.zq_machine.specs.Headline.{DenyPromise, HandsEach, HandsRequest, RefusesBy, asks, none_leaves, own_final}
use Rattle.zq_machine.specs.Machine.{step}
use Rattle.zq_machine.specs.Selecting.{asker_in, full_text, route_for, says_key, select, select_for}
use Rattle.zq_machine.specs.State.{Core, State, at}
use Rattle.zq_machine.specs.TextCalls.{allowed, asked_said, read}
use Rattle.zq_machine.proofs.Denying.{barred_asks}
use Rattle.zq_machine.proofs.Finals.{IsSound}
use Rattle.zq_machine.proofs.Promises.{refusal_promise, request_promise}

-- what says no key selects nothing
none_selected : (c : Core) (asker : FaceId) (sd : Resolved) (r : Request) → says_key sd ≡ false → select c asker sd r ≡ []
none_selected c asker sd r none = by (at asker.0 c.faces)
  where
    by : (o : Option OpenFace) → select_for c asker sd r o ≡ []
    by None = refl
    by (Some opened) = ap (λ b. cond b (values_of (route_for c (asker_in c asker r.node opened) (full_text sd) r.target)) []) none

-- and without offers the final is all that is handed
none_each : (s : State) (text : List ℕ) (r : Request) (hs : List Handed) → HandsEach s text r [] hs → hs ≡ []
none_each s text r [] each = refl
none_each s text r (h ∷ hs) each = absurd each

final_alone : (s : State) (face : FaceId) (text : List ℕ) (r : Request) (os : List QueryTargetQabl) (hs : List Handed) → os ≡ [] → HandsRequest s face text r os hs → hs ≡ own_final s face r ∷ []
final_alone s face text r os hs none hands =
    let alone : HandsRequest s face text r [] hs = subst (λ xs. HandsRequest s face text r xs hs) none hands in
    alone.all ∙ ap (λ l. l ++ cond (none_leaves l) (own_final s face r ∷ []) []) (none_each s text r alone.requests alone.each)

module _ (s : State) (i : IsSound s) (face : FaceId) (r : Request) (now : ℕ) (barred : IsBarred s face r) where
  says_none : says_key (asked_said face r s) ≡ false
  says_none =
      ap (λ sd. says_key (allowed (denied_by (gate_at face.0 s.gates)) sd)) barred.1
      ∙ barred_asks (denied_by (gate_at face.0 s.gates)) barred.0 barred.2

  ends_alone : is_accepted (step s (call.Request face r now)).outcome ≡ true → (step s (call.Request face r now)).handed ≡ own_final s face r ∷ []
  ends_alone on =
      final_alone s face (full_text (asked_said face r s)) r (select s.core face (asked_said face r s) r) (step s (call.Request face r now)).handed
      (none_selected s.core face (asked_said face r s) r says_none)
      (request_promise s (call.Request face r now) i on).1

  asks_none : list_any asks (step s (call.Request face r now)).handed ≡ false
  asks_none = by (refusal_of s.core (read s (call.Request face r now))) (refusal_promise s (call.Request face r now))
    where
      by : (o : Option Refusal) → RefusesBy o s (call.Request face r now) → list_any asks (step s (call.Request face r now)).handed ≡ false
      by (Some x) refuses = ap (λ t. list_any asks t.handed) refuses.0
      by None on = ap (list_any asks) (ends_alone on)

pub deny_promise : (s : State) (c : Call) → IsSound s → DenyPromise s c (step s c)
deny_promise s (call.Request face r now) i = λ barred. (asks_none s i face r now barred, ends_alone s i face r now barred)
deny_promise s c i = tt
