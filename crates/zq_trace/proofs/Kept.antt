-- Every run keeps the headline.
use Rattle.std.proofs.Common.{◌≡◌, ◌∙◌, refl, sym, ap, ◌+◌, Bool, true, false, cond, List, [], ◌∷◌, ◌++◌, map, length, Option, Some, None, append-nil, append_assoc}
use Rattle.std.specs.Option.{option_map_or}
use Rattle.zq_message.specs.declared.message.FaceId.{FaceId}
use Rattle.zq_message.specs.declared.message.Request.{Request}
use Rattle.zq_machine.specs.declared.call.Call.{Call}
use Rattle.zq_machine.specs.declared.call.Call.TheVariants as call
use Rattle.zq_machine.specs.declared.call.Outcome.{Outcome}
use Rattle.zq_machine.specs.declared.call.Outcome.TheVariants as outcome
use Rattle.zq_machine.specs.declared.call.Refusal.{Refusal}
use Rattle.zq_machine.specs.declared.call.Step.{Step}
use Rattle.zq_machine.specs.Asked.{opened_by as machine_opened, opened_in}
use Rattle.zq_machine.specs.Configs.{Settings}
use Rattle.zq_machine.specs.Deciding.{is_accepted, refusal_of as machine_refusal}
use Rattle.zq_machine.specs.Headline.{RefusesBy}
use Rattle.zq_machine.specs.Machine.{step, steps, steps_from}
use Rattle.zq_machine.specs.State.{State}
use Rattle.zq_machine.specs.TextCalls.{asked_said, read}
use Rattle.zq_machine.specs.Selecting.{select as machine_select}
use Rattle.zq_trace.specs.Expected.{finals_of, shown}
use Rattle.zq_trace.specs.Faces.{Trace, faces, opened_by}
use Rattle.zq_trace.specs.Selected.{select}
use Rattle.zq_trace.specs.Refusals.{Lacks, next_face, refusal_of}
use Rattle.zq_trace.specs.Headline.{Headline, CallHeadline, HeadlineFrom, answer, granted, if_accepted, of_kind}
use Rattle.zq_trace.specs.Machine.{PicksAlike, RefusesAlike}
use Rattle.zq_trace.proofs.Asked.{counted_now}
use Rattle.zq_trace.proofs.Apart.{apart}
use Rattle.zq_trace.proofs.Finals.{finals_shown}
use Rattle.zq_trace.proofs.Order.{ordered}
use Rattle.zq_trace.proofs.Replies.{p, replies_shown, response_number}
use Rattle.zq_trace.proofs.Requests.{nothing_handed, requests_shown}
use Rattle.zq_trace.proofs.Runs.{IsRun, call_promise, reached, run_promise, state_of, steps_is, steps_of}

-- ---- faces are numbered
opened_same : (a : Outcome) → machine_opened a ≡ opened_by a
opened_same (outcome.Opened f) = refl
opened_same (outcome.Asked n) = refl
opened_same (outcome.Replied k) = refl
opened_same outcome.Done = refl
opened_same (outcome.Refused r) = refl

opened_more : (ts : List Step) (t : Step) → opened_in (ts ++ t ∷ []) ≡ opened_in ts ++ machine_opened t.outcome
opened_more [] t = append-nil (machine_opened t.outcome)
opened_more (u ∷ ts) t = ap (λ l. machine_opened u.outcome ++ l) (opened_more ts t) ∙ sym (append_assoc (machine_opened u.outcome) (opened_in ts) (machine_opened t.outcome))

pub faces_are : (past : Trace) → opened_in (steps_of past) ≡ faces past
faces_are [] = refl
faces_are (x ∷ past) = opened_more (steps_of past) x.1 ∙ (λ j. faces_are past j ++ opened_same x.1.outcome j)

pub faces_next : (config : Settings) (past : Trace) → IsRun config past → (reached config past).core.next_face ≡ next_face config past
faces_next config past run =
    ap (λ (s : State). s.core.next_face) (sym (state_of config past))
    ∙ (run_promise config past).next_face
    ∙ ap (λ l. config.start.faces + length (opened_in l)) (steps_is config past run)
    ∙ ap (λ l. config.start.faces + length l) (faces_are past)

-- ---- what a call is answered
module _ (config : Settings) (past : Trace) (run : IsRun config past) where
  abbrev s : State
  s = reached config past

  pub accepted_answer : (c : Call) → is_accepted (step s c).outcome ≡ true → (step s c).outcome ≡ granted config past c
  accepted_answer (call.Open x) h = (call_promise config past (call.Open x)).answer h ∙ ap (λ n. outcome.Opened (record { 0 = n })) (faces_next config past run)
  accepted_answer (call.Request face r now) h = ((call_promise config past (call.Request face r now)).requests h).0 ∙ ap outcome.Asked (sym (counted_now config past run))
  accepted_answer (call.Response face r) h = (p config past run face r h).outcome ∙ ap outcome.Replied (response_number config past run face r h)
  accepted_answer c h = (call_promise config past c).answer h

  module _ (lacks : Lacks) (refuses : (c : Call) → refusal_of lacks config past c ≡ machine_refusal s.core (read s c)) where
    answered : (c : Call) → (step s c).outcome ≡ answer lacks config past c
    answered c = by (machine_refusal s.core (read s c)) refl (call_promise config past c).refusals ∙ sym (ap (λ x. option_map_or (λ r. outcome.Refused r) x (granted config past c)) (refuses c))
      where
        by : (x : Option Refusal) → machine_refusal s.core (read s c) ≡ x → RefusesBy x s c → (step s c).outcome ≡ option_map_or (λ r. outcome.Refused r) (machine_refusal s.core (read s c)) (granted config past c)
        by (Some r) e told = ap (λ (t : Step). t.outcome) told.0 ∙ sym (ap (λ x. option_map_or (λ y. outcome.Refused y) x (granted config past c)) e)
        by None e told = accepted_answer c told ∙ sym (ap (λ x. option_map_or (λ y. outcome.Refused y) x (granted config past c)) e)

    finals_kept : (c : Call) → map (shown past) (of_kind 2 (step s c).handed) ≡ if_accepted (step s c) (finals_of config past c (step s c))
    finals_kept c = by (is_accepted (step s c).outcome) refl
      where
        by : (b : Bool) → is_accepted (step s c).outcome ≡ b → map (shown past) (of_kind 2 (step s c).handed) ≡ cond b (finals_of config past c (step s c)) []
        by true h = finals_shown config past run c
        by false h = ap (λ l. map (shown past) (of_kind 2 l)) (nothing_handed s c (call_promise config past c) h)

    pub call_keeps : ((face : FaceId) (r : Request) → select config past face r ≡ machine_select s.core face (asked_said face r s) r) → (c : Call) → CallHeadline lacks config past c (step s c)
    call_keeps picks c = record {
      answered = answered c;
      requests = requests_shown config past run picks c;
      replies = replies_shown config past run c;
      finals = finals_kept c;
      ordered = ordered config past run c;
      apart = apart c (step s c).handed (call_promise config past c).fit;
      silent = nothing_handed s c (call_promise config past c);
    }

kept_from : (config : Settings) (lacks : Lacks) → PicksAlike config → RefusesAlike lacks config → (cs : List Call) (past : Trace) → IsRun config past → HeadlineFrom lacks config past cs (steps_from (reached config past) cs)
kept_from config lacks picks refuses [] past run = tt
kept_from config lacks picks refuses (c ∷ cs) past run = (
  call_keeps config past run lacks (refuses past run) (picks past run) c,
  kept_from config lacks picks refuses cs ((c, step (reached config past) c) ∷ past) (refl, run),
)

pub headline : (lacks : Lacks) (config : Settings) → PicksAlike config → RefusesAlike lacks config → (calls : List Call) → Headline lacks config calls (steps config calls)
headline lacks config picks refuses calls = kept_from config lacks picks refuses calls [] tt
