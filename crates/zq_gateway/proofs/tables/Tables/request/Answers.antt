use Rattle.std.proofs.Common.{◌≡◌, ◌∙◌, refl, sym, ap, map, List, Some, false}
use Rattle.zq_strategy.specs.declared.offer.QueryTargetQabl.{QueryTargetQabl}
use Rattle.zq_query.specs.Asking.{after_ask, asking_at, given_place, lacks_number}
use Rattle.zq_query.specs.Records.{QueryState, any_over, letting_go_all}
use Rattle.zq_query.proofs.Balance.{ask_none_over}
use Rattle.zq_machine.specs.declared.call.Outcome.TheVariants as outcome
use Rattle.zq_machine.specs.Deciding.{deadline, with_queries}
use Rattle.zq_machine.specs.Selecting.{full_text, select_for, target_of}
use Rattle.zq_machine.specs.State.{State}
use Rattle.zq_machine.specs.Writing.{unsent}
use Rattle.zq_gateway.specs.Requesting.{asked_out}
use Rattle.zq_gateway.proofs.Reached.{reached_in_order}
use Rattle.zq_gateway.proofs.Requesting.{asked_answer, asked_settle}
use Rattle.zq_gateway.proofs.tables.Tables.request.Goals as goal

pub returns-clause-settles : goal.returns-clause-settles
returns-clause-settles c =
    let s : State = c.args.self.now in
    let sound = (reached_in_order s c.requires.reached).sound in
    let v = c.self.view_is in
    let w = c.self-2.view_is ∙ c.in_ok-handed.ensures.same in
    let r = c.args.request.now in
    let face = c.args.face in
    let text = full_text c.args.said in
    let there = sym c.in-Some.ensures.found in
    let os : List QueryTargetQabl = select_for s.core face c.args.said r (Some c.in-Some.opened) in
    let queries = ap (λ (x : State). x.core.queries) v in
    let later = ap (λ (x : State). x.core.queries) w in
    let targets : c.as_slice-2.result.now ≡ map target_of os = c.as_slice-2.ensures.value ∙ c.in_ok-targets.ensures ∙ ap (map target_of) (c.as_slice.ensures.value ∙ c.in_ok-offers.ensures.offers) in
    let fits : lacks_number (map target_of os) s.core.queries ≡ false = (λ j. lacks_number (sym targets j) (sym queries j)) ∙ c.in-Ok.ensures.free in
    let until : c.saturating_add-deadline.result ≡ deadline s.core r.timeout c.args.now = rw (← w, c.saturating_add-deadline.ensures, c.unwrap_or.ensures, c.timeout.ensures) refl in
    let places : c.as_slice-5.result.now ≡ map (given_place s.core.queries) (map target_of os) = c.as_slice-5.ensures ∙ c.in-Ok.ensures.places ∙ (λ j. map (given_place (queries j)) (targets j)) in
    let asked : c.ask_planned.new.self ≡ after_ask face r.id r.qos (map target_of os) (deadline s.core r.timeout c.args.now) s.core.queries =
    c.in_ok-ask_planned.ensures.ok ∙ (λ j. asking_at face r.id r.qos (places j) (until j) (later j)) in
    let handed : c.in_ok-handed.handed ≡ asked_out s face text r os = c.in_ok-handed.ensures.out ∙ ap (asked_out s face text r) (c.as_slice-3.ensures.value ∙ c.in_ok-offers.ensures.offers) in
    let standing = ap (λ (q : QueryState). any_over q.records) asked ∙ ask_none_over face r.id r.qos (map target_of os) (deadline s.core r.timeout c.args.now) s.core.queries sound.standing in
    let gone = c.let_go_unsent.ensures standing ∙ (λ j. record (asked j) { records = letting_go_all (asked j).records (unsent ((c.as_slice-6.ensures ∙ handed) j)) }) in
    record {
      step =
          (λ j. record { outcome = outcome.Asked ((c.next_number-number.ensures ∙ ap (λ (q : QueryState). q.requests) later) j); handed = handed j })
          ∙ asked_answer s sound face c.args.said r c.args.now c.in-Some.opened there fits;
      after =
          (λ j. record { core = with_queries (w j).core (gone j); names = (w j).names; gates = (w j).gates })
          ∙ sym (asked_settle s sound face c.args.said r c.args.now c.in-Some.opened there fits);
      err = tt;
    }
