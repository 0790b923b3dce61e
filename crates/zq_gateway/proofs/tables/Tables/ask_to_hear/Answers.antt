use Rattle.std.proofs.Common.{◌≡◌, ◌∙◌, sym, ap, subst, ℕ, false, true, List, Option, Some, None, Result}
use Rattle.std.specs.Prelude.{IfOk}
use Rattle.std.specs.Option.{is_some, option_map}
use Rattle.zq_tables.specs.declared.resolved.Resolved.{Resolved}
use Rattle.zq_interests.specs.Interests.{asks_another, with_interest}
use Rattle.zq_machine.specs.declared.call.Refusal.{Refusal}
use Rattle.zq_machine.specs.Deciding.{accepted}
use Rattle.zq_machine.specs.Selecting.{Manner, asked_by, full_text}
use Rattle.zq_machine.specs.Neighbours.{asked_at}
use Rattle.zq_machine.specs.State.{State, at, is_open}
use Rattle.zq_machine.specs.TextCalls.{hearing}
use Rattle.zq_gateway.specs.Asking.{asking_refusal, interest_looks, said_key}
use Rattle.zq_gateway.specs.Gathering.{OnlyIdsLack}
use Rattle.zq_gateway.specs.Making.{Settles}
use Rattle.zq_gateway.proofs.Asking.{hearing_only}
use Rattle.zq_gateway.proofs.tables.Tables.ask_to_hear.Goals as goal

pub answer_interest-requires-clause-ids : goal.answer_interest-requires-clause-ids
answer_interest-requires-clause-ids c =
    let s : State = c.args.self.now in
    let v = c.self.view_is in
    let face = c.args.face in
    let id = c.args.id in
    let m : Manner = record { keys = c.args.keys; aggregate = c.args.aggregate } in
    let sd : Option Resolved = c.args.said.now in
    let home : at face.0 s.core.faces ≡ Some c.in-Some.opened = sym c.in-Some.ensures.found in
    let opens : is_open face.0 s.core ≡ true = ap is_some home in
    let key : Option (List ℕ) = c.in-Ok.key in
    let is : key ≡ option_map full_text sd = subst (λ (x : Result (Option (List ℕ)) Refusal). IfOk x (λ k. k ≡ option_map full_text sd)) c.in-Ok.is c.in_ok-key.ensures.key in
    let valid : asking_refusal sd ≡ None = subst (λ (x : Result (Option (List ℕ)) Refusal). IfOk x (λ k. asking_refusal sd ≡ None)) c.in-Ok.is c.in_ok-key.ensures.valid in
    let held = ap (λ (x : State). x.core.interests) v in
    let free : asks_another face.0 id (asked_by m sd).key s.core.interests ≡ false =
    (λ j. asks_another face.0 id (sym (c.as_ref.ensures.value ∙ is) j) (sym held j)) ∙ sym c.asks_another.ensures ∙ c.if-asks_another.false in
    let says : sd ≡ said_key key = subst (λ (x : Result (Option (List ℕ)) Refusal). IfOk x (λ k. sd ≡ said_key k)) c.in-Ok.is c.in_ok-key.ensures.says in
    subst (λ o. OnlyIdsLack s.core (hearing face id m o)) says (hearing_only s.core face id m sd opens valid free)

pub answer_interest-requires-clause-dues : goal.answer_interest-requires-clause-dues
answer_interest-requires-clause-dues c =
    let s : State = c.args.self.now in
    let v = c.self.view_is in
    let face = c.args.face in
    let id = c.args.id in
    let m : Manner = record { keys = c.args.keys; aggregate = c.args.aggregate } in
    let sd : Option Resolved = c.args.said.now in
    let t = hearing face id m sd in
    let home : at face.0 s.core.faces ≡ Some c.in-Some.opened = sym c.in-Some.ensures.found in
    let key : Option (List ℕ) = c.in-Ok.key in
    let is : key ≡ option_map full_text sd = subst (λ (x : Result (Option (List ℕ)) Refusal). IfOk x (λ k. k ≡ option_map full_text sd)) c.in-Ok.is c.in_ok-key.ensures.key in
    let held = ap (λ (x : State). x.core.interests) v in
    let dues = c.in_ok-dues.dues in
    let are : dues ≡ interest_looks s.core face id m sd =
    c.in_ok-dues.ensures (accepted s.core t) home (ap (λ (x : State). x.core.hats) v)
    ∙ (λ j. asked_at (accepted s.core t) (with_interest face.0 id (record { key = is j; keys = c.args.keys; aggregate = c.args.aggregate }) (held j)) face.0 (record { key = is j; keys = c.args.keys; aggregate = c.args.aggregate })) in
    let says : sd ≡ said_key key = subst (λ (x : Result (Option (List ℕ)) Refusal). IfOk x (λ k. sd ≡ said_key k)) c.in-Ok.is c.in_ok-key.ensures.says in
    subst (λ o. dues ≡ interest_looks s.core face id m o) says are

pub returns : goal.returns
returns c =
    let s : State = c.args.self.now in
    let m : Manner = record { keys = c.args.keys; aggregate = c.args.aggregate } in
    let sd : Option Resolved = c.args.said.now in
    let key : Option (List ℕ) = c.in-Ok.key in
    let says : sd ≡ said_key key = subst (λ (x : Result (Option (List ℕ)) Refusal). IfOk x (λ k. sd ≡ said_key k)) c.in-Ok.is c.in_ok-key.ensures.says in
    subst (λ (o : Option Resolved). Settles s c.answer_interest.new.self (hearing c.args.face c.args.id m o) c.answer_interest.result) (sym says) c.answer_interest.ensures
