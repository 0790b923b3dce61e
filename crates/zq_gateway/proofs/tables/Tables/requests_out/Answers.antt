use Rattle.std.proofs.Common.{◌≡◌, ◌∙◌, ap, subst, ℕ, cond, List, [], ◌∷◌, ◌++◌, map}
use Rattle.std.specs.Prelude.{IfOk}
use Rattle.zq_machine.specs.Deciding.{handed_request}
use Rattle.zq_machine.specs.Gates.{through}
use Rattle.zq_machine.specs.Handing.{Handed}
use Rattle.zq_machine.specs.Headline.{none_leaves}
use Rattle.zq_machine.specs.Selecting.{full_text}
use Rattle.zq_machine.specs.State.{State}
use Rattle.zq_machine.specs.Writing.{sent_final, write}
use Rattle.zq_gateway.specs.Requesting.{requests_out}
use Rattle.zq_gateway.proofs.tables.Tables.requests_out.Goals as goal

pub returns-clause-out : goal.returns-clause-out
returns-clause-out c =
    let s : State = c.args.self.now in
    let v = c.self.view_is in
    let r = c.args.request.now in
    let os = c.args.offers.now in
    let text : c.in_ok-text.text ≡ full_text c.args.said = c.in_ok-text.ensures ∙ c.into_text.ensures in
    let out : c.in_ok-handed-2.handed ≡ requests_out s (full_text c.args.said) r os =
    c.in_ok-handed-2.ensures.out
    ∙ (λ j. map (through ((c.as_str.ensures ∙ text) j) (v j).gates) (c.in_ok-handed.ensures j))
    ∙ (λ j. map (through (full_text c.args.said) s.gates) (write (v j).names (map (handed_request (v j).core.queries (text j) r) os))) in
    let number : c.next_number.result ≡ s.core.queries.requests = c.next_number.ensures ∙ ap (λ (z : State). z.core.queries.requests) v in
    let behind : List Handed → ℕ → List Handed = λ hs n. hs ++ cond (none_leaves hs) (sent_final (record { number = n; asker = c.args.face; id = r.id; qos = r.qos }) ∷ []) [] in
    subst (λ hs. IfOk c.with_final.result (λ l. l ≡ hs)) (λ j. behind (out j) (number j)) c.with_final.ensures
