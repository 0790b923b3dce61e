use Rattle.std.proofs.Common.{◌≡◌, ◌∙◌, sym, ap, List, ℕ, cond}
use Rattle.std.specs.Prelude.{◌&&◌}
use Rattle.zq_key.specs.Key.{is_key}
use Rattle.zq_namespace.specs.Denied.{is_denied}
use Rattle.zq_tables.specs.declared.resolved.Resolved.TheVariants as said_word
use Rattle.zq_machine.specs.Gates.{denied_by, gate_at}
use Rattle.zq_machine.specs.Selecting.{full_text}
use Rattle.zq_machine.specs.State.{State}
use Rattle.zq_machine.specs.TextCalls.{allowed}
use Rattle.zq_gateway.proofs.Saying.{says_is}
use Rattle.zq_gateway.proofs.tables.Tables.asked_said.Goals as goal

pub returns-then-denies : goal.returns-then-denies
returns-then-denies c =
    let s : State = c.args.self.now in
    let denied : List (List ℕ) = denied_by (gate_at c.args.face.0 s.gates) in
    let read = c.in_ok-said.said in
    let looked : c.denies.result ≡ (is_key (full_text read) && is_denied denied (full_text read)) =
    c.denies.ensures ∙ (λ j. is_key (c.full_text.ensures j) && is_denied (denied_by (gate_at c.args.face.0 (c.self.view_is j).gates)) (c.full_text.ensures j)) in
    ap (λ b. cond b said_word.Empty read) (sym c.if-denies.true ∙ looked ∙ ap (λ b. b && is_denied denied (full_text read)) (sym (says_is read)))
    ∙ ap (allowed denied) c.in_ok-said.ensures
