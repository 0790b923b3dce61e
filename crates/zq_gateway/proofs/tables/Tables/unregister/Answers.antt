use Rattle.std.proofs.Common.{◌≡◌, ◌∙◌, ap, sym, subst, cond, true, false}
use Rattle.zq_machine.specs.State.{State}
use Rattle.zq_machine.specs.TextCalls.{by_router, retracting, said_or_none, withdrawing}
use Rattle.zq_gateway.specs.Making.{Settles}
use Rattle.zq_gateway.proofs.tables.Tables.unregister.Goals as goal

pub returns-then-is_routing : goal.returns-then-is_routing
returns-then-is_routing c =
    let old : State = c.args.self.now in
    let a = c.args in
    let routing : by_router a.face old.core ≡ true = sym c.is_routing.ensures ∙ c.if-is_routing.true in
    subst (λ t. Settles old c.change_entry.new.self t c.change_entry.result) (ap (λ x. retracting a.face x a.node) c.in_ok-said.ensures ∙ ap (λ b. cond b (retracting a.face (said_or_none a.face a.wire.now old) a.node) (withdrawing a.face a.id)) (sym routing)) c.change_entry.ensures

pub returns : goal.returns
returns c =
    let old : State = c.args.self.now in
    let a = c.args in
    let apart : by_router a.face old.core ≡ false = sym c.is_routing.ensures ∙ c.if-is_routing.false in
    subst (λ t. Settles old c.undeclare_queryable.new.self t c.undeclare_queryable.result) (ap (λ b. cond b (retracting a.face (said_or_none a.face a.wire.now old) a.node) (withdrawing a.face a.id)) (sym apart)) c.undeclare_queryable.ensures

pub change_entry-requires-clause-routing : goal.change_entry-requires-clause-routing
change_entry-requires-clause-routing c = sym c.is_routing.ensures ∙ c.if-is_routing.true
