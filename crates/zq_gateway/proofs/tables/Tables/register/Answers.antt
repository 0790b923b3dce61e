use Rattle.std.proofs.Common.{◌≡◌, ◌∙◌, ap, sym, subst, cond, true, false}
use Rattle.zq_machine.specs.TextCalls.{announcing, by_router, declaring, said}
use Rattle.zq_gateway.specs.Making.{Settles}
use Rattle.zq_gateway.proofs.tables.Tables.register.Goals as goal

pub returns-then-is_routing : goal.returns-then-is_routing
returns-then-is_routing c =
    let old = c.args.self.now in
    let a = c.args in
    let routing : by_router a.face old.core ≡ true = sym c.is_routing.ensures ∙ c.if-is_routing.true in
    subst (λ t. Settles old c.change_entry.new.self t c.change_entry.result) (ap (λ x. announcing a.face x a.info a.node) c.in_ok-said.ensures ∙ ap (λ b. cond b (announcing a.face (said a.face a.wire.now old) a.info a.node) (declaring a.face a.id (said a.face a.wire.now old) a.info a.node)) (sym routing)) c.change_entry.ensures

pub returns : goal.returns
returns c =
    let old = c.args.self.now in
    let a = c.args in
    let apart : by_router a.face old.core ≡ false = sym c.is_routing.ensures ∙ c.if-is_routing.false in
    subst (λ t. Settles old c.declare_queryable.new.self t c.declare_queryable.result) (ap (λ x. declaring a.face a.id x a.info a.node) c.in_ok-said.ensures ∙ ap (λ b. cond b (announcing a.face (said a.face a.wire.now old) a.info a.node) (declaring a.face a.id (said a.face a.wire.now old) a.info a.node)) (sym apart)) c.declare_queryable.ensures

pub change_entry-requires-clause-routing : goal.change_entry-requires-clause-routing
change_entry-requires-clause-routing c = sym c.is_routing.ensures ∙ c.if-is_routing.true
