use Rattle.std.proofs.Common.{◌≡◌, ◌∙◌, [], ap, subst, sym, IfOk, List, ℕ, Option}
use Rattle.std.specs.Option.{option_map}
use Rattle.zq_message.specs.declared.message.Zid.{Zid}
use Rattle.zq_strategy.specs.declared.network.Telling.{Telling}
use Rattle.zq_strategy.specs.Seating as seat
use Rattle.zq_strategy.specs.Seating.{number}
use Rattle.zq_strategy.specs.Tellings.{children_told}
use Rattle.zq_strategy.specs.declared.types.Strategy.{Strategy}
use Rattle.zq_strategy.specs.Regions.{in_routers, strategy_at}
use Rattle.zq_strategy.specs.Routers.{face_with}
use Rattle.zq_hat.specs.Tied.{IsSeated}
use Rattle.zq_strategy.specs.Trees.{to_children}
use Rattle.zq_hat.proofs.Seated.{seats_are}
use Rattle.zq_hat.proofs.hat.Hat.to_children.Goals as goal

pub returns-in-Router : goal.returns-in-Router
returns-in-Router c =
    let i = c.self.inside in
    let from = option_map number c.args.from in
    let root = c.args.root in
    let key = c.args.key.now in
    let routers = ap strategy_at c.self.view_is ∙ sym c.in-Router.ensures in
    let seated = subst (λ (k : Strategy). IsSeated k i.faces.entries i.seats) routers c.self.invariant.seated in
    let found : (λ (z : Zid). seat.seated z i.seats) ≡ (λ (z : Zid). face_with z i.faces.entries) = λ j z. seats_are z i.faces.entries i.seats c.self.invariant.tied.numbers seated j in
    subst (λ (l : List Telling). IfOk c.tell_children.result (λ ts. ts ≡ l))
    (ap (λ (face : Zid → Option ℕ). children_told from face i.net root key c.args.info) found
    ∙ ap (to_children from root key c.args.info) c.self.view_is
    ∙ ap (λ (k : Strategy). in_routers k (to_children from root key c.args.info c.args.self.now) []) c.in-Router.ensures)
    c.tell_children.ensures
