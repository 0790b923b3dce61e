use Rattle.std.proofs.Common.{◌≡◌, ◌∙◌, ap, sym, subst, ℕ, Option, false}
use Rattle.zq_message.specs.declared.message.Zid.{Zid}
use Rattle.zq_strategy.specs.Nets.{named_trees}
use Rattle.zq_strategy.specs.Networks.{any_gives}
use Rattle.zq_strategy.specs.Seating as seat
use Rattle.zq_strategy.specs.declared.types.Strategy.{Strategy}
use Rattle.zq_strategy.specs.Regions.{in_routers, strategy_at}
use Rattle.zq_strategy.specs.Routers.{face_with}
use Rattle.zq_strategy.specs.State.{HatState}
use Rattle.zq_hat.specs.Tied.{IsSeated}
use Rattle.zq_hat.proofs.Seated.{seats_are}
use Rattle.zq_hat.proofs.hat.Hat.wants_own.Goals as goal

pub returns-in_ok-gives-in-Router : goal.returns-in_ok-gives-in-Router
returns-in_ok-gives-in-Router c =
    let i = c.self.inside in
    let net = c.args.net.now in
    let now = c.args.self.now in
    let named = sym c.strategy.ensures ∙ c.in-Router.is in
    let routers = ap strategy_at c.self.view_is ∙ named in
    let seated = subst (λ (k : Strategy). IsSeated k i.faces.entries i.seats) routers c.self.invariant.seated in
    let found : (λ (z : Zid). seat.seated z i.seats) ≡ (λ (z : Zid). face_with z i.faces.entries) = λ j z. seats_are z i.faces.entries i.seats c.self.invariant.tied.numbers seated j in
    c.in_ok-gives-in-Router.ensures
    ∙ ap (λ (face : Zid → Option ℕ). any_gives face i.net net i.own net.nodes (named_trees net)) found
    ∙ ap (λ (s : HatState). any_gives (λ (z : Zid). face_with z s.faces) s.network net s.own net.nodes (named_trees net)) c.self.view_is
    ∙ ap (λ (k : Strategy). in_routers k (any_gives (λ (z : Zid). face_with z now.faces) now.network net now.own net.nodes (named_trees net)) false) (sym named)
