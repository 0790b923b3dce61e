use Rattle.std.proofs.Common.{◌≡◌, ◌∙◌, ap, subst, sym, ℕ, Option, []}
use Rattle.zq_message.specs.declared.message.Zid.{Zid}
use Rattle.zq_strategy.specs.Entries.{staying}
use Rattle.zq_strategy.specs.Nets.{is_listed}
use Rattle.zq_strategy.specs.Networks.{network_told_by, standing_by}
use Rattle.zq_strategy.specs.Seating as seat
use Rattle.zq_strategy.specs.declared.types.Strategy.{Strategy}
use Rattle.zq_strategy.specs.Regions.{in_routers, strategy_at}
use Rattle.zq_strategy.specs.Routers.{face_with}
use Rattle.zq_strategy.specs.State.{HatState}
use Rattle.zq_hat.specs.Tied.{IsSeated}
use Rattle.zq_strategy.specs.Trees.{network_told}
use Rattle.zq_hat.proofs.Seated.{seats_are}
use Rattle.zq_hat.proofs.hat.Hat.network_tellings.Goals as goal

pub returns-in_ok-tellings-in-Router : goal.returns-in_ok-tellings-in-Router
returns-in_ok-tellings-in-Router c =
    let i = c.self.inside in
    let net = c.args.net.now in
    let own = c.args.own.now in
    let now = c.args.self.now in
    let named = sym c.strategy.ensures ∙ c.in-Router.is in
    let routers = ap strategy_at c.self.view_is ∙ named in
    let seated = subst (λ (k : Strategy). IsSeated k i.faces.entries i.seats) routers c.self.invariant.seated in
    let found : (λ (z : Zid). seat.seated z i.seats) ≡ (λ (z : Zid). face_with z i.faces.entries) = λ j z. seats_are z i.faces.entries i.seats c.self.invariant.tied.numbers seated j in
    let put : HatState → HatState = λ s. record s { network = net; entries = staying (is_listed net) s.entries } in
    c.in_ok-tellings-in-Router.ensures
    ∙ ap (λ (face : Zid → Option ℕ). network_told_by (standing_by i.own own (staying (is_listed net) i.entries)) face i.net net) found
    ∙ ap (λ (s : HatState). network_told own s.network (put s)) c.self.view_is
    ∙ ap (λ (k : Strategy). network_told own now.network (in_routers k (put now) now)) (sym named)
    ∙ ap (λ (k : Strategy). in_routers k (network_told own now.network (in_routers (strategy_at now) (put now) now)) []) (sym named)
