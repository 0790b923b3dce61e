use Rattle.std.proofs.Common.{◌≡◌, ◌∙◌, ap, subst, ℕ, Option}
use Rattle.std.specs.Prelude.{filter}
use Rattle.std.specs.List.{flat_map}
use Rattle.zq_message.specs.declared.message.Zid.{Zid}
use Rattle.zq_strategy.specs.Entries.{Entries}
use Rattle.zq_strategy.specs.Met.{is_met}
use Rattle.zq_strategy.specs.Seating as seat
use Rattle.zq_strategy.specs.declared.types.Strategy.{Strategy}
use Rattle.zq_strategy.specs.Regions.{strategy_at}
use Rattle.zq_strategy.specs.Routers.{face_with}
use Rattle.zq_strategy.specs.State.{HatState}
use Rattle.zq_hat.specs.Tied.{IsSeated}
use Rattle.zq_hat.specs.Unreached.{unreached_on}
use Rattle.zq_hat.proofs.Seated.{seats_are}
use Rattle.zq_hat.proofs.hat.Hat.unreached.Goals as goal

pub returns : goal.returns
returns c =
    let i = c.self.inside in
    let key = c.args.key.now in
    let source = c.source_for.result in
    let now = c.args.self.now in
    let seated = subst (λ (k : Strategy). IsSeated k i.faces.entries i.seats) (ap strategy_at c.self.view_is ∙ c.requires.routers) c.self.invariant.seated in
    let found : (λ (z : Zid). seat.seated z i.seats) ≡ (λ (z : Zid). face_with z i.faces.entries) = λ j z. seats_are z i.faces.entries i.seats c.self.invariant.tied.numbers seated j in
    c.from_vec.ensures
    ∙ c.in_ok-found.ensures
    ∙ ap (λ (es : Entries). flat_map (unreached_on i.net (λ z. seat.seated z i.seats) source) (filter (is_met key) es)) c.by_key.ensures.value
    ∙ ap (λ (face : Zid → Option ℕ). flat_map (unreached_on i.net face source) (filter (is_met key) i.entries)) found
    ∙ ap (λ (s : HatState). flat_map (unreached_on s.network (λ z. face_with z s.faces) source) (filter (is_met key) s.entries)) c.self.view_is
    ∙ ap (λ (o : Option ℕ). flat_map (unreached_on now.network (λ z. face_with z now.faces) o) (filter (is_met key) now.entries)) c.source_for.ensures
