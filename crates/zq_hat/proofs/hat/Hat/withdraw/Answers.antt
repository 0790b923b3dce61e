use Rattle.std.proofs.Common.{◌∙◌, ap}
use Rattle.std.specs.Option.{option_map}
use Rattle.zq_strategy.specs.Kept.{declaration_at}
use Rattle.zq_strategy.specs.Regions.{strategy_of}
use Rattle.zq_strategy.specs.State.{HatState}
use Rattle.zq_hat.proofs.Seated.{withdrawn_seated}
use Rattle.zq_hat.proofs.Turns.{withdraw_tied}
use Rattle.zq_hat.proofs.hat.Hat.withdraw.Goals as goal

pub invariant_of-self : goal.invariant_of-self
invariant_of-self c =
    let i = c.self.inside in
    let n = c.args.face.0 in
    let key = c.args.key.now in
    let fs = c.withdraw.new.faces.entries in
    let stands = ap (λ (s : HatState). option_map (λ d. d.key) (declaration_at n c.args.id s)) c.self.view_is ∙ c.requires in
    record {
      tied = withdraw_tied i.faces.entries i.index c.self.invariant.tied n fs c.take.new.self key c.args.id stands c.withdraw.ensures c.take.ensures;
      seated = withdrawn_seated (strategy_of i.region i.north_mode) i.faces.entries i.seats c.self.invariant.seated n fs key c.args.id stands c.withdraw.ensures;
    }
