use Rattle.std.proofs.Common.{◌∙◌, ap}
use Rattle.zq_strategy.specs.Kept.{has_face}
use Rattle.zq_strategy.specs.Marks.{marked}
use Rattle.zq_strategy.specs.Regions.{strategy_of}
use Rattle.zq_strategy.specs.State.{HatState}
use Rattle.zq_hat.proofs.Marking.{mark_tied}
use Rattle.zq_hat.proofs.Seated.{marked_zid, tried_seated}
use Rattle.zq_hat.proofs.hat.Hat.finalize_local_interest.Goals as goal

pub invariant_of-self : goal.invariant_of-self
invariant_of-self c =
    let i = c.self.inside in
    let n = c.args.face.0 in
    let mark = c.args.mark.now in
    let fs = c.set_mark.new.faces.entries in
    let there = ap (λ (s : HatState). has_face n s) c.self.view_is ∙ c.requires in
    record {
      tied = mark_tied i.faces.entries i.index c.self.invariant.tied n mark c.args.set fs c.set_mark.result there c.set_mark.ensures.ok c.set_mark.ensures.err;
      seated = tried_seated (strategy_of i.region i.north_mode) i.faces.entries i.seats c.self.invariant.seated n fs (marked mark c.args.set) (marked_zid mark c.args.set) c.set_mark.result there c.set_mark.ensures.ok c.set_mark.ensures.err;
    }
