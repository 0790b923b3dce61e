use Rattle.std.proofs.Common.{◌≡◌, ◌∙◌, sym, subst, ap, fold, Some, List, ℕ}
use Rattle.std.specs.BTreeMap.{is_at}
use Rattle.std.specs.Set.{remove_key}
use Rattle.zq_message.specs.declared.message.Zid.{Zid}
use Rattle.zq_strategy.specs.Seating.{Seat, seat_cmp}
use Rattle.zq_strategy.specs.Kept.{at_id}
use Rattle.zq_strategy.specs.Regions.{strategy_of}
use Rattle.zq_strategy.specs.State.{FaceState}
use Rattle.zq_hat.specs.Tied.{IsSeated, without_declared}
use Rattle.zq_hat.proofs.Seated.{closed_seated}
use Rattle.zq_hat.proofs.Turns.{forget_tied}
use Rattle.zq_hat.proofs.hat.Hat.forget_face.Goals as goal

pub invariant_of-self : goal.invariant_of-self
invariant_of-self c =
    let i = c.self.inside in
    let n = c.args.face.0 in
    let k = strategy_of i.region i.north_mode in
    let gone = c.in-Some.gone in
    let there : at_id n i.faces.entries ≡ Some gone = sym c.in-Some.ensures.value in
    let left = c.give_back.ensures ∙ ap (λ (z : Zid). remove_key (is_at (seat_cmp (z.0, n))) i.seats) c.zid.ensures in
    record {
      tied =
          forget_tied i.faces.entries i.index c.self.invariant.tied n c.remove.new.self.entries c.forget.new.index gone there c.in-Some.ensures.entries
          (c.forget.ensures ∙ ap (fold (without_declared n) i.index) c.declared.ensures);
      seated =
          subst (λ (l : List Seat). IsSeated k c.remove.new.self.entries l) (sym left)
          (subst (λ (fs : List (ℕ × FaceState)). IsSeated k fs (remove_key (is_at (seat_cmp (gone.zid.0, n))) i.seats)) (sym c.in-Some.ensures.entries)
          (closed_seated i.faces.entries i.seats n gone there c.self.invariant.tied.numbers k c.self.invariant.seated));
    }
