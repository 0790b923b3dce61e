use Rattle.std.proofs.Common.{◌≡◌, [], sym, subst, ℕ, List}
use Rattle.zq_strategy.specs.Seating.{Seat}
use Rattle.zq_strategy.specs.Regions.{strategy_of}
use Rattle.zq_hat.specs.Tied.{IsSeated, IsTied}
use Rattle.zq_index.specs.Holders.{Index}
use Rattle.zq_strategy.specs.State.{FaceState}
use Rattle.zq_hat.proofs.Keeping.{nothing_tied}
use Rattle.zq_hat.proofs.Seated.{nothing_seated}
use Rattle.zq_hat.proofs.hat.Hat.new.Goals as goal

pub invariant_of-result : goal.invariant_of-result
invariant_of-result c =
    let bare : c.new.result.entries ≡ [] = c.new.ensures.empty in
    let none : c.new-2.result ≡ [] = c.new-2.ensures in
    let seats : c.new-3.result ≡ [] = c.new-3.ensures in
    let k = strategy_of c.args.region c.args.north_mode in
    record {
      tied = subst (λ (x : Index). IsTied c.new.result.entries x) (sym none) (subst (λ (l : List (ℕ × FaceState)). IsTied l []) (sym bare) nothing_tied);
      seated = subst (λ (x : List Seat). IsSeated k c.new.result.entries x) (sym seats) (subst (λ (l : List (ℕ × FaceState)). IsSeated k l []) (sym bare) (nothing_seated k));
    }
