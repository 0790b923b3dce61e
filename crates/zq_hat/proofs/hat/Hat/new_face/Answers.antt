use Rattle.std.proofs.Common.{◌≡◌, ◌∙◌, [], ap, subst, sym, None, List, ℕ}
use Rattle.std.specs.BTreeMap.{is_at}
use Rattle.std.specs.BTreeSet.{insert_key}
use Rattle.std.specs.Set.{remove_key}
use Rattle.zq_strategy.specs.Seating.{Seat, seat_cmp}
use Rattle.zq_strategy.specs.Kept.{at_id, has_face}
use Rattle.zq_strategy.specs.Regions.{in_routers, strategy_of}
use Rattle.zq_strategy.specs.State.{FaceState, HatState}
use Rattle.zq_hat.specs.Tied.{IsSeated, IsTied}
use Rattle.zq_hat.proofs.Keeping.{opened_tied}
use Rattle.zq_hat.proofs.Seated.{none_there, opened_seated, undone_seated}
use Rattle.zq_hat.proofs.hat.Hat.new_face.Goals as goal

pub invariant_of-self-in-Ok-insert : goal.invariant_of-self-in-Ok-insert
invariant_of-self-in-Ok-insert c =
    let i = c.self.inside in
    let n = c.args.face.face.0 in
    let k = strategy_of i.region i.north_mode in
    let faces = i.faces.entries in
    let f = c.new-opened.result in
    let none : at_id n faces ≡ None = none_there (at_id n faces) (ap (λ (s : HatState). has_face n s) c.self.view_is ∙ c.requires) in
    let bare : f.declared ≡ [] = ap (λ (x : FaceState). x.declared) c.new-opened.ensures in
    let zid = ap (λ (x : FaceState). x.zid) c.new-opened.ensures in
    let seats = c.in-Ok.ensures.ok ∙ (λ j. in_routers (c.strategy_of-strategy.ensures j) (insert_key seat_cmp i.seats ((sym zid j).0, n)) i.seats) in
    let comes = sym c.in-Ok-insert.ensures.entries in
    record {
      tied = subst (λ (l : List (ℕ × FaceState)). IsTied l i.index) comes (opened_tied faces i.index c.self.invariant.tied n f none bare);
      seated =
          subst (λ (l : List Seat). IsSeated k c.insert.new.self.entries l) (sym seats)
          (subst (λ (l : List (ℕ × FaceState)). IsSeated k l (in_routers k (insert_key seat_cmp i.seats (f.zid.0, n)) i.seats)) comes (opened_seated faces i.seats n none f k c.self.invariant.seated));
    }

pub invariant_of-self-in-Err-insert : goal.invariant_of-self-in-Err-insert
invariant_of-self-in-Err-insert c =
    let i = c.self.inside in
    let n = c.args.face.face.0 in
    let z = c.args.face.zid.0 in
    let k = strategy_of i.region i.north_mode in
    let faces = i.faces.entries in
    let none : at_id n faces ≡ None = none_there (at_id n faces) (ap (λ (s : HatState). has_face n s) c.self.view_is ∙ c.requires) in
    let taken = c.in-Ok.ensures.ok ∙ ap (λ j. in_routers j (insert_key seat_cmp i.seats (z, n)) i.seats) c.strategy_of-strategy.ensures in
    let left = c.give_back.ensures ∙ ap (remove_key (is_at (seat_cmp (z, n)))) taken in
    let stay = sym c.in-Err-insert.ensures.err in
    record {
      tied = subst (λ (l : List (ℕ × FaceState)). IsTied l i.index) stay c.self.invariant.tied;
      seated =
          subst (λ (l : List Seat). IsSeated k c.insert.new.self.entries l) (sym left)
          (subst (λ (l : List (ℕ × FaceState)). IsSeated k l (remove_key (is_at (seat_cmp (z, n))) (in_routers k (insert_key seat_cmp i.seats (z, n)) i.seats))) stay (undone_seated faces i.seats n none z k c.self.invariant.seated));
    }
