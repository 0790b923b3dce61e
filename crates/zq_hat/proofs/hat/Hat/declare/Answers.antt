use Rattle.std.proofs.Common.{◌≡◌, ◌∙◌, sym, ap, refl, subst, ℕ, List, Some, true}
use Rattle.std.specs.Map.{set_value}
use Rattle.std.specs.BTreeMap.{is_at}
use Rattle.std.specs.Ordering.{nat_cmp}
use Rattle.zq_key.specs.Key.{is_key}
use Rattle.zq_strategy.specs.Kept.{at_id, has_face, clashes_at, declare}
use Rattle.zq_index.specs.Holders.{Place, with_holding, without_holding}
use Rattle.zq_strategy.specs.State.{HatState, FaceState}
use Rattle.zq_strategy.specs.Regions.{strategy_of}
use Rattle.zq_hat.specs.Tied.{IsSeated}
use Rattle.zq_hat.proofs.Seated.{set_seated}
use Rattle.zq_hat.proofs.Turns.{declare_tied, undone_tied}
use Rattle.zq_hat.proofs.hat.Hat.declare.Goals as goal

pub invariant_of-self-in-Ok-declare : goal.invariant_of-self-in-Ok-declare
invariant_of-self-in-Ok-declare c =
    let i = c.self.inside in
    let key = c.args.key.now in
    let there = ap (λ (s : HatState). has_face c.args.face.0 s) c.self.view_is ∙ c.requires.face in
    let free = ap (λ (s : HatState). clashes_at c.args.face.0 c.args.id key s) c.self.view_is ∙ c.requires.free in
    let valid : is_key key ≡ true = ap is_key (sym c.as_str.ensures.text) ∙ c.as_str.ensures.key in
    let put = c.in-Ok.ensures.ok ∙ ap (λ k. with_holding k (c.args.face.0, c.args.id) c.args.info i.index) c.as_str.ensures.text in
    let copied = ap (λ (k : List ℕ). declare c.args.id k c.args.info) c.in_ok-copy.ensures in
    let fs = c.declare.new.faces.entries in
    let says : (f : FaceState) → at_id c.args.face.0 i.faces.entries ≡ Some f → fs ≡ set_value (is_at (nat_cmp c.args.face.0)) i.faces.entries (declare c.args.id key c.args.info f) =
    λ f is. c.in-Ok-declare.ensures.ok f is ∙ ap (λ (g : FaceState → FaceState). set_value (is_at (nat_cmp c.args.face.0)) i.faces.entries (g f)) copied in
    record {
      tied = declare_tied i.faces.entries i.index c.self.invariant.tied c.args.face.0 fs c.put.new.self key c.args.id c.args.info there valid free says put;
      seated = set_seated (strategy_of i.region i.north_mode) i.faces.entries i.seats c.self.invariant.seated c.args.face.0 fs (declare c.args.id key c.args.info) (λ f. refl) there says;
    }

pub invariant_of-self-in-Err-declare : goal.invariant_of-self-in-Err-declare
invariant_of-self-in-Err-declare c =
    let i = c.self.inside in
    let key = c.args.key.now in
    let place : Place = (c.args.face.0, c.args.id) in
    let put = c.in-Ok.ensures.ok ∙ ap (λ k. with_holding k place c.args.info i.index) c.as_str.ensures.text in
    let fs = c.declare.new.faces.entries in
    record {
      tied =
          undone_tied i.faces.entries i.index c.self.invariant.tied c.args.face.0 fs c.take.new.self key c.args.id c.args.info c.in-Err-declare.ensures.absent c.in-Err-declare.ensures.err
          (c.take.ensures ∙ (λ j. without_holding (c.as_str-in-Err-declare.ensures.text j) place (put j)));
      seated = subst (λ (l : List (ℕ × FaceState)). IsSeated (strategy_of i.region i.north_mode) l i.seats) (sym c.in-Err-declare.ensures.err) c.self.invariant.seated;
    }
