use Rattle.std.proofs.Common.{◌≡◌, ◌∙◌, refl, sym, ap, subst, fold, [], ◌∷◌, Some}
use Rattle.zq_strategy.specs.Kept.{unregistered}
use Rattle.zq_machine.specs.Deciding.{accepted}
use Rattle.zq_machine.specs.State.{State, change_hat, face_region, hat_at}
use Rattle.zq_machine.specs.TextCalls.{withdrawing}
use Rattle.zq_gateway.proofs.Seated.{reached_in_place}
use Rattle.zq_gateway.specs.Making.{IsReached}
use Rattle.std.specs.BTreeSet.{insert_key}
use Rattle.zq_index.specs.Texts.{text_cmp}
use Rattle.zq_gateway.proofs.Elsewhere.{beside, beside_at}
use Rattle.zq_gateway.proofs.Due.{changed_home, withdrawal_fits, withdrawal_gathers, withdrawal_key, withdrawal_touches}
use Rattle.zq_gateway.proofs.tables.Tables.undeclare_queryable.Goals as goal

pub gather-requires-clause-there : goal.gather-requires-clause-there
gather-requires-clause-there c = c.home-hat.ensures.hat

pub gather-requires-clause-key : goal.gather-requires-clause-key
gather-requires-clause-key c =
    let s : State = c.args.self.now in
    let r = c.in-Some.region in
    let home : face_region c.args.face.0 s.core ≡ Some r = sym c.in-Some.ensures.region in
    let there : hat_at r s.core.hats ≡ Some c.home-hat.result.now = ap (hat_at r) (sym (ap (λ (x : State). x.core.hats) c.self.view_is)) ∙ c.home-hat.ensures.hat in
    withdrawal_key s c.requires c.args.face c.args.id r home c.home-hat.result.now there c.in-Some-key_at.key.now c.in-Some-key_at.ensures

pub gather-requires-clause-seated : goal.gather-requires-clause-seated
gather-requires-clause-seated c = reached_in_place _ (subst IsReached (sym c.self.view_is) c.requires)

pub remove_queryable-requires-clause-home : goal.remove_queryable-requires-clause-home
remove_queryable-requires-clause-home c = sym c.in-Some.ensures.region

pub remove_queryable-requires-clause-fits : goal.remove_queryable-requires-clause-fits
remove_queryable-requires-clause-fits c =
    let s : State = c.args.self.now in
    let r = c.in-Some.region in
    let home : face_region c.args.face.0 s.core ≡ Some r = sym c.in-Some.ensures.region in
    let there : hat_at r s.core.hats ≡ Some c.home-hat.result.now = ap (hat_at r) (sym (ap (λ (x : State). x.core.hats) c.self.view_is)) ∙ c.home-hat.ensures.hat in
    withdrawal_fits s c.requires c.args.face c.args.id r home c.home-hat.result.now there c.in-Some-key_at.key.now c.in-Some-key_at.ensures

pub remove_queryable-requires-clause-found : goal.remove_queryable-requires-clause-found
remove_queryable-requires-clause-found c =
    let s : State = c.args.self.now in
    let i = c.self.inside in
    let v = c.self.view_is in
    let face = c.args.face in
    let id = c.args.id in
    let r = c.in-Some.region in
    let h = c.home-hat.result.now in
    let key = c.in-Some-key_at.key.now in
    let t = withdrawing face id in
    let home : face_region face.0 s.core ≡ Some r = sym c.in-Some.ensures.region in
    let hats = ap (λ (x : State). x.core.hats) v in
    let there : hat_at r s.core.hats ≡ Some h = ap (hat_at r) (sym hats) ∙ c.home-hat.ensures.hat in
    let fits = withdrawal_fits s c.requires face id r home h there key c.in-Some-key_at.ensures in
    let changed = ap (change_hat r (unregistered face.0 id)) hats ∙ sym (changed_home face.0 r s.core home (unregistered face.0 id)) in
    let apart = beside_at (accepted s.core t) {keys = key ∷ []} hats refl (beside s c.requires t fits (key ∷ []) (λ f. ap (fold (insert_key text_cmp) []) (withdrawal_touches s c.requires face id r home h there key c.in-Some-key_at.ensures)) refl refl (λ f o on. on)) in
    withdrawal_gathers s c.requires face id r home h there key c.in-Some-key_at.ensures i.hats hats c.in_ok-found.found.told c.in_ok-found.ensures.told s.core.ears refl
    i.interests (ap (λ (x : State). x.core.interests) v) c.in_ok-found.found.dues (c.in_ok-found.ensures.dues (accepted s.core t) (sym (ap (λ (x : State). x.core.faces) v)) changed apart)
