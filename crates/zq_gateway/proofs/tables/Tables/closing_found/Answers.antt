use Rattle.std.proofs.Common.{◌≡◌, ◌∙◌, refl, sym, ap, subst, List, [], ◌++◌, fold, Some}
use Rattle.std.specs.BTreeMap.{is_at}
use Rattle.std.specs.BTreeSet.{insert_key}
use Rattle.std.specs.Map.{remove_entry}
use Rattle.std.specs.Option.{option_map_or}
use Rattle.std.specs.Ordering.{nat_cmp}
use Rattle.zq_strategy.specs.declared.network.Telling.{Telling as TreeTelling}
use Rattle.zq_index.specs.Texts.{text_cmp}
use Rattle.zq_strategy.specs.Kept.{keys_of_face, without_face}
use Rattle.zq_machine.specs.Deciding.{accepted}
use Rattle.zq_machine.specs.State.{State, change_hat, face_region, hat_at}
use Rattle.zq_machine.specs.TextCalls.{closing}
use Rattle.zq_machine.specs.Trees.{all_own_told}
use Rattle.zq_machine.proofs.Writing.{close_fits}
use Rattle.zq_dispatcher.specs.Seats.{seats}
use Rattle.zq_gateway.specs.Making.{IsReached}
use Rattle.zq_gateway.proofs.Due.{changed_home, closing_gathers}
use Rattle.zq_gateway.proofs.Elsewhere.{beside, beside_at, closing_stays, closing_touches}
use Rattle.zq_gateway.proofs.Reached.{reached_seated}
use Rattle.zq_gateway.proofs.Seated.{reached_in_place}
use Rattle.zq_gateway.proofs.tables.Tables.closing_found.Goals as goal

pub home-hat-requires : goal.home-hat-requires
home-hat-requires c =
    let s : State = c.args.self.now in
    ap (seats c.args.region c.args.face.0) (ap (λ (x : State). x.core.hats) c.self.view_is) ∙ reached_seated s c.args.face.0 c.args.region c.requires.reached c.requires.home

pub dues_left-requires-clause-seated : goal.dues_left-requires-clause-seated
dues_left-requires-clause-seated c = reached_in_place _ (subst IsReached (sym c.self.view_is) c.requires.reached)

pub returns : goal.returns
returns c =
    let s : State = c.args.self.now in
    let i = c.self.inside in
    let v = c.self.view_is in
    let face = c.args.face in
    let r = c.args.region in
    let home : face_region face.0 s.core ≡ Some r = c.requires.home in
    let fits = close_fits s face r home in
    let t = closing face in
    let hats = ap (λ (x : State). x.core.hats) v in
    let keys = keys_of_face face.0 c.home-hat.result.now in
    let told = c.in_ok-tell_left.ensures ∙ ap (λ (l : List TreeTelling). l ++ all_own_told i.hats (change_hat r (without_face face.0) i.hats) keys) c.new-told.ensures in
    let ts = c.tell_left.new.told in
    let dues = c.in_ok-dues.dues in
    let changed = ap (change_hat r (without_face face.0)) hats ∙ sym (changed_home face.0 r s.core home (without_face face.0)) in
    let apart = beside_at (accepted s.core t) hats refl (beside s c.requires.reached t fits (fold (insert_key text_cmp) [] keys) (λ f. ap (fold (insert_key text_cmp) []) (closing_touches s face r home keys (ap (λ o. option_map_or (keys_of_face face.0) o []) (sym (ap (hat_at r) (sym hats) ∙ c.home-hat.ensures.hat))))) refl refl (λ f o on. closing_stays s c.requires.reached face.0 f o on)) in
    closing_gathers s face r home i.hats hats keys (ap (λ o. option_map_or (keys_of_face face.0) o []) (sym c.home-hat.ensures.hat)) ts told s.core.ears refl i.interests (ap (λ (x : State). x.core.interests) v) dues
    (c.in_ok-dues.ensures (accepted s.core t) (sym (ap (λ (x : State). remove_entry (is_at (nat_cmp face.0)) x.core.faces) v)) changed apart)
