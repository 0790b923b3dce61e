use Rattle.std.proofs.Common.{◌≡◌, ◌∙◌, sym, ap, subst}
use Rattle.zq_kept.specs.declared.asking.Asking.{Asking}
use Rattle.zq_kept.specs.Current.{ArePlaced}
use Rattle.zq_machine.specs.State.{State}
use Rattle.zq_gateway.proofs.Placed.{reached_placed}
use Rattle.zq_gateway.proofs.tables.Tables.select.Goals as goal

pub offers_for-requires-clause-placed : goal.offers_for-requires-clause-placed
offers_for-requires-clause-placed c =
    let s : State = c.args.self.now in
    let hats : c.asking_on-asking.result.hats.now ≡ s.core.hats = ap (λ (a : Asking). a.hats.now) c.asking_on-asking.ensures ∙ ap (λ (x : State). x.core.hats) c.self.view_is in
    subst ArePlaced (sym hats) (reached_placed s c.requires.reached)
