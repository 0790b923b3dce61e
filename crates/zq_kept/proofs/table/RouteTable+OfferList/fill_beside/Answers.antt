use Rattle.std.proofs.Common.{sym, subst, ℕ, List}
use Rattle.zq_index.specs.Texts.{texts_of}
use Rattle.zq_kept.specs.Current.{AreCurrent, KeptOffers}
use Rattle.zq_kept.proofs.table.RouteTable+OfferList.fill_beside.Goals as goal

pub fill_beside-requires-clause-current : goal.fill_beside-requires-clause-current
fill_beside-requires-clause-current c =
    let hats = c.args.asking.now.hats.now in
    let P : KeptOffers → Type 0 = (λ t. AreCurrent t hats) in
    let V : List ℕ → Type 0 = (λ vs. AreCurrent (vs, texts_of c.self.inside.texts.entries) hats) in
    subst V (sym c.as_slice.ensures.value) (subst P (sym c.self.view_is) c.requires.current)
