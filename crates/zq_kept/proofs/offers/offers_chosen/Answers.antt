use Rattle.std.proofs.Common.{◌≡◌, ◌∙◌, sym, ap, subst, ℕ, List, Some}
use Rattle.std.specs.Prelude.{option_copied}
use Rattle.zq_index.specs.Texts.{at_text}
use Rattle.zq_kept.specs.Current.{AreCurrent}
use Rattle.zq_kept.specs.Table.{one_text}
use Rattle.zq_kept.proofs.Current.{fewer_current}
use Rattle.zq_kept.proofs.OneText.{one_fewer}
use Rattle.zq_kept.proofs.offers.offers_chosen.Goals as goal

pub lists_in-requires-clause-current : goal.lists_in-requires-clause-current
lists_in-requires-clause-current c =
    let kept = c.args.kept.now in
    let key = c.args.asking.now.key.now in
    let hats = c.args.asking.now.hats.now in
    let rs = c.in-Some.routes.now in
    let there : at_text key kept.1 ≡ Some rs = sym c.of_text.ensures ∙ ap option_copied c.in-Some.is in
    let P : List ℕ → Type 0 = (λ vs. AreCurrent (one_text vs key rs) hats) in
    subst P (sym c.versions.ensures.versions) (fewer_current kept (one_text kept.0 key rs) hats (one_fewer kept.0 key kept.1 rs there) c.requires.current)
