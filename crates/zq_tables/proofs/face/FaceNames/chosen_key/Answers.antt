use Rattle.std.proofs.Common.{◌<◌, ℕ, List, length, sym, subst}
use Rattle.std.specs.Str.{IsCharBoundary}
use Rattle.zq_tables.proofs.Choosing.{nonwild_boundary}
use Rattle.zq_tables.proofs.face.FaceNames.chosen_key.Goals as goal

pub range_from-requires : goal.range_from-requires
range_from-requires c = λ some.
    let t = c.args.text.now in
    let B : List ℕ → Type 0 = λ (p : List ℕ). IsCharBoundary t (length p) in
    let S : List ℕ → Type 0 = λ (p : List ℕ). 0 < length p in
    subst B (sym c.nonwild-part.ensures) (nonwild_boundary t (subst S c.nonwild-part.ensures some))
