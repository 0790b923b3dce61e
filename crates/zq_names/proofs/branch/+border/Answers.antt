use Rattle.std.proofs.Common.{◌≡◌, ◌++◌, ◌∷◌, ℕ, List, length, sym, ap, subst, ◌∙◌, arith, length-append}
use Rattle.std.specs.List.{All}
use Rattle.zq_names.specs.Branch.{side}
use Rattle.zq_names.proofs.Sides.{all_left, all_here, all_right}
use Rattle.zq_names.proofs.branch.+border.Goals as goal

pub passes-requires : goal.passes-requires
passes-requires g t c =
    let P : ℕ → Type 0 = λ x. goal.F-pre g c.args.passes.now x in
    let A : List ℕ → Type 0 = λ l. All P l in
    let may : P c.b.inside.number = all_here (side c.b.inside.left) c.b.inside.number (side c.b.inside.right) P (subst A (sym c.b.view_is) c.requires) in
    may

pub border-requires : goal.border-requires
border-requires g t c κs within =
    let P : ℕ → Type 0 = λ x. goal.F-pre g c.args.passes.now x in
    let A : List ℕ → Type 0 = λ l. All P l in
    let e : c.args.b.now ≡ side c.b.inside.left ++ c.b.inside.number ∷ c.deref.result.now = sym c.b.view_is ∙ ap (λ (l : List ℕ). side c.b.inside.left ++ c.b.inside.number ∷ l) (ap side c.in-Some.is ∙ sym c.deref.ensures) in
    let n = ap length e ∙ length-append (side c.b.inside.left) (c.b.inside.number ∷ c.deref.result.now) in
    (omega (arith, c.decreases, n), (within, all_right (side c.b.inside.left) c.b.inside.number c.deref.result.now P (subst A e c.requires)))

pub border-requires-in-Some-left : goal.border-requires-in-Some-left
border-requires-in-Some-left g t c κs within =
    let P : ℕ → Type 0 = λ x. goal.F-pre g c.args.passes.now x in
    let A : List ℕ → Type 0 = λ l. All P l in
    let e : c.args.b.now ≡ c.deref-in-Some-left.result.now ++ c.b.inside.number ∷ side c.b.inside.right = sym c.b.view_is ∙ ap (λ (l : List ℕ). l ++ c.b.inside.number ∷ side c.b.inside.right) (ap side c.in-Some-left.is ∙ sym c.deref-in-Some-left.ensures) in
    let n = ap length e ∙ length-append c.deref-in-Some-left.result.now (c.b.inside.number ∷ side c.b.inside.right) in
    (omega (arith, c.decreases, n), (within, all_left c.deref-in-Some-left.result.now c.b.inside.number (side c.b.inside.right) P (subst A e c.requires)))
