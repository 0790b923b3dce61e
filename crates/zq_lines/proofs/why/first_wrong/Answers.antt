use Rattle.std.proofs.Common.{◌≡◌, ◌∙◌, ◌<◌, ℕ, suc, List, [], Some, None, drop, get_or, length, ap, sym}
use Rattle.std.proofs.Math.Seq.{drop-cons}
use Rattle.zq_io.specs.Words.{word_at}
use Rattle.zq_lines.specs.declared.kind.Kind.{Kind}
use Rattle.zq_lines.specs.declared.kind.Kind.TheVariants as kind
use Rattle.zq_lines.specs.Why.{first_wrong, wrong_or}
use Rattle.zq_lines.proofs.why.first_wrong.Goals as goal

-- where no word stands, an empty one is wrong
empty_stands : (kinds : List Kind) (i : ℕ) (left : List ℕ) → i < length kinds → word_at left ≡ None → first_wrong (drop i kinds) left ≡ Some (get_or kinds i kind.Byte, [])
empty_stands kinds i left within none =
    (λ j. first_wrong (drop-cons kinds i kind.Byte within j) left)
    ∙ ap (λ o. wrong_or (get_or kinds i kind.Byte) o (first_wrong (drop (suc i) kinds))) none

-- src/why.rt:45:13
pub returns-in_default : goal.returns-in_default
returns-in_default c = sym (empty_stands c.args.kinds.now c.kinds.kind-index c.kinds.left.now c.kinds-test.true (sym c.in_default.ensures)) ∙ c.kinds.invariant.found
