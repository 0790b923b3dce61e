-- Each side of a branch has fewer numbers than the branch.
use Rattle.std.specs.Prelude.{◌≤◌, ℕ, List, [], ◌∷◌, ◌++◌, length, Option, None, Some}
use Rattle.std.proofs.Common.{arith, length-append}
use Rattle.std.specs.declared.boxed.Box.{Box}
use Rattle.std.specs.Global.{Global}
use Rattle.zq_names.specs.declared.branch.Branch.TheInside.{Inside}
use Rattle.zq_names.specs.declared.branch.Branch.TheDeep.{deep-Branch}
use Rattle.zq_names.specs.Branch.{side}

made_of : (l r : Option (Box (List ℕ) Global)) (x n : ℕ) → deep-Branch (record { left = l; number = x; len = n; right = r }) ≤ length (side l ++ x ∷ side r)
made_of None None x n = omega arith
made_of None (Some c) x n = omega arith
made_of (Some b) None x n = omega (arith, length-append b.value (x ∷ []))
made_of (Some b) (Some c) x n = omega (arith, length-append b.value (x ∷ c.value))

-- no side is deeper than the branch has numbers
pub deep_le-length : (b : Inside) → deep-Branch b ≤ length (side b.left ++ b.number ∷ side b.right)
deep_le-length b = made_of b.left b.right b.number b.len
