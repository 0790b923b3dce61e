-- The texts of nodes that are to come.
use Rattle.std.specs.Prelude.{ℕ, List, map}
use Rattle.zq_names.specs.declared.edit.Newcomer.{Newcomer}

-- the texts of the nodes
abbrev pub coming : List Newcomer → List (List ℕ)
coming cs = map (λ c. c.node.text) cs
