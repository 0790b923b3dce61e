use Rattle.std.proofs.Common.{◌≡◌, take}
use Rattle.zq_strategy.proofs.network.copy_trees.Given as goal

abbrev pub invariant-loop-tree : goal.invariant-loop-tree
invariant-loop-tree l = l.made ≡ take l.tree-index l.trees
