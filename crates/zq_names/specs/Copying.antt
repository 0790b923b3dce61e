-- What a copy of a node is.
use Rattle.std.specs.Prelude.{◌≡◌}
use Rattle.zq_names.specs.declared.node.Node.{Node}

-- the copy has all that contracts see of the node
pub record IsNodeCopy (n copy : Node) : Type 0 where
  pub text : copy.text ≡ n.text
  pub context : copy.context ≡ n.context
  pub holds : copy.holds ≡ n.holds
  pub matches : copy.matches.items ≡ n.matches.items
  pub former : copy.former.items ≡ n.former.items
