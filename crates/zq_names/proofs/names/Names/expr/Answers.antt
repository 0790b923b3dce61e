use Rattle.std.proofs.Common.{ap, sym, ◌∙◌}
use Rattle.zq_names.specs.Names.{NameEntry}
use Rattle.zq_names.proofs.Table.{has_node, entry_is}
use Rattle.zq_names.proofs.names.Names.expr.Goals as goal

pub index-requires : goal.index-requires
index-requires c = has_node _ _ _ _ c.self.view_is c.self.invariant.table c.requires

pub returns : goal.returns
returns c = c.as_str.ensures ∙ sym (ap (λ (e : NameEntry). e.text) (entry_is _ _ _ _ _ c.self.view_is c.requires c.index.ensures))
