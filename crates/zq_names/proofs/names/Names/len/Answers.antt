use Rattle.std.proofs.Common.{length, sym, ap, ◌∙◌}
use Rattle.zq_names.specs.Names.{texts}
use Rattle.zq_names.proofs.Rows.{length-rows}
use Rattle.zq_names.proofs.Table.{names_in_view}
use Rattle.zq_names.proofs.TextOrder.{distinct_texts}
use Rattle.zq_names.proofs.names.Names.len.Goals as goal

pub returns : goal.returns
returns c =
    let names = names_in_view _ _ _ c.self.view_is c.self.invariant.table in
    record {
      len = c.len.ensures ∙ sym (length-rows c.self.inside.nodes.slots c.self.inside.order) ∙ ap length c.self.view_is;
      names = names;
      distinct = distinct_texts (texts c.args.self.now) names.rising;
    }
