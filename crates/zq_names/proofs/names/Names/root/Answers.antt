use Rattle.std.proofs.Common.{sym, arith, []}
use Rattle.std.proofs.lemmas.Option.{get_or_from_slice_get, slice_get_within}
use Rattle.zq_names.proofs.Rows.{length-rows}
use Rattle.zq_names.proofs.Table.{HasText-at}
use Rattle.zq_names.proofs.names.Names.root.Goals as goal

pub returns : goal.returns
returns c =
    let t = c.self.invariant.table.names in
    let n = slice_get_within _ 0 _ t.root in
    HasText-at _ _ _ [] 0 0 c.self.view_is (record { in_range = omega (arith, n, length-rows c.self.inside.nodes.slots c.self.inside.order); is = get_or_from_slice_get _ 0 _ [] t.root_text }) (sym (get_or_from_slice_get _ 0 _ 0 t.root))
