use Rattle.std.proofs.Common.{◌≡◌, ◌<◌, length, ◌∙◌, arith}
use Rattle.zq_names.specs.Names.{rows, text_at}
use Rattle.zq_names.proofs.Rows.{text_there, holds_there}
use Rattle.zq_names.proofs.edit.take_idle.Goals as goal

pub remove_at-requires-clause-lonely : goal.remove_at-requires-clause-lonely
remove_at-requires-clause-lonely c s has below =
    let nodes = c.args.nodes.now.slots in
    let order = c.args.order.now in
    let lt : c.args.at < length order = omega (arith) in
    let same : c.as_str.result.now ≡ text_at (rows nodes order) c.args.at = c.as_str.ensures ∙ text_there nodes order c.args.at c.get.result c.index-node.result.now lt c.get.ensures.here c.index-node.ensures in
    let none = rw same at (c.has_below.ensures.none c.if-has_below.false) in
    none (s, has, below)

pub returns-clause-taken : goal.returns-clause-taken
returns-clause-taken c =
    let nodes = c.args.nodes.now.slots in
    let order = c.args.order.now in
    let lt : c.args.at < length order = omega (arith) in
    let same : c.as_str.result.now ≡ text_at (rows nodes order) c.args.at = c.as_str.ensures ∙ text_there nodes order c.args.at c.get.result c.index-node.result.now lt c.get.ensures.here c.index-node.ensures in
    let none = rw same at (c.has_below.ensures.none c.if-has_below.false) in
    let unheld : c.index-node.result.now.holds ≡ 0 = omega arith in (
      record { past_root = omega arith; unheld = holds_there nodes order c.args.at c.get.result c.index-node.result.now lt c.get.ensures.here c.index-node.ensures ∙ unheld; lonely = none },
      c.remove_at.ensures.rows,
      c.remove_at.ensures.text,
    )
