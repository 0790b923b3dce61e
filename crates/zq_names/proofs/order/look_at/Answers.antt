use Rattle.std.proofs.Common.{◌<◌, length, sym, arith, ◌∙◌}
use Rattle.zq_names.proofs.Rows.{length-rows, text_at-rows}
use Rattle.zq_names.proofs.TextOrder.{same_from_is_eq, gap_at_end, gap_before}
use Rattle.zq_names.proofs.order.look_at.Goals as goal

pub returns-then-at-len-clause-gap : goal.returns-then-at-len-clause-gap
returns-then-at-len-clause-gap c = gap_at_end _ _ _ c.requires.split (omega (arith, length-rows c.args.nodes.now.slots c.args.order.now))

pub returns-then-is_joined-clause-found : goal.returns-then-is_joined-clause-found
returns-then-is_joined-clause-found c =
    let nodes = c.args.nodes.now.slots in
    let order = c.args.order.now in
    let here : c.args.at < length order = omega arith in
    record {
      in_range = omega (arith, length-rows nodes order);
      is = text_at-rows nodes order c.args.at here ∙ same_from_is_eq _ _ (rw c.get.ensures.number at (sym c.if-is_joined.ensures));
    }

pub returns-clause-gap : goal.returns-clause-gap
returns-clause-gap c =
    let nodes = c.args.nodes.now.slots in
    let order = c.args.order.now in
    let here : c.args.at < length order = omega arith in
    gap_before _ _ _ c.requires.rising c.requires.split (rw (text_at-rows nodes order c.args.at here) (rw c.get.ensures.number at (sym c.if-is_joined.ensures)))
