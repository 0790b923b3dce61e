use Rattle.std.proofs.Common.{◌≡◌, ◌+◌, ◌<◌, ◌++◌, length, sym, arith}
use Rattle.std.specs.declared.cmp.Ordering.TheVariants.{Less}
use Rattle.zq_names.specs.Texts.{text_cmp}
use Rattle.zq_names.specs.Names.{rows, text_at}
use Rattle.zq_names.proofs.Rows.{length-rows, text_at-rows}
use Rattle.zq_names.proofs.TextOrder.{Less-from_is_lt, not_Less-from_is_lt, split_between}
use Rattle.zq_names.proofs.order.lower_bound_near.Goals as goal

pub returns-then-near-count-2 : goal.returns-then-near-count-2
returns-then-near-count-2 c =
    let nodes = c.args.nodes.now.slots in
    let order = c.args.order.now in
    let n = length-rows nodes order in
    let here : c.args.near < length order = omega arith in
    let less : text_cmp (text_at (rows nodes order) c.args.near) (c.args.head.now ++ c.args.tail.now) ≡ Less = rw (text_at-rows nodes order c.args.near here, ← c.get.ensures.number) (Less-from_is_lt _ (sym c.if-not-is_before.ensures)) in
    split_between _ _ c.args.near c.requires.rising (omega (arith, n, here)) less (λ lt. absurd (omega (arith, n, c.len-count.ensures, n)))

pub returns : goal.returns
returns c =
    let nodes = c.args.nodes.now.slots in
    let order = c.args.order.now in
    let n = length-rows nodes order in
    let here : c.args.near < length order = omega arith in
    let less : text_cmp (text_at (rows nodes order) c.args.near) (c.args.head.now ++ c.args.tail.now) ≡ Less = rw (text_at-rows nodes order c.args.near here, ← c.get.ensures.number) (Less-from_is_lt _ (sym c.if-not-is_before.ensures)) in
    split_between _ _ c.args.near c.requires.rising (omega (arith, n, here)) less (λ lt. rw (text_at-rows nodes order (c.args.near + 1) (omega (arith, n, lt)), ← c.get-2.ensures.number) (not_Less-from_is_lt _ (sym c.if-is_before.ensures)))
