use Rattle.std.proofs.Common.{arith}
use Rattle.zq_names.specs.Names.{rows, text_at}
use Rattle.zq_names.proofs.Rows.{length-rows}
use Rattle.zq_names.proofs.ClosingLemmas.{lonely-own, own-taken, past_root_text}
use Rattle.zq_names.proofs.close.close_at.Goals as goal

pub remove_at-requires-clause-lonely : goal.remove_at-requires-clause-lonely
remove_at-requires-clause-lonely c =
    let nodes = c.args.nodes.now.slots in
    let order = c.args.order.now in
    let some = past_root_text order (rows nodes order) c.args.place c.requires.sound.table.names (omega (arith, length-rows nodes order, c.requires.in_range)) (omega arith) in
    lonely-own _ _ c.args.place _ c.take_run.ensures.run some

pub returns-then-place-ne0-clause-closes : goal.returns-then-place-ne0-clause-closes
returns-then-place-ne0-clause-closes c =
    let nodes = c.args.nodes.now.slots in
    let order = c.args.order.now in
    let t = text_at (rows nodes order) c.args.place in
    let some = past_root_text order (rows nodes order) c.args.place c.requires.sound.table.names (omega (arith, length-rows nodes order, c.requires.in_range)) (omega arith) in
    let run = c.take_run.ensures.run in
    record {
      middle = rows c.take_run.new.nodes.slots c.take_run.new.order;
      below = c.take_run.ensures.closes;
      own = own-taken _ t _ c.args.place some (record { in_range = omega (arith, run.stands, run.order, run.in_range); is = run.text }) c.remove_at.ensures.rows;
    }
