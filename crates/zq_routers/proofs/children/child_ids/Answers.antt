use Rattle.std.proofs.Common.{rules}
use Rattle.zq_strategy.specs.Nets.{child_at}
use Rattle.zq_routers.proofs.Gathering.{filter_map_more}
use Rattle.zq_routers.proofs.children.child_ids.Goals as goal

pub loop-place-preserved : goal.loop-place-preserved
loop-place-preserved c =
    let more = filter_map_more (child_at c.args.net.now) c.as_slice-places.result.now c.loop-place.place-index 0 c.loop-place-test.true in
    search (rules, more)
