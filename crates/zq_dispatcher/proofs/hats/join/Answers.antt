use Rattle.std.specs.Ordering.{nat_cmp}
use Rattle.std.specs.BTreeMap.{is_at}
use Rattle.zq_message.specs.Region.{region_index}
use Rattle.zq_dispatcher.proofs.Lent.{kept_back}
use Rattle.zq_dispatcher.proofs.hats.join.Goals as goal

pub returns-clause-err : goal.returns-clause-err
returns-clause-err c =
    let hat = c.in-Some.hat.now in
    let lent = c.get_mut.follows in
    kept_back c.new_face.result (is_at (nat_cmp (region_index c.args.region))) c.args.hats.now hat c.new_face.new.self lent.lender (lent.holds hat) c.in-Some.ensures.value c.new_face.ensures.err
