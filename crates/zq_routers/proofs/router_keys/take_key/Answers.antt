use Rattle.std.specs.Option.{is_some}
use Rattle.std.proofs.Common.{ap, false, sym}
use Rattle.std.specs.BTreeSet.{contains_text}
use Rattle.std.proofs.lemmas.Map.Text.{btree_set_updates_text}
use Rattle.zq_routers.proofs.Keys.{changed, had_some}
use Rattle.zq_routers.proofs.router_keys.take_key.Goals as goal

pub returns-in-Some-clause-left : goal.returns-in-Some-clause-left
returns-in-Some-clause-left c =
    changed c.args.router c.args.key.now false c.args.routers.now.entries (c.get_mut.follows.lender c.remove.new.self).entries c.remove.new.self (contains_text c.in-Some.keys.now)
    (had_some c.args.router c.args.routers.now.entries c.in-Some.keys.now (sym c.in-Some.ensures.value))
    ((c.get_mut.follows.holds c.remove.new.self).3 (ap is_some (sym c.in-Some.ensures.value))).0
    (btree_set_updates_text c.args.key.now c.in-Some.keys.now c.remove.new.self false c.remove.ensures.updates)
