use Rattle.zq_names.proofs.Table.{in_order, text_there}
use Rattle.zq_names.proofs.ClosingLemmas.{none_come-closes}
use Rattle.zq_names.proofs.names.Names.close.Goals as goal
use Rattle.zq_names.proofs.KeepingLemmas.{once_in_view}

pub place_of-place-requires-clause-live : goal.place_of-place-requires-clause-live
place_of-place-requires-clause-live c = in_order _ _ _ _ c.self.view_is c.requires

pub returns-clause-closes : goal.returns-clause-closes
returns-clause-closes c =
    let text = text_there c.self.inside.nodes.slots c.self.inside.order c.args.self.now c.args.r.0 c.place_of-place.result c.self.view_is c.requires c.place_of-place.ensures.is in
    rw text (rw (← c.self.view_is) c.close_at.ensures.closes)

pub returns-clause-kept : goal.returns-clause-kept
returns-clause-kept c = none_come-closes _ _ _ (once_in_view _ _ _ c.self.view_is c.self.invariant.table) (returns-clause-closes c)
