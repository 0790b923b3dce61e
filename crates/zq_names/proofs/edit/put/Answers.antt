use Rattle.zq_names.proofs.Insertion.{IsTable-put, IsLinked-put}
use Rattle.zq_names.proofs.edit.put.Goals as goal

pub returns-clause-table : goal.returns-clause-table
returns-clause-table c =
    let r = c.requires in
    let updates = c.insert_reserved-id.ensures.updates in
    rw c.insert.ensures (IsTable-put _ _ _ _ _ _ r.bare.key r.table r.gap r.closed c.insert_reserved-id.ensures.was_vacant updates.changed updates.others).1

pub returns-clause-rows : goal.returns-clause-rows
returns-clause-rows c =
    let r = c.requires in
    let updates = c.insert_reserved-id.ensures.updates in
    rw c.insert.ensures (IsTable-put _ _ _ _ _ _ r.bare.key r.table r.gap r.closed c.insert_reserved-id.ensures.was_vacant updates.changed updates.others).0

pub returns-clause-linked : goal.returns-clause-linked
returns-clause-linked c linked =
    let updates = c.insert_reserved-id.ensures.updates in
    IsLinked-put _ _ _ c.args.node c.requires.bare.matches c.insert_reserved-id.ensures.was_vacant updates.changed updates.others linked
