use Rattle.std.proofs.Common.{Some}
use Rattle.zq_names.specs.Names.{entry_of}
use Rattle.zq_names.proofs.Adding.{Adds-put}
use Rattle.zq_names.proofs.edit.put_absent.Goals as goal

pub returns-in-Err-clause-adds : goal.returns-in-Err-clause-adds
returns-in-Err-clause-adds c =
    let bare = c.requires.bare in
    rw c.put.ensures.rows (Adds-put _ c.in-Err.gap (entry_of c.put.result (Some c.args.newcomer.node)) (record { context = bare.context; holds = bare.holds; matches = bare.matches }))
