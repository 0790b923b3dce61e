use Rattle.std.proofs.Common.{◌≡◌, take}
use Rattle.zq_query.specs.Tables.{filled}
use Rattle.zq_query.proofs.queries.ask.fill.Given as goal

abbrev pub invariant-loop-i : goal.invariant-loop-i
invariant-loop-i l = l.pending.entries ≡ filled l.fn.pending.entries (take l.i l.places) l.owed
