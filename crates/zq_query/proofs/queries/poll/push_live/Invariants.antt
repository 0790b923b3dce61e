use Rattle.std.proofs.Common.{◌≡◌, ◌++◌, take}
use Rattle.std.specs.List.{filter}
use Rattle.zq_query.specs.DueEntries.{is_owed_at}
use Rattle.zq_query.proofs.queries.poll.push_live.Given as goal

abbrev pub invariant-loop-place : goal.invariant-loop-place
invariant-loop-place l = l.live.items ≡ l.fn.live.items ++ filter (is_owed_at l.pending.entries l.number) (take l.place-index l.places)
