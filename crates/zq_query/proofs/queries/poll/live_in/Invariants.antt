use Rattle.std.proofs.Common.{◌≡◌, ◌++◌}
use Rattle.std.specs.List.{flat_map}
use Rattle.zq_query.specs.DueEntries.{live_of, live_until}
use Rattle.zq_query.proofs.queries.poll.live_in.Given as goal

abbrev pub invariant-loop-due : goal.invariant-loop-due
invariant-loop-due l = l.live.items ++ flat_map (live_of l.pending.entries) l.due-iterator ≡ live_until l.now l.requests l.pending.entries l.dues.entries
