use Rattle.std.proofs.Common.{◌≡◌, ◌+◌, ◌<◌, ◌^◌, take}
use Rattle.zq_query.specs.Polling.{timeouts_of, numbers_in}
use Rattle.zq_query.proofs.queries.Queries.timeouts_for.Given as goal

abbrev pub invariant-loop-due : goal.invariant-loop-due
invariant-loop-due l = record {
  list : l.list ≡ timeouts_of l.fn.self (take l.due-index l.dues);
  next : l.next ≡ l.fn.self.replies + numbers_in l.list;
  fits : l.next < 2 ^ 64;
}
