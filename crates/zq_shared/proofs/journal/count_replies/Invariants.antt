use Rattle.std.proofs.Common.{◌≡◌, take}
use Rattle.std.specs.List.{count_by}
use Rattle.zq_shared.specs.Stored.{is_flying}
use Rattle.zq_shared.proofs.journal.count_replies.Given as goal

abbrev pub invariant-messages : goal.invariant-messages
invariant-messages l = l.count ≡ count_by is_flying (take l.message-index l.handed)
