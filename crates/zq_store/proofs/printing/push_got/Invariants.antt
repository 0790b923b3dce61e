use Rattle.std.proofs.Common.{◌≡◌, ◌++◌, take}
use Rattle.std.specs.List.{flat_map}
use Rattle.zq_store.specs.Printing.{reply_words}
use Rattle.zq_store.proofs.printing.push_got.Given as goal

abbrev pub invariant-loop-reply : goal.invariant-loop-reply
invariant-loop-reply l = l.out.items ≡ l.initial.out.items ++ flat_map reply_words (take l.reply-index l.replies)
