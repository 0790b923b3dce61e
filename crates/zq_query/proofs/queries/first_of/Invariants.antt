use Rattle.std.proofs.Common.{◌≡◌, find}
use Rattle.zq_query.specs.Tables.{flies_for}
use Rattle.zq_query.proofs.queries.first_of.Given as goal

abbrev pub invariant-loop-reply : goal.invariant-loop-reply
invariant-loop-reply l = find (flies_for l.number) l.replies.entries ≡ find (flies_for l.number) l.reply-iterator
