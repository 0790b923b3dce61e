use Rattle.std.proofs.Common.{append_assoc}
use Rattle.zq_show.specs.Narrow.{narrow_words}
use Rattle.zq_show.proofs.narrow.push_narrow.Goals as goal

pub returns : goal.returns
unfolding narrow_words
returns c = rw (c.in_ok-push_items.ensures, c.in_ok-push_text.ensures, append_assoc, append_assoc) at c.push_text-2.ensures
