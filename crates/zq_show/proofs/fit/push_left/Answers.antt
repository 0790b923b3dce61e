use Rattle.std.proofs.Common.{append_assoc}
use Rattle.zq_show.specs.Fit.{left_words}
use Rattle.zq_show.proofs.fit.push_left.Goals as goal

pub returns : goal.returns
unfolding left_words
returns c = rw (c.in_ok-push_number.ensures, c.in_ok-push_text.ensures, append_assoc, append_assoc) at c.push_text-2.ensures
