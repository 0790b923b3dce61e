use Rattle.std.proofs.Common.{append_assoc}
use Rattle.zq_show.specs.Narrow.{link_words}
use Rattle.zq_show.proofs.narrow.push_link.Goals as goal

pub returns : goal.returns
unfolding link_words
returns c = simp append_assoc (simp (c.in_ok-push_number-2.ensures, c.in_ok-push_text-2.ensures, c.in_ok-push_number.ensures, c.in_ok-push_text.ensures, append_assoc) at c.push_text-3.ensures)
