use Rattle.std.proofs.Common.{append_assoc}
use Rattle.zq_show.specs.Page.{link_words}
use Rattle.zq_show.proofs.page.push_link.Goals as goal

pub returns : goal.returns
unfolding link_words
returns c = rw (c.in_ok-push_number.ensures, c.in_ok-push_text.ensures, append_assoc, append_assoc) at c.push_text-2.ensures
