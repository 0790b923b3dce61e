use Rattle.std.proofs.Common.{append_assoc}
use Rattle.zq_show.specs.Picture.{group_words}
use Rattle.zq_show.proofs.picture.push_group.Goals as goal

pub returns : goal.returns
unfolding group_words
returns c = rw (c.in_ok-push_number.ensures, c.in_ok-push_text.ensures, append_assoc, append_assoc) at c.push_named.ensures
