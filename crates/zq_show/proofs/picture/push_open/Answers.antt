use Rattle.std.proofs.Common.{append_assoc}
use Rattle.zq_show.specs.Picture.{open_words}
use Rattle.zq_show.proofs.picture.push_open.Goals as goal

pub returns : goal.returns
unfolding open_words
returns c = simp append_assoc (simp (c.in_ok-push_size.ensures, c.in_ok-push_view.ensures, c.in_ok-push_text.ensures, append_assoc) at c.push_text-2.ensures)
