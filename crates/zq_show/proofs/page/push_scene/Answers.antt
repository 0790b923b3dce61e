use Rattle.std.proofs.Common.{refl, append_assoc}
use Rattle.zq_show.specs.Page.{scene_words}
use Rattle.zq_show.proofs.page.push_scene.Goals as goal

pub returns : goal.returns
unfolding scene_words
returns c = simp (c.in_ok-push_text-2.ensures, c.in_ok-push_narrow.ensures, c.in_ok-push_text.ensures, c.in_ok-push_picture.ensures, c.as_slice.ensures, c.as_slice-2.ensures, c.as_slice-3.ensures, c.in_ok-push_legend.ensures, c.in_ok-push_said.ensures, append_assoc) refl
