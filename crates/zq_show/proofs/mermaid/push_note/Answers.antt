use Rattle.std.proofs.Common.{append_assoc}
use Rattle.zq_show.specs.Mermaid.{note_line}
use Rattle.zq_show.proofs.mermaid.push_note.Goals as goal

pub returns : goal.returns
unfolding note_line
returns c = simp append_assoc (simp (c.in_ok-push_text-2.ensures, c.refusal_of.ensures, c.in_ok-push_text.ensures, append_assoc) at c.push_label.ensures)
