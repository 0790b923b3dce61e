use Rattle.std.proofs.Common.{append_assoc}
use Rattle.zq_show.specs.Mermaid.{number_line}
use Rattle.zq_show.proofs.mermaid.push_bad_number.Goals as goal

pub returns : goal.returns
unfolding number_line
returns c = rw (c.in_ok-push_number.ensures, c.in_ok-push_text.ensures, append_assoc, append_assoc) at c.push_text-2.ensures
