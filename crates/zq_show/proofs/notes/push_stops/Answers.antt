use Rattle.std.proofs.Common.{append_assoc}
use Rattle.zq_show.specs.Notes.{stop_words}
use Rattle.zq_show.proofs.notes.push_stops.Goals as goal

pub returns : goal.returns
unfolding stop_words
returns c = rw (c.in_ok-push_text.ensures, append_assoc) at c.push_numbers.ensures
