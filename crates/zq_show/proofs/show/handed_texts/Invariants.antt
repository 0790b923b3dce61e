use Rattle.std.proofs.Common.{◌≡◌, take}
use Rattle.zq_show.specs.Showing.{handed_texts}
use Rattle.zq_show.proofs.show.handed_texts.Given as goal

abbrev pub invariant-loop-message : goal.invariant-loop-message
invariant-loop-message l = l.texts ≡ handed_texts (take l.message-index l.handed)
