use Rattle.std.proofs.Common.{◌∙◌, ap}
use Rattle.zq_index.specs.Texts.{text_cmp, texts_of}
use Rattle.std.specs.BTreeMap.{is_at}
use Rattle.zq_index.proofs.Texts.{text_remove}
use Rattle.zq_told.proofs.slots.remove_slot.Goals as goal

pub returns : goal.returns
returns c = ap texts_of c.remove.ensures.entries ∙ text_remove (is_at (text_cmp c.args.key.now)) c.args.slots.now.entries
