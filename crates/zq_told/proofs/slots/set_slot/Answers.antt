use Rattle.std.proofs.Common.{◌∙◌, ap}
use Rattle.std.specs.BTreeMap.{is_at}
use Rattle.zq_index.specs.Texts.{text_cmp, texts_of}
use Rattle.zq_index.proofs.Texts.{text_set}
use Rattle.zq_told.proofs.slots.set_slot.Goals as goal

pub returns : goal.returns
returns c = ap texts_of (c.get_mut.follows.holds c.args.entry).0 ∙ text_set (is_at (text_cmp c.args.key.now)) c.args.slots.now.entries c.args.entry
