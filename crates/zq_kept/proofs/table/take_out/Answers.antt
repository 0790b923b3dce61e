use Rattle.std.proofs.Common.{◌∙◌, ap}
use Rattle.std.specs.BTreeMap.{is_at}
use Rattle.zq_index.specs.Texts.{text_cmp, texts_of}
use Rattle.zq_index.proofs.Texts.{text_lookup, text_remove}
use Rattle.zq_kept.proofs.table.take_out.Goals as goal

pub returns-clause-after : goal.returns-clause-after
returns-clause-after g c = ap texts_of c.remove.ensures.entries ∙ text_remove (is_at (text_cmp c.args.key.now)) c.args.texts.now.entries

pub returns-clause-gone : goal.returns-clause-gone
returns-clause-gone g c = text_lookup (is_at (text_cmp c.args.key.now)) c.remove.new.self.entries ∙ c.remove.ensures.updates.1
