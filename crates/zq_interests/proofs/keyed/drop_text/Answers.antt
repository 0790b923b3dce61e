use Rattle.std.proofs.Common.{◌∙◌, ap}
use Rattle.std.specs.BTreeMap.{is_at}
use Rattle.zq_index.specs.Texts.{text_cmp, texts_of}
use Rattle.zq_index.proofs.Texts.{text_lookup, text_remove}
use Rattle.zq_interests.proofs.Under.{dropped}
use Rattle.zq_interests.proofs.keyed.drop_text.Goals as goal

pub returns-clause-entries : goal.returns-clause-entries
returns-clause-entries c = ap texts_of c.remove.ensures.entries ∙ text_remove (is_at (text_cmp c.args.key.now)) c.args.keys.now.entries

pub returns-clause-gone : goal.returns-clause-gone
returns-clause-gone c = text_lookup (is_at (text_cmp c.args.key.now)) c.remove.new.self.entries ∙ c.remove.ensures.updates.1

pub returns-clause-after : goal.returns-clause-after
returns-clause-after c = dropped c.args.key.now (texts_of c.args.keys.now.entries) (texts_of c.remove.new.self.entries) (returns-clause-entries c) (returns-clause-gone c) c.requires
