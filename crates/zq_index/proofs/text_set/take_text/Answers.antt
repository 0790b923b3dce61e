use Rattle.std.proofs.Common.{◌∙◌, ap, map}
use Rattle.std.specs.BTreeMap.{is_at}
use Rattle.std.specs.String.{string_bytes}
use Rattle.zq_index.specs.Texts.{text_cmp}
use Rattle.zq_index.proofs.Texts.{texts_take}
use Rattle.zq_index.proofs.text_set.take_text.Goals as goal

pub returns : goal.returns
returns c = ap (map string_bytes) c.remove.ensures.keys ∙ texts_take (is_at (text_cmp c.args.text.now)) c.args.texts.now.keys
