use Rattle.std.proofs.Common.{◌∙◌, ap, map}
use Rattle.std.specs.String.{string_bytes}
use Rattle.zq_index.specs.Texts.{has_text}
use Rattle.zq_index.proofs.Listed.{put_in, put_keeps}
use Rattle.zq_index.proofs.text_set.list_text.Goals as goal

pub returns-in-Ok-clause-ok : goal.returns-in-Ok-clause-ok
returns-in-Ok-clause-ok c wanted = ap (has_text c.args.text.now) c.in-Ok.ensures.ok ∙ put_in c.args.text.now (map string_bytes c.args.texts.now.keys)

pub returns-in-Ok-clause-wider : goal.returns-in-Ok-clause-wider
returns-in-Ok-clause-wider c t has = ap (has_text t) c.in-Ok.ensures.ok ∙ put_keeps c.args.text.now t (map string_bytes c.args.texts.now.keys) has
