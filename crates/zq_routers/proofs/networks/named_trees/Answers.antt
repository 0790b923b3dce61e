use Rattle.std.proofs.Common.{◌∙◌, ap, take}
use Rattle.std.proofs.lemmas.List.{take_min}
use Rattle.zq_routers.proofs.networks.named_trees.Goals as goal

pub returns : goal.returns
returns c = ap (λ n. take n c.as_slice-trees.result.now) c.min.ensures ∙ take_min 65536 c.as_slice-trees.result.now ∙ ap (take 65536) c.as_slice-trees.ensures
