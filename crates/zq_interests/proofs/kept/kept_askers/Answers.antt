use Rattle.std.proofs.Common.{◌∙◌, ap, map}
use Rattle.zq_interests.specs.Kept.{numbered}
use Rattle.zq_interests.proofs.Asking.{found_askers}
use Rattle.zq_interests.proofs.kept.kept_askers.Goals as goal

pub returns : goal.returns
returns c =
    c.in_ok-list_faces.ensures ∙ ap (map numbered) c.in_ok-numbers.ensures.faces
    ∙ found_askers c.args.faces.now.entries c.args.shelf.now c.requires.kept c.args.key.now c.in_ok-numbers.ensures.ordered
