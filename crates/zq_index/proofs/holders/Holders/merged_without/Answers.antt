use Rattle.std.proofs.Common.{◌∙◌, ap, fold, None}
use Rattle.zq_index.specs.Holders.{with_held}
use Rattle.zq_index.proofs.Merges.{stay_elsewhere}
use Rattle.zq_index.proofs.holders.Holders.merged_without.Goals as goal

pub returns-clause-merged : goal.returns-clause-merged
returns-clause-merged g c =
    c.merged_of.ensures.merged
    ∙ ap (fold with_held None) (stay_elsewhere g.met.P.Ord.total g.met.P.Place.tells_apart c.args.place c.args.self.now c.merged_of.ensures.ordered)
