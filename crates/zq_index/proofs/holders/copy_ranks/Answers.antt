use Rattle.zq_index.proofs.Ranks.{copied_ranks}
use Rattle.zq_index.proofs.holders.copy_ranks.Goals as goal

pub returns : goal.returns
returns g c = copied_ranks g.P.Clone.is_clone g.met.P.Place.copied c.args.ranks.now.keys c.in_ok-clone.field-0.keys c.in_ok-clone.ensures.cases
