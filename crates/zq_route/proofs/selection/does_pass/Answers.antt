use Rattle.std.proofs.Common.{refl}
use Rattle.zq_route.proofs.selection.does_pass.Goals as goal

pub returns : goal.returns
returns g c = c.requires.1.1 c.args.offer.now c.passes.result (record { shown = c.args.offer; shows = refl; says = record { met = c.passes.ensures } })
