use Rattle.std.proofs.Common.{map}
use Rattle.std.specs.List.{list_all}
use Rattle.zq_program.proofs.Crews.{served_first}
use Rattle.zq_program.proofs.crew.work_parts.Goals as goal

pub returns-clause-faults : goal.returns-clause-faults
returns-clause-faults g c = served_first g.L.Link.faults (g.K.Works.sent c.run.new.worker) (list_all g.K.Works.sent c.work_all.new.crew) c.args.links.now c.index-links-0.result c.run.new.link (map g.L.Link.faults c.work_all.new.links) c.requires.some c.run.ensures.faults c.work_all.ensures.faults
