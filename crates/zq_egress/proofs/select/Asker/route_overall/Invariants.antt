use Rattle.zq_machine.specs.Selecting.{passes}
use Rattle.zq_egress.specs.Askers.{asker_of}
use Rattle.zq_egress.proofs.select.Asker.route_overall.Given as goal

abbrev pub ghost-take_best_overall : goal.ghost-take_best_overall
ghost-take_best_overall a = passes (asker_of a.passes.0.now)
