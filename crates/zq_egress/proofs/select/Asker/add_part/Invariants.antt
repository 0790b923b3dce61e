use Rattle.zq_machine.specs.Selecting.{passes}
use Rattle.zq_egress.specs.Askers.{asker_of}
use Rattle.zq_egress.proofs.select.Asker.add_part.Given as goal

abbrev pub ghost-take_final_route : goal.ghost-take_final_route
ghost-take_final_route a = passes (asker_of a.passes.0.now)
