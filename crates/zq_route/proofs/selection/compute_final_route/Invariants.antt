use Rattle.zq_route.proofs.selection.compute_final_route.Given as goal

abbrev pub ghost-take_final_route : goal.ghost-take_final_route
ghost-take_final_route g a = g.test
