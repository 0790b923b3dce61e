use Rattle.zq_route.proofs.overall.compute_best_overall.Given as goal

abbrev pub ghost-take_best_overall : goal.ghost-take_best_overall
ghost-take_best_overall g a = g.test
