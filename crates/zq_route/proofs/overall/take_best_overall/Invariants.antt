use Rattle.zq_route.proofs.overall.take_best_overall.Given as goal

abbrev pub ghost-first_complete : goal.ghost-first_complete
ghost-first_complete g a = g.test

abbrev pub ghost-add_nearest : goal.ghost-add_nearest
ghost-add_nearest g a = g.test

abbrev pub ghost-add_kept : goal.ghost-add_kept
ghost-add_kept g a = g.test
