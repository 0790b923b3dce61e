use Rattle.zq_route.proofs.overall.add_nearest.Given as goal

abbrev pub ghost-nearest : goal.ghost-nearest
ghost-nearest g a = g.test
