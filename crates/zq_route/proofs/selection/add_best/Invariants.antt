use Rattle.zq_route.proofs.selection.add_best.Given as goal

abbrev pub ghost-first_complete : goal.ghost-first_complete
ghost-first_complete g a = g.test

abbrev pub ghost-add_kept : goal.ghost-add_kept
ghost-add_kept g a = g.test
