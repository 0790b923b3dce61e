use Rattle.zq_route.proofs.selection.take_final_route.Given as goal

abbrev pub ghost-add_kept : goal.ghost-add_kept
ghost-add_kept g a = g.test

abbrev pub ghost-add_best : goal.ghost-add_best
ghost-add_best g a = g.test
