use Rattle.zq_route.proofs.selection.add_if_kept.Given as goal

abbrev pub ghost-does_pass : goal.ghost-does_pass
ghost-does_pass g a = g.test
