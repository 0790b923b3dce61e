use Rattle.std.specs.Prelude.{not, ◌==◌}
use Rattle.zq_tests_hats.proofs.route.pick_overall.Given as goal

abbrev pub ghost-compute_best_overall : goal.ghost-compute_best_overall
ghost-compute_best_overall a = λ o. not (o.face.0 == 9)
