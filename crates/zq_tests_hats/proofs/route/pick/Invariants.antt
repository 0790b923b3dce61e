use Rattle.std.specs.Prelude.{not, ◌==◌}
use Rattle.zq_tests_hats.proofs.route.pick.Given as goal

abbrev pub ghost-compute_final_route : goal.ghost-compute_final_route
ghost-compute_final_route a = λ o. not (o.face.0 == 9)
