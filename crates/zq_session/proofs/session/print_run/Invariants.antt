use Rattle.std.proofs.Common.{◌≡◌, map, take}
use Rattle.zq_moved.specs.Inside.{outcome_of}
use Rattle.zq_moved.specs.Received.{received}
use Rattle.zq_session.specs.Session.{faces_words}
use Rattle.zq_session.proofs.session.print_run.Given as goal

abbrev pub invariant-loop-step : goal.invariant-loop-step
invariant-loop-step l = l.out.items ≡ faces_words (λ face. received face l.calls l.steps) (map outcome_of (take l.step-index l.steps))
