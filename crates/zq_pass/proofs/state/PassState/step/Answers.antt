use Rattle.std.proofs.Common.{None, ap, subst}
use Rattle.zq_shared.specs.Ties.{Sharing}
use Rattle.zq_shared.specs.Sharing.{KeepsFlights}
use Rattle.zq_pass.specs.Passes.{Journaled}
use Rattle.zq_pass.proofs.state.PassState.step.Goals as goal

pub returns-clause-flights : goal.returns-clause-flights
returns-clause-flights c = subst (λ (x : Sharing). KeepsFlights None x c.store-made.new.shared) (ap (λ (j : Journaled). j.sharing) c.self.view_is) c.store-made.ensures.flights
