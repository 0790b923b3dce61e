use Rattle.std.proofs.Common.{rules}
use Rattle.zq_spoken.proofs.talk.Talk.make.Goals as goal

pub returns-clause-state : goal.returns-clause-state
returns-clause-state c = rw (← c.self.view_is) (search rules)

pub returns-clause-step : goal.returns-clause-step
returns-clause-step c = rw (← c.self.view_is) (search rules)
