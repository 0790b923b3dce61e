use Rattle.std.proofs.Common.{◌∙◌, sym, ap}
use Rattle.std.specs.Option.{is_some}
use Rattle.zq_query.proofs.Putting.{owner_there, owner_pending}
use Rattle.zq_query.proofs.queries.Queries.would_reply.Goals as goal

pub returns-in_default-clause-absent : goal.returns-in_default-clause-absent
returns-in_default-clause-absent c = λ _. sym (owner_pending c.args.face.0 c.args.id c.args.self.now.records) ∙ ap is_some (sym c.owner.ensures ∙ c.in_default.is)

pub returns-then-is_closed-clause-there : goal.returns-then-is_closed-clause-there
returns-then-is_closed-clause-there c = owner_there c.args.face.0 c.args.id c.args.self.now.records c.in-Some.found (sym c.in-Some.ensures)

pub returns-then-is_closed-clause-pending : goal.returns-then-is_closed-clause-pending
returns-then-is_closed-clause-pending c = sym (owner_pending c.args.face.0 c.args.id c.args.self.now.records) ∙ ap is_some (sym c.in-Some.ensures)

pub returns-then-self-clause-needs : goal.returns-then-self-clause-needs
returns-then-self-clause-needs c = λ _. sym (owner_pending c.args.face.0 c.args.id c.args.self.now.records) ∙ ap is_some (sym c.in-Some.ensures)

pub returns-clause-there : goal.returns-clause-there
returns-clause-there c = owner_there c.args.face.0 c.args.id c.args.self.now.records c.in-Some.found (sym c.in-Some.ensures)

pub returns-clause-pending : goal.returns-clause-pending
returns-clause-pending c = sym (owner_pending c.args.face.0 c.args.id c.args.self.now.records) ∙ ap is_some (sym c.in-Some.ensures)
