use Rattle.std.proofs.Common.{◌≡◌, subst, Some}
use Rattle.std.specs.Prelude.{OnOk}
use Rattle.zq_machine.specs.declared.face.OpenFace.{OpenFace}
use Rattle.zq_machine.specs.State.{at}
use Rattle.zq_gateway.specs.Caching.{IsKeptOf}
use Rattle.zq_machine.specs.TextCalls.{asking}
use Rattle.zq_gateway.specs.Making.{Settles}
use Rattle.zq_gateway.proofs.tables.Tables.send_request.Goals as goal

pub returns-clause-makes : goal.returns-clause-makes
returns-clause-makes c =
    subst (λ said. Settles c.args.self.now c.request.new.self (asking c.args.face said c.args.msg.now c.args.now) c.request.result) c.in_ok-said.ensures c.request.ensures.settles

pub returns-clause-kept : goal.returns-clause-kept
returns-clause-kept c =
    subst (λ said. OnOk c.request.result ((o : OpenFace) → at c.args.face.0 c.args.self.now.core.faces ≡ Some o → IsKeptOf c.args.self.now c.request.new.routes c.args.face c.args.msg.now said o)) c.in_ok-said.ensures c.request.ensures.kept
