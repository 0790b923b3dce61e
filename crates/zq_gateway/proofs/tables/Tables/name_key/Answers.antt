use Rattle.std.proofs.Common.{subst}
use Rattle.zq_tables.specs.Naming.{face_naming, text_at}
use Rattle.zq_machine.specs.TextCalls.{naming}
use Rattle.zq_gateway.specs.Making.{Settles}
use Rattle.zq_gateway.proofs.tables.Tables.name_key.Goals as goal

pub returns : goal.returns
returns c =
    subst (λ said. Settles c.args.self.now c.declare_key.new.self (naming c.args.face c.args.id said (text_at c.args.id (face_naming c.args.face.0 c.args.self.now.names).theirs)) c.declare_key.result) c.in_ok-said.ensures c.declare_key.ensures
