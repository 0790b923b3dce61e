use Rattle.std.proofs.Common.{◌≡◌, eqb, false, arith}
use Rattle.std.proofs.lemmas.Bool.Decides.{nat_tests}
use Rattle.zq_tables.proofs.FaceLemmas.{scope_none, scope_live, scope_some}
use Rattle.zq_tables.proofs.face.FaceNames.scope_node.Goals as goal

pub returns-clause-none : goal.returns-clause-none
returns-clause-none c =
    let other : eqb c.args.wire.now.scope 0 ≡ false = grind (arith, nat_tests) in
    scope_none c.args.names.now c.args.self.now c.args.wire.now c.get_mapping.result c.get_mapping.ensures other

pub returns-clause-live : goal.returns-clause-live
returns-clause-live c = scope_live c.args.names.now c.args.self.now c.args.wire.now c.get_mapping.result c.get_mapping.ensures c.requires

pub returns-clause-some : goal.returns-clause-some
returns-clause-some c =
    let other : eqb c.args.wire.now.scope 0 ≡ false = grind (arith, nat_tests) in
    scope_some c.args.names.now c.args.self.now c.args.wire.now c.get_mapping.result c.get_mapping.ensures other
