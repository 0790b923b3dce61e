use Rattle.std.proofs.Common.{rules, ◌≡◌, arith, false, get_or, []}
use Rattle.std.proofs.lemmas.Bool.Decides.{nat_tests}
use Rattle.std.proofs.lemmas.Grind.{common_steps}
use Rattle.zq_lines.specs.Near.{is_near}
use Rattle.zq_lines.specs.declared.near.TheConstants.{NAMES}
use Rattle.zq_lines.proofs.Names.{passed_over}
use Rattle.zq_lines.proofs.near.nearest.Goals as goal

pub names-preserved : goal.names-preserved
names-preserved c =
    let far : is_near c.args.word.now (get_or NAMES.now c.names.name-index (record { now = [] })).now ≡ false = first_of ((cc), (search rules), (grind (arith, nat_tests, common_steps))) in
    record { found = passed_over (λ t. t.now) c.args.word.now NAMES.now c.names.name-index (record { now = [] }) _ c.names-test.true far c.names.invariant.found }
