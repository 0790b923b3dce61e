use Rattle.std.proofs.Common.{◌≡◌, arith, true, false, None, rules}
use Rattle.std.proofs.lemmas.Bool.Decides.{nat_tests}
use Rattle.std.proofs.lemmas.Grind.{common_steps}
use Rattle.zq_lines.specs.Split.{lines_of}
use Rattle.zq_script.specs.Printing.{Prints}
use Rattle.zq_script.specs.Script.{script_call}
use Rattle.zq_script.proofs.Printed.{line_bad, next_fits, next_told}
use Rattle.zq_script.proofs.printing.print_lines.Goals as goal

pub lines-preserved : goal.lines-preserved
lines-preserved c =
    let ok : c.in_ok-print_line.field-0 ≡ true = first_of ((cc), (search rules), (grind (arith, nat_tests, common_steps))) in
    let prints : Prints (script_call false c.in-Some.line.now) c.lines.gateway.state c.lines.print.items c.print_line.new.gateway.state c.print_line.new.print.items = c.in_ok-print_line.ensures.called (first_of ((cc), (search rules), (grind (arith, common_steps)))) in
    record {
      told = next_told c.lines.number c.in-Some.line.now (lines_of c.in-Some.after.now) (lines_of c.lines.rest.now) c.lines.gateway.state c.print_line.new.gateway.state c.lines.print.items c.print_line.new.print.items _ c.in-Some.ensures.value prints c.lines.invariant.told;
      fits = next_fits c.lines.number c.in-Some.line.now (lines_of c.in-Some.after.now) (lines_of c.lines.rest.now) c.lines.gateway.state c.print_line.new.gateway.state c.lines.print.items c.print_line.new.print.items _ c.in-Some.ensures.value prints c.lines.invariant.fits;
      counted = omega (arith, c.in-Some.ensures.shorter, c.lines.invariant.counted);
    }

pub returns-then-not-branch-clause-print : goal.returns-then-not-branch-clause-print
returns-then-not-branch-clause-print c =
    let bad : c.in_ok-print_line.field-0 ≡ false = first_of ((cc), (search rules), (grind (arith, nat_tests, common_steps))) in
    let none : script_call false c.in-Some.line.now ≡ None = c.in_ok-print_line.ensures.bad (first_of ((cc), (search rules), (grind (arith, common_steps)))) in
    line_bad c.lines.number c.in-Some.line.now (lines_of c.in-Some.after.now) (lines_of c.lines.rest.now) c.lines.gateway.state c.lines.print.items _ c.in-Some.ensures.value none c.lines.invariant.told
