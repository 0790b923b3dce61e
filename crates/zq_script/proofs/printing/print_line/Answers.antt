use Rattle.std.proofs.Common.{false}
use Rattle.zq_script.specs.Script.{script_call}
use Rattle.zq_script.proofs.Printed.{call_prints}
use Rattle.zq_script.proofs.printing.print_line.Goals as goal

pub returns-in_ok-print_step-in-Ok-clause-called : goal.returns-in_ok-print_step-in-Ok-clause-called
returns-in_ok-print_step-in-Ok-clause-called c = λ _.
    call_prints (script_call false c.args.line.now) c.in-Ok.call c.args.gateway.now.state c.print_step.new.gateway.state c.args.print.now.items c.print_step.new.print.items c.in-Ok.ensures c.in_ok-print_step-in-Ok.ensures.after c.in_ok-print_step-in-Ok.ensures.print c.in_ok-print_step-in-Ok.ensures.fits
