use Rattle.std.specs.Prelude.{IfOk, false}
use Rattle.std.proofs.lemmas.Result.{IfOk-weaker}
use Rattle.zq_machine.specs.State.{opening_state}
use Rattle.zq_lines.specs.Split.{lines_of}
use Rattle.zq_script.specs.Printing.{FitsRun}
use Rattle.zq_script.specs.Running.{ReadsBack}
use Rattle.zq_script.specs.Script.{parts_from, script_of}
use Rattle.zq_script.proofs.Printed.{script_back}
use Rattle.zq_script.proofs.printing.print_script.Goals as goal

pub returns-clause-back : goal.returns-clause-back
returns-clause-back c =
    let lines = lines_of c.args.bytes.now in
    let config = c.in_ok-config.config in
    let first = c.in_ok-config.first in
    let rest = lines_of c.in_ok-config.rest.now in
    IfOk-weaker c.print_calls.result (λ _. FitsRun (opening_state config) (parts_from first false 0 rest)) (λ _. IfOk (script_of 0 lines) ReadsBack)
    (λ _ f. script_back lines (config, c.in_ok-config.field-0-1, first, rest) c.in_ok-config.ensures.value f)
    c.print_calls.ensures.fits
