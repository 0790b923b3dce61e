use Rattle.std.proofs.Common.{◌∙◌, ap}
use Rattle.zq_machine.specs.Machine.{state_after}
use Rattle.zq_machine.specs.State.{opening_state}
use Rattle.zq_script.specs.Running.{first_part}
use Rattle.zq_admin.proofs.Traced.{of_calls}
use Rattle.zq_admin.proofs.running.entries_of.Goals as goal

pub returns : goal.returns
returns c =
    of_calls c.args.key.now _ c.args.script.now.config (first_part c.args.script.now.parts) c.list-found.result
    (c.in_ok-gateway.ensures ∙ ap (state_after (opening_state c.args.script.now.config)) c.first_calls.ensures)
    c.list-found.ensures.traced
