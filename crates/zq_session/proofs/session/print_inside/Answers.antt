use Rattle.std.proofs.Common.{◌∙◌, ap, length, sym}
use Rattle.zq_session.specs.Session.{run_words}
use Rattle.zq_session.proofs.Printed.{as_long_inside, printed_as, printed_inside, printed_same}
use Rattle.zq_session.proofs.session.print_inside.Goals as goal

pub print_run-requires : goal.print_run-requires
print_run-requires c = as_long_inside c.args.config.now c.args.ns.now c.args.calls.now ∙ ap length (sym (c.as_slice.ensures ∙ c.in_ok-run.ensures.machine))

pub returns-clause-inside : goal.returns-clause-inside
returns-clause-inside c =
    printed_as c.print_run.result _ _ c.print_run.ensures
    (ap (run_words c.args.calls.now) (c.as_slice.ensures ∙ c.in_ok-run.ensures.machine) ∙ printed_inside c.args.config.now c.args.ns.now c.args.calls.now)

pub returns-clause-unnoticed : goal.returns-clause-unnoticed
returns-clause-unnoticed c =
    printed_as c.print_run.result _ _ c.print_run.ensures
    (ap (run_words c.args.calls.now) (c.as_slice.ensures ∙ c.in_ok-run.ensures.machine) ∙ printed_same c.args.config.now c.args.ns.now c.args.calls.now c.requires.plain c.requires.moves)
