use Rattle.std.proofs.Common.{◌∙◌, ap, sym}
use Rattle.zq_session.specs.Running.{session_print}
use Rattle.zq_session.specs.Session.{inside_words}
use Rattle.zq_session.proofs.running.print_of.Goals as goal

pub returns-in_ok-print-in-Ok-clause-print : goal.returns-in_ok-print-in-Ok-clause-print
returns-in_ok-print-in-Ok-clause-print c =
    c.in_ok-print-in-Ok.ensures.inside
    ∙ ap (inside_words c.in-Ok.config c.args.ns.now) c.as_slice.ensures
    ∙ ap (session_print c.args.ns.now) (sym c.in-Ok.ensures.value)
