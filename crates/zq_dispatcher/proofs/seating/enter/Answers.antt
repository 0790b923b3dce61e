use Rattle.std.proofs.Common.{◌∙◌, ap}
use Rattle.zq_tables.specs.Naming.{closed_naming}
use Rattle.zq_dispatcher.proofs.Opened.{closed_again}
use Rattle.zq_dispatcher.proofs.seating.enter.Goals as goal

pub returns-in-Err-clause-no_names : goal.returns-in-Err-clause-no_names
returns-in-Err-clause-no_names c = c.close.ensures ∙ ap (closed_naming c.args.face.0) c.in_ok-open.ensures.ok ∙ closed_again c.args.face.0 c.args.names.now c.requires.named
