use Rattle.std.proofs.Common.{◌∙◌, sym, ap}
use Rattle.zq_namespace.specs.Out.{left}
use Rattle.zq_egress.proofs.Keeping.{already_back, stays}
use Rattle.zq_egress.proofs.through.let_one.Goals as goal

pub returns-in-Same-clause-back : goal.returns-in-Same-clause-back
returns-in-Same-clause-back c = already_back c.args.handed.now.to.0 c.args.handed.now.message c.args.gates.now.entries

pub returns-in_ok-new-in-Other-clause-back : goal.returns-in_ok-new-in-Other-clause-back
returns-in_ok-new-in-Other-clause-back c = already_back c.args.handed.now.to.0 c.args.handed.now.message c.args.gates.now.entries

pub returns-in_ok-keep_at-in-Nothing-clause-gates : goal.returns-in_ok-keep_at-in-Nothing-clause-gates
returns-in_ok-keep_at-in-Nothing-clause-gates c =
    c.in_ok-keep_at-in-Nothing.ensures.ok
    ∙ sym (stays c.args.text.now c.args.handed.now c.args.gates.now.entries (ap (left c.args.handed.now.message) (sym c.in-Nothing.is) ∙ c.in_ok-leave_at.ensures))
