use Rattle.std.proofs.Common.{◌∙◌, sym, ap}
use Rattle.zq_machine.specs.Configs.{bad_config}
use Rattle.zq_machine.proofs.Kept.{headline}
use Rattle.zq_trace.proofs.Told.{valid_told}
use Rattle.zq_trace.proofs.Valid.{valid_keep}
use Rattle.zq_gateway.proofs.Reached.{reached_opening}
use Rattle.zq_gateway.proofs.gateway.Gateway.new.Goals as goal

pub invariant_of-result : goal.invariant_of-result
invariant_of-result c = (rw c.in_ok-new.ensures.opening (reached_opening c.args.config.now c.in_ok-new.ensures.low), c.in_ok-new-2.ensures _)

pub returns-clause-headline : goal.returns-clause-headline
returns-clause-headline c = valid_keep c.args.config.now (ap bad_config (sym c.entries-valid.ensures.entries) ∙ c.entries-valid.ensures.valid)

pub returns-clause-told : goal.returns-clause-told
returns-clause-told c = valid_told c.args.config.now (ap bad_config (sym c.entries-valid.ensures.entries) ∙ c.entries-valid.ensures.valid)

pub returns-clause-promise : goal.returns-clause-promise
returns-clause-promise c = headline c.args.config.now
