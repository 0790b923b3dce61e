use Rattle.std.proofs.Common.{arith}
use Rattle.std.proofs.lemmas.List.Elements.{All-from_get_or}
use Rattle.percent_encoding.proofs.PercentLemmas.{IsByte}
use Rattle.zq_script.proofs.Fitting.{given_holds}
use Rattle.zq_script.proofs.script.read_script.Goals as goal

pub returns-clause-calls : goal.returns-clause-calls
returns-clause-calls c =
    given_holds c.args.workers c.args.bytes.now _ (All-from_get_or IsByte c.args.bytes.now 0 (λ i inside. let fits = c.type_inv.bytes i in omega arith)) c.script_in.ensures
