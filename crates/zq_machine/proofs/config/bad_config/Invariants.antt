use Rattle.std.proofs.Common.{◌≡◌, [], drop}
use Rattle.zq_machine.specs.Configs.{bad_from}
use Rattle.zq_machine.proofs.config.bad_config.Given as goal

abbrev pub invariant-loop-entry : goal.invariant-loop-entry
invariant-loop-entry l = bad_from l.seen.items (drop l.entry-index l.entries) ≡ bad_from [] l.entries
