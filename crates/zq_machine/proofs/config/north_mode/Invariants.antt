use Rattle.std.proofs.Common.{◌≡◌, drop}
use Rattle.zq_machine.specs.Configs.{north_of}
use Rattle.zq_machine.proofs.config.north_mode.Given as goal

abbrev pub invariant-loop-entry : goal.invariant-loop-entry
invariant-loop-entry l = north_of (drop l.entry-index l.entries) ≡ north_of l.entries
