use Rattle.std.proofs.Common.{sym}
use Rattle.std.proofs.lemmas.List.{take_all}
use Rattle.zq_show.specs.declared.show.TheConstants.{DRAWN}
use Rattle.zq_show.proofs.show.first_calls.Goals as goal

pub returns-then-entries-le-DRAWN : goal.returns-then-entries-le-DRAWN
returns-then-entries-le-DRAWN c = sym (take_all DRAWN c.args.entries.now c.if-entries-le-DRAWN.true)
