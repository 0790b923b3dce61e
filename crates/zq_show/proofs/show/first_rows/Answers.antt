use Rattle.std.proofs.Common.{sym}
use Rattle.std.proofs.lemmas.List.{take_all}
use Rattle.zq_show.specs.declared.show.TheConstants.{ROWS}
use Rattle.zq_show.proofs.show.first_rows.Goals as goal

pub returns-then-rows-le-ROWS : goal.returns-then-rows-le-ROWS
returns-then-rows-le-ROWS c = sym (take_all ROWS c.args.rows.now c.if-rows-le-ROWS.true)
