use Rattle.std.proofs.Common.{sym, arith}
use Rattle.zq_names.specs.Branch.{side}
use Rattle.zq_names.proofs.Edits.{insert_past}
use Rattle.zq_names.proofs.branch.+inserted.Goals as goal

pub returns : goal.returns
returns t c =
    let p = c.parts-left.result in
    rw (c.balanced-2.ensures, c.inserted-more-2.ensures, c.in-Some.is, c.parts-left.ensures) (sym (insert_past (side p.0) p.1 (side p.2) c.count-before.result c.args.at c.args.number c.count-before.ensures (omega (arith, c.if-at-before.false))))
