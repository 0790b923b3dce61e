use Rattle.std.proofs.Common.{◌++◌, sym, ap, ◌∙◌, arith}
use Rattle.zq_names.specs.Branch.{side}
use Rattle.zq_names.proofs.Edits.{remove_past, remove_here, first_before}
use Rattle.zq_names.proofs.branch.+removed.Goals as goal

pub returns-then-at-before-2-clause-rest : goal.returns-then-at-before-2-clause-rest
returns-then-at-before-2-clause-rest t c =
    let p = c.parts-left.result in
    rw (c.balanced-then-at-before-2.ensures, c.removed-number-then-at-before-2.ensures.rest, c.in-Some.is, c.parts-left.ensures) (sym (remove_past (side p.0) p.1 (side p.2) c.count-before.result c.args.at c.count-before.ensures (omega (arith, c.if-at-before-2.true))))

pub returns-clause-rest : goal.returns-clause-rest
returns-clause-rest t c =
    let p = c.parts-left.result in
    rw (c.balanced-2.ensures, c.removed-next.ensures.rest, c.in-Some.is, c.parts-left.ensures)
    (ap (λ l. side p.0 ++ l) (first_before (side p.2) c.removed-next.result.0 (omega (arith, c.count.ensures, c.if-count-eq0.false)) c.removed-next.ensures.number)
    ∙ sym (remove_here (side p.0) p.1 (side p.2) c.args.at (omega (arith, c.count-before.ensures, c.if-at-before.false, c.if-at-before-2.false))))
