use Rattle.std.proofs.Common.{◌∙◌, ap, sym, subst}
use Rattle.std.specs.List.{AllByRecursion}
use Rattle.zq_machine.specs.Gates.{IsWhole, Out}
use Rattle.zq_machine.proofs.Ungated.{written_whole}
use Rattle.zq_gateway.proofs.Quiet.{passed}
use Rattle.zq_gateway.proofs.leaving.let_out.Goals as goal

pub let_out-requires-clause-whole : goal.let_out-requires-clause-whole
let_out-requires-clause-whole c =
    let w = c.requires.written in
    subst (AllByRecursion IsWhole) (sym (c.as_slice.ensures ∙ w.2)) (written_whole w.0 w.1)

pub returns-clause-out : goal.returns-clause-out
returns-clause-out c =
    let w = c.requires.written in
    c.pass.ensures.handed ∙ ap (λ (o : Out). o.handed) (passed c.args.text.now c.args.gates.now c.let_out.new.self c.args.handed c.as_slice.result.now c.in_ok-exits.exits.items w.0 w.1 w.2 c.as_slice.ensures c.in_ok-exits.ensures.out)

pub returns-clause-same : goal.returns-clause-same
returns-clause-same c =
    let w = c.requires.written in
    c.pass.ensures.gates ∙ ap (λ (o : Out). o.gates) (passed c.args.text.now c.args.gates.now c.let_out.new.self c.args.handed c.as_slice.result.now c.in_ok-exits.exits.items w.0 w.1 w.2 c.as_slice.ensures c.in_ok-exits.ensures.out)
