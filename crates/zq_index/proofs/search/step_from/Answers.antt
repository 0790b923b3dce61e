use Rattle.std.proofs.Common.{sym, subst, get_or}
use Rattle.std.specs.Prelude.{IfOk}
use Rattle.std.specs.String.{string_bytes}
use Rattle.zq_index.specs.Forks.{IsForkAt, IsHeld, IsLast}
use Rattle.zq_index.specs.Skipping.{StepIs}
use Rattle.zq_index.proofs.search.step_from.Goals as goal

pub returns-in-None : goal.returns-in-None
returns-in-None c =
    let lists = c.args.lists.now in
    let q = c.args.q.now in
    let p = c.args.parting in
    let text = c.as_str-text.ensures.value in
    subst (λ t. IfOk c.past.result (StepIs lists q t (string_bytes c.past.new.bound))) text
    (c.past.ensures lists q p.wanted
    (subst (λ t. IsForkAt t q p.at p.wanted) (sym text) c.requires.fork)
    (subst (λ t. IsLast (get_or t p.at 0) p.wanted) c.as_bytes.ensures.value c.in-None.ensures)
    (subst (λ t. IsHeld t q p.held p.at) (sym text) c.requires.held))
