use Rattle.std.proofs.Common.{ap, sym, ◌∙◌}
use Rattle.zq_namespace.specs.Leaves.{without_id}
use Rattle.zq_namespace.proofs.Keeping.{id-back, not-true}
use Rattle.zq_namespace.proofs.kept.put_id.Goals as goal

pub returns-then-branch-clause-back : goal.returns-then-branch-clause-back
returns-then-branch-clause-back c = ap (without_id c.args.id) c.in_ok-insert.ensures.keys ∙ id-back c.args.id c.args.ids.now.keys (not-true _ (sym c.if-branch.true ∙ c.in_ok-insert.ensures.added))
