use Rattle.std.proofs.Common.{ap, sym, ◌∙◌, refl, IsSome, subst}
use Rattle.std.specs.Map.{keys_of}
use Rattle.std.specs.Option.{is_some}
use Rattle.zq_namespace.specs.Leaves.{without_head}
use Rattle.zq_namespace.specs.Undone.{head_set}
use Rattle.zq_namespace.proofs.Keeping.{head-back, head-again}
use Rattle.zq_namespace.proofs.kept.put_head.Goals as goal

pub returns-in-Some-clause-back : goal.returns-in-Some-clause-back
returns-in-Some-clause-back c =
    ap (head_set c.args.id c.in-Some.old) c.in_ok-old.ensures.entries
    ∙ head-again c.args.id c.args.text c.in-Some.old c.args.heads.now.entries (ap keys_of (sym c.in_ok-old.ensures.entries) ∙ c.in_ok-old.ensures.keys_stay (subst IsSome (sym c.in-Some.is) refl)) (sym c.in_ok-old.ensures.old ∙ c.in-Some.is)

pub returns-in-None-clause-back : goal.returns-in-None-clause-back
returns-in-None-clause-back c = ap (without_head c.args.id) c.in_ok-old.ensures.entries ∙ head-back c.args.id c.args.text c.args.heads.now.entries (ap is_some (sym c.in_ok-old.ensures.old ∙ c.in-None.is))
