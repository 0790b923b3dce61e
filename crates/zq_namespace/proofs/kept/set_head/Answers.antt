use Rattle.std.proofs.Common.{rules, ◌≡◌, ◌∙◌, sym}
use Rattle.zq_namespace.proofs.Keeping.{head-unset}
use Rattle.zq_namespace.proofs.kept.set_head.Goals as goal

pub returns-in-None : goal.returns-in-None
returns-in-None c =
    let same : c.get_mut.follows.lender-at-none.entries ≡ c.args.heads.now.entries = search rules in
    same ∙ sym (head-unset c.args.id c.args.text c.args.heads.now.entries (sym c.in-None.ensures.value))
