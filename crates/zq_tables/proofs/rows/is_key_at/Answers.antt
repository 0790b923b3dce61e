use Rattle.std.proofs.Common.{ℕ, sym, subst}
use Rattle.zq_tables.specs.Holding.{IsNode}
use Rattle.zq_tables.proofs.rows.is_key_at.Goals as goal

pub expr-requires : goal.expr-requires
expr-requires c =
    let N : ℕ → Type 0 = IsNode c.args.names.now in
    (subst N (sym c.get.ensures.here) (c.requires.live c.args.at c.get.result c.requires.in_range)).live
