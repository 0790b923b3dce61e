use Rattle.std.proofs.Common.{◌≡◌, subst, true, ◌<◌, ◌^◌, arith}
use Rattle.std.specs.Fmt.{decimal}
use Rattle.std.specs.Prelude.{codes}
use Rattle.zq_message.specs.declared.message.Zid.{Zid}
use Rattle.zq_key.specs.Key.{is_key}
use Rattle.zq_key.specs.Space.{behind}
use Rattle.zq_admin.proofs.Tame.{on_ok, own_is_key}
use Rattle.zq_admin.proofs.opening.own_key.Goals as goal

pub returns-clause-key : goal.returns-clause-key
returns-clause-key c =
    let small : c.zid.result.0 < 10 ^ 64 = omega arith in
    on_ok c.behind.result _ (subst (λ (z : Zid). is_key (behind (behind (codes "@") (decimal z.0)) (codes "**")) ≡ true) c.zid.ensures (own_is_key c.zid.result.0 small))
