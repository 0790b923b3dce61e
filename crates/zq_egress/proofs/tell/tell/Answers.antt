use Rattle.std.proofs.Common.{◌≡◌, ◌∙◌, true, sym, subst}
use Rattle.std.specs.List.{All}
use Rattle.zq_key.specs.Key.{is_key}
use Rattle.zq_strategy.specs.declared.network.Telling as hat
use Rattle.zq_egress.proofs.Telling.{all_ordered}
use Rattle.zq_egress.proofs.tell.tell.Goals as goal

pub tell_behind-requires : goal.tell_behind-requires
tell_behind-requires g c =
    let P : hat.Telling → Type 0 = λ (x : hat.Telling). is_key x.key ≡ true in
    subst (All P) (sym (c.as_slice-each.ensures ∙ c.in_ok-ordered.ensures)) (all_ordered P c.args.tellings.now c.requires)
