use Rattle.std.proofs.Common.{◌≡◌, ◌∙◌, [], IfOk, ap, fold, map, subst, sym, List, ℕ}
use Rattle.zq_strategy.specs.State.{HatState}
use Rattle.zq_hat.specs.Asked.{queryables_part_on}
use Rattle.zq_hat.specs.Joining.{with_part}
use Rattle.zq_hat.specs.Sourced.{queryables_part}
use Rattle.zq_hat.specs.Sources.{SourceTexts}
use Rattle.zq_hat.proofs.OnAsked.{asked_joined}
use Rattle.zq_hat.proofs.Regions.{queryables_ordered}
use Rattle.zq_hat.proofs.asked.queryables_on.Goals as goal

pub returns : goal.returns
returns c =
    let asked = c.args.asked.now in
    let own = c.args.own in
    let hats : List (ℕ × HatState) = c.args.hats.now in
    let all : c.loop-hat.all ≡ fold with_part [] (map (queryables_part_on asked own) hats) =
    ap (λ hs. fold with_part c.loop-hat.all (map (queryables_part_on asked own) hs)) (sym c.in-None.ensures.steps.0) ∙ c.loop-hat.invariant.rest in
    subst (λ (all : SourceTexts). IfOk c.into_list.result (λ l. l ≡ all)) (all ∙ asked_joined asked (queryables_part own) hats (queryables_ordered own hats)) c.into_list.ensures
