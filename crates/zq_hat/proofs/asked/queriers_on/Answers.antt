use Rattle.std.proofs.Common.{◌≡◌, ◌∙◌, [], IfOk, ap, fold, map, subst, sym, List, ℕ}
use Rattle.zq_strategy.specs.State.{HatState}
use Rattle.zq_hat.specs.Asked.{queriers_part_on}
use Rattle.zq_hat.specs.Joining.{with_part}
use Rattle.zq_hat.specs.Sourced.{queriers_part}
use Rattle.zq_hat.specs.Sources.{SourceTexts}
use Rattle.zq_hat.proofs.OnAsked.{asked_joined}
use Rattle.zq_hat.proofs.Regions.{queriers_ordered}
use Rattle.zq_hat.proofs.asked.queriers_on.Goals as goal

pub returns : goal.returns
returns c =
    let asked = c.args.asked.now in
    let ints = c.args.interests.now in
    let hats : List (ℕ × HatState) = c.args.hats.now in
    let all : c.loop-hat.all ≡ fold with_part [] (map (queriers_part_on asked ints) hats) =
    ap (λ hs. fold with_part c.loop-hat.all (map (queriers_part_on asked ints) hs)) (sym c.in-None.ensures.steps.0) ∙ c.loop-hat.invariant.rest in
    subst (λ (all : SourceTexts). IfOk c.into_list.result (λ l. l ≡ all)) (all ∙ asked_joined asked (queriers_part ints) hats (queriers_ordered ints hats)) c.into_list.ensures
