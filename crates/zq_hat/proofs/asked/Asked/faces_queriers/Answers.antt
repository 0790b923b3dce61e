use Rattle.std.proofs.Common.{◌≡◌, ◌∙◌, [], ap, filter, fold, sym, List, ℕ}
use Rattle.zq_strategy.specs.State.{FaceState}
use Rattle.zq_hat.specs.Listings.{with_listing}
use Rattle.zq_hat.specs.Sourced.{asked_listings, is_asked}
use Rattle.zq_hat.proofs.OnAsked.{asked_listed, passed_on}
use Rattle.zq_hat.proofs.asked.Asked.faces_queriers.Goals as goal

pub returns : goal.returns
returns c =
    let asked = c.args.self.now.key.now in
    let ls = asked_listings c.args.strategy c.args.interests.now c.args.faces.now.entries in
    let all : c.loop-number.all ≡ fold with_listing [] (filter (is_asked asked) ls) =
    ap (λ (fs : List (ℕ × FaceState)). fold with_listing c.loop-number.all (filter (is_asked asked) (asked_listings c.args.strategy c.args.interests.now fs))) (sym c.in-None.ensures.steps.0) ∙ c.loop-number.invariant in
    all ∙ asked_listed asked (filter (is_asked asked) ls) ls (λ q. passed_on asked q ls)
