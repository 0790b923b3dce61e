use Rattle.std.proofs.Common.{◌≡◌, ◌∙◌, ap, sym, fold, List, ℕ, Option}
use Rattle.std.specs.Prelude.{option_map}
use Rattle.std.specs.List.{cons_option, filter_map}
use Rattle.zq_interests.specs.declared.types.InterestEntry.{InterestEntry}
use Rattle.zq_hat.specs.Sources.{SourceTexts, source_put}
use Rattle.zq_hat.specs.Listings.{with_listing}
use Rattle.zq_hat.specs.Sourced.{asked_listing}
use Rattle.zq_hat.proofs.queriers.add_asked.Goals as goal

pub loop-interest-preserved-in-Continue-1 : goal.loop-interest-preserved-in-Continue-1
loop-interest-preserved-in-Continue-1 c =
    let o = c.args.source in
    let was : SourceTexts = c.loop-interest.all in
    let rest : List (ℕ × InterestEntry) = c.next.new.self in
    let put : c.add.new.self ≡ source_put c.as_str.result.now o was = c.in_ok-add.ensures in
    ap (λ all. fold with_listing all (filter_map (asked_listing o) rest)) (put ∙ ap (λ k. source_put k o was) c.as_str.ensures.text)
    ∙ ap (λ (k : Option (List ℕ)). fold with_listing was (cons_option (option_map (λ key. (key, o)) k) (filter_map (asked_listing o) rest))) (sym c.in-Some-key.is)
    ∙ ap (λ is. fold with_listing was (filter_map (asked_listing o) is)) (sym c.in-Some.ensures.steps)
    ∙ c.loop-interest.invariant
