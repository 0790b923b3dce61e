use Rattle.std.proofs.Common.{◌≡◌, ◌∙◌, ap, sym, fold, filter, cond, ◌∷◌, true, List, ℕ, Option}
use Rattle.std.specs.Prelude.{option_map}
use Rattle.std.specs.List.{cons_option, filter_map}
use Rattle.zq_key.specs.Key.{intersects}
use Rattle.zq_interests.specs.declared.types.InterestEntry.{InterestEntry}
use Rattle.zq_hat.specs.Sources.{SourceTexts, source_put}
use Rattle.zq_hat.specs.Listings.{Listing, with_listing}
use Rattle.zq_hat.specs.Sourced.{asked_listing, is_asked}
use Rattle.zq_hat.proofs.asked.Asked.add_asked.Goals as goal

pub loop-interest-preserved-in-loop-interest : goal.loop-interest-preserved-in-loop-interest
loop-interest-preserved-in-loop-interest c =
    let o = c.args.source in
    let asked = c.args.self.now.key.now in
    let key : List ℕ = c.in-Some-key.key in
    let was : SourceTexts = c.loop-interest.all in
    let rest : List (ℕ × InterestEntry) = c.next.new.self in
    let found : List Listing = filter (is_asked asked) (filter_map (asked_listing o) rest) in
    let put : c.add.new.self ≡ source_put c.as_str-in-loop-interest.result.now o was = c.in_ok-add.ensures in
    let meets : intersects asked key ≡ true = sym (c.intersects.ensures.bytes ∙ ap (intersects asked) c.as_str.ensures.text) ∙ c.if-intersects.true in
    ap (λ all. fold with_listing all found) (put ∙ ap (λ k. source_put k o was) c.as_str-in-loop-interest.ensures.text)
    ∙ ap (λ b. fold with_listing was (cond b ((key, o) ∷ found) found)) (sym meets)
    ∙ ap (λ (k : Option (List ℕ)). fold with_listing was (filter (is_asked asked) (cons_option (option_map (λ key. (key, o)) k) (filter_map (asked_listing o) rest)))) (sym c.in-Some-key.is)
    ∙ ap (λ is. fold with_listing was (filter (is_asked asked) (filter_map (asked_listing o) is))) (sym c.in-Some.ensures.steps)
    ∙ c.loop-interest.invariant
