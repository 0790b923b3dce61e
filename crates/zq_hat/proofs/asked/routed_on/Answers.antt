use Rattle.std.proofs.Common.{◌∙◌, fold}
use Rattle.std.specs.Prelude.{filter}
use Rattle.std.specs.List.{flat_map}
use Rattle.zq_index.specs.Texts.{texts_of}
use Rattle.zq_strategy.specs.Met.{is_met}
use Rattle.zq_strategy.proofs.Gathering.{gathered}
use Rattle.zq_hat.specs.Listings.{with_listing}
use Rattle.zq_hat.specs.Sourced.{routed_by}
use Rattle.zq_hat.proofs.Declarers.{all_listed, put_listings, routed_met}
use Rattle.zq_hat.proofs.asked.routed_on.Goals as goal

pub returns : goal.returns
returns c =
    let q = c.args.asked.now in
    let on = routed_by c.args.own in
    let es = texts_of c.keys.result.now.entries in
    gathered _ (λ all. all) (put_listings on) (λ was e next same. same) (filter (is_met q) es) c.new-all.result c.gather_all.new.found c.in_ok-gather_all.ensures
    ∙ all_listed on (filter (is_met q) es) c.new-all.result
    ∙ (λ i. fold with_listing (c.new-all.ensures i) (flat_map on (filter (is_met q) ((c.keys.ensures ∙ c.by_key-by_key.ensures.value) i))))
    ∙ routed_met c.args.own q c.args.entries.now c.by_key-by_key.ensures.ordered.texts
