use Rattle.std.proofs.Common.{◌∙◌, fold, subst, sym}
use Rattle.std.specs.Prelude.{filter}
use Rattle.std.specs.List.{AllByRecursion, flat_map}
use Rattle.zq_index.specs.Texts.{texts_of}
use Rattle.zq_strategy.specs.Met.{is_met}
use Rattle.zq_strategy.specs.OfferOrder.{IsKeyed}
use Rattle.zq_strategy.proofs.Gathering.{gathered}
use Rattle.zq_hat.specs.Asked.{holder_listings}
use Rattle.zq_hat.specs.Listings.{with_listing}
use Rattle.zq_hat.proofs.Declarers.{all_listed, declared_met, put_listings}
use Rattle.zq_hat.proofs.IndexKeys.{all_keyed}
use Rattle.zq_hat.proofs.asked.declared_on.Goals as goal

pub gather_all-requires-clause-keys : goal.gather_all-requires-clause-keys
gather_all-requires-clause-keys c = subst (AllByRecursion IsKeyed) (sym c.keys.ensures) (all_keyed c.args.faces.now.entries c.args.index.now c.requires.tied)

pub returns : goal.returns
returns c =
    let q = c.args.asked.now in
    let k = c.args.strategy in
    let faces = c.args.faces.now.entries in
    let on = holder_listings k faces in
    let es = texts_of c.keys.result.now.entries in
    gathered _ (λ all. all) (put_listings on) (λ was e next same. same) (filter (is_met q) es) c.new-all.result c.gather_all.new.found c.in_ok-gather_all.ensures
    ∙ all_listed on (filter (is_met q) es) c.new-all.result
    ∙ (λ i. fold with_listing (c.new-all.ensures i) (flat_map on (filter (is_met q) (c.keys.ensures i))))
    ∙ declared_met k faces c.args.index.now c.requires.tied q
