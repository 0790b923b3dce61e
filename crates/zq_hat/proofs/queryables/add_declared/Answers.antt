use Rattle.std.proofs.Common.{◌≡◌, ◌∙◌, ap, sym, fold, map, List, ℕ}
use Rattle.zq_strategy.specs.declared.types.Declaration.{Declaration}
use Rattle.zq_hat.specs.Sources.{SourceTexts, source_put}
use Rattle.zq_hat.specs.Listings.{with_listing}
use Rattle.zq_hat.specs.Sourced.{declaration_listing}
use Rattle.zq_hat.proofs.queryables.add_declared.Goals as goal

pub loop-declaration-preserved : goal.loop-declaration-preserved
loop-declaration-preserved c =
    let o = c.args.source in
    let was : SourceTexts = c.loop-declaration.all in
    let rest : List (ℕ × Declaration) = c.next.new.self in
    let put : c.add.new.self ≡ source_put c.as_str.result.now o was = c.in_ok-add.ensures in
    ap (λ all. fold with_listing all (map (declaration_listing o) rest)) (put ∙ ap (λ k. source_put k o was) c.as_str.ensures.text)
    ∙ ap (λ ds. fold with_listing was (map (declaration_listing o) ds)) (sym c.in-Some.ensures.steps)
    ∙ c.loop-declaration.invariant
