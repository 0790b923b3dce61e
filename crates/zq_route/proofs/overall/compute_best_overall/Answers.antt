use Rattle.std.proofs.Common.{◌≡◌, ◌∙◌, ap, subst, OnOk, OnErr, ℕ, take, filter}
use Rattle.std.specs.Map.{values_of}
use Rattle.zq_route.specs.Selection.{best_overall, with_offers}
use Rattle.zq_route.proofs.Nearest.{filter_joined}
use Rattle.zq_route.proofs.overall.compute_best_overall.Goals as goal

pub returns-in-Ok-clause-ok : goal.returns-in-Ok-clause-ok
returns-in-Ok-clause-ok g c =
    let same = ap (filter g.test) c.in-Ok.ensures ∙ filter_joined g.test (values_of c.args.offers.now) in
    subst (λ l. OnOk c.take_best_overall.result (c.take_best_overall.new.route ≡ with_offers c.args.route.now (best_overall l))) same c.take_best_overall.ensures.ok

pub returns-in-Ok-clause-err : goal.returns-in-Ok-clause-err
returns-in-Ok-clause-err g c =
    let same = ap (filter g.test) c.in-Ok.ensures ∙ filter_joined g.test (values_of c.args.offers.now) in
    subst (λ l. OnErr c.take_best_overall.result ((n : ℕ) × (c.take_best_overall.new.route ≡ with_offers c.args.route.now (take n (best_overall l))))) same c.take_best_overall.ensures.err
