use Rattle.std.proofs.Common.{◌≡◌, ◌∙◌, ◌<◌, ◌^◌, ℕ, List, ap, arith}
use Rattle.std.specs.Map.{keys_of}
use Rattle.zq_query.specs.Records.{QueryState}
use Rattle.zq_query.specs.Asking.{are_distinct, any_pending, given_place}
use Rattle.zq_query.proofs.Entries.{map_both}
use Rattle.zq_query.proofs.Ids.{given_are_new}
use Rattle.zq_query.proofs.queries.Queries.plan.Goals as goal

pub returns-clause-fits : goal.returns-clause-fits
returns-clause-fits c =
    let s = c.args.self.now in
    let ts = c.args.targets.now in
    let places = c.in_ok-places.ensures.places in
    let next : c.self.inside.requests ≡ s.requests = ap (λ (z : QueryState). z.requests) c.self.view_is in
    let low = c.if-self.false in
    let small : c.self.inside.requests < 2 ^ 64 = omega arith in
    record {
      fits = omega (arith, next, low, small);
      absent = ap (any_pending s.records) places ∙ given_are_new s ts c.in_ok-places.ensures.free;
      distinct = ap (λ (l : List (ℕ × ℕ)). are_distinct (keys_of l)) places ∙ ap are_distinct (map_both (λ (p : ℕ × ℕ). p.0) (given_place s) ts) ∙ c.requires;
      small = c.in_ok-places.ensures.small;
    }
