use Rattle.std.proofs.Common.{◌∙◌, ℕ, ap, map}
use Rattle.zq_query.specs.Asking.{given_place}
use Rattle.zq_query.proofs.Entries.{map_both}
use Rattle.zq_query.proofs.queries.Queries.ask.Goals as goal

pub returns-in-Ok-ask_planned-clause-ids : goal.returns-in-Ok-ask_planned-clause-ids
returns-in-Ok-ask_planned-clause-ids c =
    let s = c.args.self.now in
    c.in-Ok.ensures
    ∙ ap (map (λ (p : ℕ × ℕ). p.1)) (c.as_slice.ensures ∙ c.in_ok-places.ensures.places)
    ∙ map_both (λ (p : ℕ × ℕ). p.1) (given_place s) c.args.targets.now
