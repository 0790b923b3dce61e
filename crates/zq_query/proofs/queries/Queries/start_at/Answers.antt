use Rattle.std.proofs.Common.{◌∙◌, ℕ, List, Option, ap}
use Rattle.std.specs.Prelude.{◌&&◌}
use Rattle.std.specs.BTreeMap.{insert_entry}
use Rattle.std.specs.Ordering.{nat_cmp}
use Rattle.zq_query.specs.Tables.{at_number, rises}
use Rattle.zq_query.proofs.Rising.{rising_set}
use Rattle.zq_query.proofs.queries.Queries.start_at.Goals as goal

pub invariant_of-self-2 : goal.invariant_of-self-2
invariant_of-self-2 c =
    let i = c.self.inside in
    let face = c.args.face.0 in
    let given = c.put-before.ensures.entries ∙ ap (λ (l : List (ℕ × ℕ)). insert_entry nat_cmp l face c.args.last) c.reserve.ensures.entries in
    let before = c.put-before.ensures.before ∙ ap (λ (l : List (ℕ × ℕ)). at_number face l) c.reserve.ensures.entries in
    let rising = c.still_rising-self-inside.ensures ∙ ap (λ (q : Option ℕ). i.rising && rises q c.args.last) before in
    rw (given, rising) (c.self.invariant.0, c.self.invariant.1, rising_set i.rising i.pending.entries i.last_ids.entries face c.args.last c.self.invariant.2)
