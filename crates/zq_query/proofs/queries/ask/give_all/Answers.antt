use Rattle.std.proofs.Common.{◌∙◌, ℕ, List, sym, ap, get_or, arith}
use Rattle.std.specs.BTreeMap.{insert_entry}
use Rattle.std.specs.Ordering.{nat_cmp}
use Rattle.std.proofs.lemmas.List.Sums.{fold_more}
use Rattle.std.specs.Prelude.{◌&&◌}
use Rattle.zq_query.specs.Tables.{at_number, rises}
use Rattle.zq_query.proofs.Rising.{rise_more, and_over}
use Rattle.zq_query.proofs.queries.ask.give_all.Goals as goal

pub loop-place-preserved : goal.loop-place-preserved
loop-place-preserved c =
    let i = c.loop-place.place-index in
    let p : ℕ × ℕ = get_or c.args.places.now i (0, 0) in
    let room = c.loop-place.invariant.room in
    let spare = c.put-before.ensures.spare in
    let before = c.put-before.ensures.before ∙ ap (at_number p.0) c.loop-place.invariant.given in
    record {
      given = c.put-before.ensures.entries
          ∙ ap (λ (l : List (ℕ × ℕ)). insert_entry nat_cmp l p.0 p.1) c.loop-place.invariant.given
          ∙ sym (fold_more (λ (z : List (ℕ × ℕ)) (q : ℕ × ℕ). insert_entry nat_cmp z q.0 q.1) c.args.last_ids.now.entries c.args.places.now i (0, 0) c.loop-place-test.true);
      room = omega (arith, room, spare);
      rising = c.still_rising-still.ensures
          ∙ (λ j. c.loop-place.invariant.rising j && rises (before j) p.1)
          ∙ sym (and_over c.args.rising _ _)
          ∙ ap (λ b. c.args.rising && b) (sym (rise_more c.args.last_ids.now.entries c.args.places.now i (0, 0) c.loop-place-test.true));
    }
