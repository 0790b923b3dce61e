use Rattle.std.proofs.Common.{◌≡◌, ◌∙◌, ◌++◌, ◌∷◌, [], ℕ, Option, ◌<◌, ◌^◌, sym, ap, subst, get_or, map, take}
use Rattle.std.specs.Option.{unwrap_or, is_some}
use Rattle.std.specs.Prelude.{not, ◌||◌}
use Rattle.std.proofs.lemmas.List.Folds.{list_any_more}
use Rattle.zq_message.specs.declared.message.FaceId.{FaceId}
use Rattle.zq_query.specs.Asking.{given_id, given_place, is_full}
use Rattle.std.specs.List.{AllByRecursion}
use Rattle.zq_query.proofs.Giving.{map_more, all_last}
use Rattle.zq_query.proofs.queries.Queries.places_for.Goals as goal

pub loop-target-preserved : goal.loop-target-preserved
loop-target-preserved c =
    let s = c.args.self.now in
    let ts = c.args.targets.now in
    let i = c.loop-target.target-index in
    let f : FaceId = get_or ts i (record { 0 = 0 }) in
    let id_is : c.in-Some.id ≡ given_id s f = ap (λ (o : Option ℕ). unwrap_or o 0) c.in-Some.ensures in
    record {
      places = c.in-Ok-push.ensures.ok ∙ (λ j. c.loop-target.invariant.places j ++ c.place_of.ensures.is j ∷ []) ∙ (λ j. map (given_place s) (take i ts) ++ (f.0, id_is j) ∷ []) ∙ sym (map_more (given_place s) ts i (record { 0 = 0 }) c.loop-target-test.true);
      small = subst (AllByRecursion (λ (p : ℕ × ℕ). (p.0 < 2 ^ 32) × (p.1 < 2 ^ 32))) (sym c.in-Ok-push.ensures.ok) (all_last (λ (p : ℕ × ℕ). (p.0 < 2 ^ 32) × (p.1 < 2 ^ 32)) c.loop-target.places c.place_of.result c.loop-target.invariant.small c.place_of.ensures.small);
      free = list_any_more (is_full s) ts i (record { 0 = 0 }) c.loop-target-test.true ∙ (λ j. c.loop-target.invariant.free j || not (is_some (sym c.in-Some.ensures j)));
    }
