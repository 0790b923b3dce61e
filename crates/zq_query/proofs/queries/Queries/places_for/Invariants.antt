use Rattle.std.proofs.Common.{◌≡◌, ◌<◌, ◌^◌, map, take, false}
use Rattle.std.specs.List.{list_any, AllByRecursion}
use Rattle.zq_query.specs.Asking.{given_place, is_full}
use Rattle.zq_query.proofs.queries.Queries.places_for.Given as goal

abbrev pub invariant-loop-target : goal.invariant-loop-target
invariant-loop-target l = record {
  places : l.places ≡ map (given_place l.self) (take l.target-index l.targets);
  small : AllByRecursion (λ p. (p.0 < 2 ^ 32) × (p.1 < 2 ^ 32)) l.places;
  free : list_any (is_full l.self) (take l.target-index l.targets) ≡ false;
}
