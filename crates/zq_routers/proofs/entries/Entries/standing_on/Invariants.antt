use Rattle.std.proofs.Common.{◌≡◌, map, ◌++◌}
use Rattle.std.specs.List.{filter_map}
use Rattle.std.specs.String.{string_bytes}
use Rattle.zq_strategy.specs.Entries.{keyed}
use Rattle.zq_routers.proofs.entries.Entries.standing_on.Given as goal

abbrev pub invariant-loop-key : goal.invariant-loop-key
invariant-loop-key l =
    l.standing ++ filter_map (keyed l.router.0 l.self) (map string_bytes l.key-iterator) ≡ filter_map (keyed l.router.0 l.self) (map string_bytes l.keys.keys)
