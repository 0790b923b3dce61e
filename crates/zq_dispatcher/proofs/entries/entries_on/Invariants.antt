use Rattle.std.proofs.Common.{◌≡◌, map, ◌++◌}
use Rattle.std.specs.List.{filter_map}
use Rattle.std.specs.String.{string_bytes}
use Rattle.zq_message.specs.Region.{region_index}
use Rattle.zq_machine.specs.Trees.{keyed_own}
use Rattle.zq_dispatcher.proofs.entries.entries_on.Given as goal

abbrev pub invariant-loop-key : goal.invariant-loop-key
invariant-loop-key l =
    l.entries ++ filter_map (keyed_own (region_index l.region) l.hats) (map string_bytes l.key-iterator) ≡ filter_map (keyed_own (region_index l.region) l.hats) (map string_bytes l.keys.keys)
