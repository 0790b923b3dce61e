use Rattle.std.proofs.Common.{◌≡◌, map, true, ◌++◌}
use Rattle.std.specs.Prelude.{filter, string_bytes}
use Rattle.std.specs.List.{AllByRecursion, filter_map}
use Rattle.std.specs.Option.{option_copied}
use Rattle.zq_key.specs.Key.{is_key}
use Rattle.zq_interests.specs.Interests.{meets}
use Rattle.zq_hat.specs.Infos.{info_on}
use Rattle.zq_hat.proofs.infos.infos_on.Given as goal

abbrev pub invariant-loop-key : goal.invariant-loop-key
invariant-loop-key l = record {
  rest : l.list ++ filter_map (info_on l.hat) (filter (meets (option_copied l.asked)) (map string_bytes l.key-iterator)) ≡ filter_map (info_on l.hat) (filter (meets (option_copied l.asked)) (map string_bytes l.fn.keys.keys));
  ahead : AllByRecursion (λ k. is_key k ≡ true) (map string_bytes l.key-iterator);
  valid : AllByRecursion (λ e. is_key e.0 ≡ true) l.list;
}
