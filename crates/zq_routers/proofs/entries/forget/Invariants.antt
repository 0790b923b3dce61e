use Rattle.std.proofs.Common.{◌≡◌, fold, map}
use Rattle.std.specs.String.{string_bytes}
use Rattle.zq_strategy.specs.Entries.{without_key}
use Rattle.zq_routers.proofs.entries.forget.Given as goal

abbrev pub invariant-loop-key : goal.invariant-loop-key
invariant-loop-key l = fold (without_key l.router) l.by_key (map string_bytes l.key-iterator) ≡ fold (without_key l.router) l.initial.by_key (map string_bytes l.keys.keys)
