use Rattle.std.proofs.Common.{◌≡◌, fold, map}
use Rattle.std.specs.Prelude.{string_bytes}
use Rattle.std.specs.Option.{option_copied}
use Rattle.zq_dispatcher.specs.Asking.{with_own}
use Rattle.zq_dispatcher.specs.Dues.{AreKeys}
use Rattle.zq_dispatcher.proofs.asking.put_each_own.Given as goal

abbrev pub invariant-loop-id : goal.invariant-loop-id
invariant-loop-id l = record {
  rest : fold (with_own l.but (option_copied l.asked)) (map string_bytes l.texts.keys) l.id-iterator ≡ fold (with_own l.but (option_copied l.asked)) (map string_bytes l.initial.texts.keys) l.entries.entries;
  valid : AreKeys (map string_bytes l.initial.texts.keys) → AreKeys (map string_bytes l.texts.keys);
}
