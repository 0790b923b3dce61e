use Rattle.std.proofs.Common.{◌≡◌, ◌++◌, map}
use Rattle.std.specs.Prelude.{string_bytes}
use Rattle.std.specs.Option.{option_copied}
use Rattle.zq_message.specs.Region.{region_index}
use Rattle.zq_dispatcher.specs.Dues.{AreKeys}
use Rattle.zq_dispatcher.specs.Parts.{part_at}
use Rattle.zq_dispatcher.proofs.folded.parts_at.Given as goal

abbrev pub invariant-loop-text : goal.invariant-loop-text
invariant-loop-text l =
    let made = part_at (option_copied l.next) (map string_bytes l.touched.keys) (region_index l.region) l.hats l.key in
    record {
      rest : l.list ++ map made (map string_bytes l.text-iterator) ≡ map made (map string_bytes l.texts.keys);
      left : AreKeys (map string_bytes l.text-iterator);
    }
