use Rattle.std.proofs.Common.{◌≡◌, fold, map, take}
use Rattle.std.specs.BTreeSet.{insert_key}
use Rattle.std.specs.String.{string_bytes}
use Rattle.zq_index.specs.Texts.{text_cmp}
use Rattle.zq_dispatcher.proofs.sorted.put_texts.Given as goal

abbrev pub invariant-loop-key : goal.invariant-loop-key
invariant-loop-key l = map string_bytes l.texts.keys ≡ fold (insert_key text_cmp) (map string_bytes l.initial.texts.keys) (take l.key-index l.keys)
