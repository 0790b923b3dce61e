use Rattle.std.proofs.Common.{◌≡◌, fold, map}
use Rattle.std.specs.Prelude.{string_bytes}
use Rattle.std.specs.BTreeSet.{insert_key}
use Rattle.zq_index.specs.Texts.{text_cmp}
use Rattle.zq_dispatcher.proofs.owns.OwnKeys.join.Given as goal

abbrev pub invariant-loop-key : goal.invariant-loop-key
invariant-loop-key l = fold (insert_key text_cmp) (map string_bytes l.texts.keys) (map string_bytes l.key-iterator) ≡ fold (insert_key text_cmp) (map string_bytes l.initial.texts.keys) l.self
