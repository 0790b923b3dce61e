use Rattle.std.proofs.Common.{◌≡◌, fold, map}
use Rattle.std.specs.BTreeSet.{insert_key}
use Rattle.std.specs.Map.{keys_of}
use Rattle.std.specs.String.{string_bytes}
use Rattle.zq_index.specs.Texts.{text_cmp, texts_of}
use Rattle.zq_strategy.proofs.merges.add_texts.Given as goal

abbrev pub invariant-loop-key : goal.invariant-loop-key
invariant-loop-key g l =
    fold (insert_key text_cmp) (map string_bytes l.texts.keys) (keys_of (texts_of l.key-iterator)) ≡ fold (insert_key text_cmp) (map string_bytes l.initial.texts.keys) (keys_of l.index)
