use Rattle.std.proofs.Common.{◌≡◌, fold, []}
use Rattle.zq_index.specs.Texts.{text_cmp, texts_of}
use Rattle.zq_index.proofs.Rebuilt.{put_entry}
use Rattle.zq_index.proofs.holders.copy_keys.Given as goal

abbrev pub invariant-loop-key : goal.invariant-loop-key
invariant-loop-key g l = fold (put_entry text_cmp) (texts_of l.made.entries) (texts_of l.key-iterator) ≡ fold (put_entry text_cmp) [] (texts_of l.keys.entries)
