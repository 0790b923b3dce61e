-- What is written over at a text that stands takes its place.
use Rattle.std.proofs.Common.{◌≡◌, ◌∙◌, sym, List, ℕ, true}
use Rattle.std.specs.Prelude.{String}
use Rattle.std.specs.declared.alloc.Global.{Global}
use Rattle.std.specs.Option.{is_some}
use Rattle.std.specs.BTreeMap.{insert_entry, is_at}
use Rattle.std.specs.List.Sorted.{IsStrictlySortedBy}
use Rattle.std.specs.Map.{keys_of, set_value}
use Rattle.std.specs.String.{string_cmp}
use Rattle.zq_key.proofs.Lookups.{found_after_insertion, found_after_write, same_entries}
use Rattle.zq_key.proofs.Sorted.{sorted_in, sorted_write}
use Rattle.zq_index.specs.Texts.{at_text, text_cmp, texts_of}
use Rattle.zq_index.proofs.Orders.{text_exact, text_total}
use Rattle.zq_index.proofs.Rebuilt.{sorted_texts}

pub written_over : {X : Type 0} (k : List ℕ) (w : X) (es : List (String Global × X)) → IsStrictlySortedBy string_cmp (keys_of es) → is_some (at_text k (texts_of es)) ≡ true → set_value (is_at (text_cmp k)) (texts_of es) w ≡ insert_entry text_cmp (texts_of es) k w
written_over k w es s some =
    let texts = texts_of es in
    let sorted = sorted_texts es s in
    same_entries text_total text_exact (set_value (is_at (text_cmp k)) texts w) (insert_entry text_cmp texts k w) (sorted_write text_cmp (is_at (text_cmp k)) w texts sorted) (sorted_in text_total texts k w sorted)
    (λ q. found_after_write text_total text_exact k q w texts some ∙ sym (found_after_insertion text_total text_exact k q w texts))
