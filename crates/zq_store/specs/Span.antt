-- Where the plain keys lie that may meet a key.
use Rattle.std.specs.Prelude.{◌≡◌, ℕ, Bool, true, List}
use Rattle.std.specs.BTreeMap.Range.{range_contains}
use Rattle.std.specs.declared.cmp.Ordering.TheVariants.{Less}
use Rattle.std.specs.declared.ops.Bound.TheVariants.{Included, Excluded}
use Rattle.zq_index.specs.Texts.{text_cmp}
use Rattle.zq_key.specs.Key.{intersects, is_plain}

-- the text is the first one or comes after it, and comes before the other
abbrev pub lies_in : List ℕ → List ℕ → List ℕ → Bool
lies_in from to t = range_contains text_cmp (Included from) (Excluded to) t

-- the first text comes before the other, and all plain keys that meet the key lie there
pub record IsSpan (key from to : List ℕ) : Type 0 where
  pub forward : text_cmp from to ≡ Less
  pub within : (t : List ℕ) → is_plain t ≡ true → intersects t key ≡ true → lies_in from to t ≡ true
