-- A map from numbers, in their order.
use Rattle.std.specs.Prelude.{ℕ, List, [], fold}
use Rattle.std.specs.BTreeMap.{insert_entry}
use Rattle.std.specs.Ordering.{nat_cmp}

-- the entries by number, and for how many more there is room
pub record ByNumber (X : Type 0) : Type 0 where
  pub entries : List (ℕ × X)
  pub spare : ℕ

-- entries with distinct numbers, in order of the numbers
abbrev pub in_order : {X : Type 0} → List (ℕ × X) → List (ℕ × X)
in_order es = fold (λ l e. insert_entry nat_cmp l e.0 e.1) [] es
