-- What a contract sees of a `RegionMap`: its entries, an index with a value, by rising index.
use Rattle.std.specs.Prelude.{◌≡◌, ℕ, ◌<◌, not, ◌==◌, List, [], Option, fold, filter}
use Rattle.std.specs.List.{All, AllZip}
use Rattle.std.specs.List.Sorted.{IsStrictlySortedBy}
use Rattle.std.specs.Ordering.{nat_cmp}
use Rattle.std.specs.Map.{lookup, keys_of}
use Rattle.std.specs.BTreeMap.{is_at, insert_entry}
use denote.Ref.{Bor}
use Rattle.zq_message.specs.declared.message.Region.{Region}
use Rattle.zq_message.specs.Region.{region_index}

module _ {D : Type 0} where
  -- the value at a region
  abbrev pub value_at : List (ℕ × D) → Region → Option D
  value_at es r = lookup (is_at (nat_cmp (region_index r))) es

  -- with the value at the region
  abbrev pub with_entry : List (ℕ × D) → Region → D → List (ℕ × D)
  with_entry es r d = insert_entry nat_cmp es (region_index r) d

  -- each key is a region's index
  abbrev pub AreIndices : List (ℕ × D) → Type 0
  AreIndices es = All (λ k. k < 770) (keys_of es)

  -- the entries go by rising index
  abbrev pub GoByIndex : List (ℕ × D) → Type 0
  GoByIndex es = IsStrictlySortedBy nat_cmp (keys_of es)

  -- what an item of `iter` shows, and one of `into_iter`
  abbrev pub shown_entry : Region × Bor D → ℕ × D
  shown_entry e = (region_index e.0, e.1.now)

  abbrev pub given_entry : Region × D → ℕ × D
  given_entry e = (region_index e.0, e.1)

  -- an entry behind its reference
  abbrev pub shown : ℕ × Bor D → ℕ × D
  shown e = (e.0, e.1.now)

  -- the entries without the region's
  abbrev pub without : List (ℕ × D) → Region → List (ℕ × D)
  without es r = filter (λ e. not (e.0 == region_index r)) es

  -- the entries that a list of pairs makes, a later one in the place of an earlier
  abbrev pub made_of : List (Region × D) → List (ℕ × D)
  made_of pairs = fold (λ es p. with_entry es p.0 p.1) [] pairs

-- the same regions, each with a value that R allows of the old one
abbrev pub MapsEach : {D E : Type 0} → (D → E → Type 0) → List (ℕ × D) → List (ℕ × E) → Type 0
MapsEach R old new = AllZip (λ a b. (a.0 ≡ b.0) × R a.1 b.1) old new
