-- Rows of nodes by region: a region's row is changed, and what the rows hold.
use Rattle.std.proofs.Common.{◌≡◌, ◌≢◌, ℕ, ◌+◌, ◌<◌, ◌≤◌, Bool, true, false, cond, eqb, List, [], ◌∷◌, ◌++◌, length, map, take, drop, get_or, Option, Some, None, refl, sym, ap, subst, ◌∙◌, arith, zero, suc, inl, inr, unwrap_or}
use Rattle.std.specs.Prelude.{option_map}
use Rattle.std.specs.declared.cmp.Ordering.TheVariants.{Less}
use Rattle.std.specs.List.{All, AllByRecursion, Contains, insert, remove}
use Rattle.std.specs.List.Sorted.{IsStrictlySortedBy}
use Rattle.std.specs.Map.{keys_of, lookup, remove_entry, set_value, values_of}
use Rattle.std.specs.BTreeMap.{is_at, insert_entry}
use Rattle.std.specs.Ordering.{nat_cmp}
use Rattle.std.specs.Cmp.{nat_cmp_is}
use Rattle.std.proofs.lemmas.Bool.{cases_eq}
use Rattle.std.proofs.lemmas.List.{length-append, take-append-drop}
use Rattle.std.proofs.lemmas.List.Elements.{All-cons, All-head, All-nil, All-tail}
use Rattle.std.proofs.lemmas.Map.Keys.{sorted_head, sorted_tail}
use Rattle.std.proofs.lemmas.Map.Made.{lookup-map_values}
use Rattle.std.proofs.lemmas.Map.Views.{All-map-remove_entry, All-values-insert_entry}
use Rattle.zq_key.proofs.Runs.{not_below_itself}
use Rattle.zq_names.specs.Names.{NameEntry, ids, entry_at}
use Rattle.zq_names.specs.Texts.{text_cmp}
use Rattle.zq_tables.specs.Naming.{AreEntryRows, EntryRows, IsEntryRow, row_at, with_row}
use Rattle.zq_tables.specs.Holding.{AreRows, EntryNodes, IsNode, Rises, hold_of, node_texts, row_holds, rows_by, rows_hold, weigh}
use Rattle.zq_tables.proofs.Entries.{Rises-length, Rises-shown, Rises-with_id, Rises-without_id, insert_there, lookup_set, removed_set, shown-removed, shown-with_id, weigh-removed, weigh-set, weigh-with_id}
use Rattle.zq_tables.proofs.Holds.{hold_itself, hold_other}
use Rattle.zq_tables.proofs.IdLemmas.{removed_absent}

-- ---- numbers that rise are in order

Rises-above : {X : Type 0} (limit first x : ℕ) (es : List (ℕ × X)) → Rises limit first es → x < first → AllByRecursion (λ y. nat_cmp x y ≡ Less) (keys_of es)
Rises-above limit first x [] r lt = tt
Rises-above limit first x (e ∷ es) r lt = (sym (nat_cmp_is x e.0 Less (omega (arith, r.0, lt))), Rises-above limit (suc e.0) x es r.1 (omega (arith, r.0, lt)))

pub Rises-sorted : {X : Type 0} (limit first : ℕ) (es : List (ℕ × X)) → Rises limit first es → IsStrictlySortedBy nat_cmp (keys_of es)
unfolding IsStrictlySortedBy
Rises-sorted limit first [] r = tt
Rises-sorted limit first (e ∷ es) r = (Rises-above limit (suc e.0) e.0 es r.1 (omega arith), Rises-sorted limit (suc e.0) es r.1)

-- ---- the row of a region

module _ {X : Type 0} where
  pub row_is : (rows : List (ℕ × List X)) (region : ℕ) (o : Option (List X)) → lookup (is_at (nat_cmp region)) rows ≡ o → row_at region rows ≡ unwrap_or o []
  row_is rows region o is = ap (λ (p : Option (List X)). unwrap_or p []) is

  pub weigh-with_row : (f : List X → ℕ) → f [] ≡ 0 → (rows : List (ℕ × List X)) (region : ℕ) (xs : List X) → IsStrictlySortedBy nat_cmp (keys_of rows) → weigh f (with_row region xs rows) + f (row_at region rows) ≡ weigh f rows + f xs
  weigh-with_row f none rows region xs sorted = by (lookup (is_at (nat_cmp region)) rows) refl xs
    where
      by : (o : Option (List X)) → lookup (is_at (nat_cmp region)) rows ≡ o → (ys : List X) → weigh f (with_row region ys rows) + f (row_at region rows) ≡ weigh f rows + f ys
      by None is [] = omega (arith, none, ap f (row_is rows region None is), ap (weigh f) (removed_absent (is_at (nat_cmp region)) rows is))
      by None is (y ∷ ys) = omega (arith, none, ap f (row_is rows region None is), weigh-with_id f rows region (y ∷ ys) is)
      by (Some row) is [] = omega (arith, none, ap f (row_is rows region (Some row) is), weigh-removed f (is_at (nat_cmp region)) rows row is)
      by (Some row) is (y ∷ ys) = omega (arith, ap f (row_is rows region (Some row) is), ap (weigh f) (insert_there rows region row (y ∷ ys) sorted is), weigh-set f (is_at (nat_cmp region)) rows row (y ∷ ys) is)

  -- one row weighs no more than all
  pub weigh-row_at : (f : List X → ℕ) → f [] ≡ 0 → (rows : List (ℕ × List X)) (region : ℕ) → f (row_at region rows) ≤ weigh f rows
  weigh-row_at f none rows region = by (lookup (is_at (nat_cmp region)) rows) refl
    where
      by : (o : Option (List X)) → lookup (is_at (nat_cmp region)) rows ≡ o → f (row_at region rows) ≤ weigh f rows
      by None is = omega (arith, none, ap f (row_is rows region None is))
      by (Some row) is = omega (arith, ap f (row_is rows region (Some row) is), weigh-removed f (is_at (nat_cmp region)) rows row is)

  Rises-with_row : (limit region : ℕ) (xs : List X) (rows : List (ℕ × List X)) → region < limit → Rises limit 0 rows → Rises limit 0 (with_row region xs rows)
  Rises-with_row limit region [] rows lt rises = Rises-without_id limit 0 region rows rises
  Rises-with_row limit region (x ∷ xs) rows lt rises = Rises-with_id limit 0 region (x ∷ xs) rows (omega arith) lt rises

  -- ---- a row that is there

  -- a region with something at a place of its row has a row
  pub row_there : (rows : List (ℕ × List X)) (region at : ℕ) → at < length (row_at region rows) → (row : List X) × (lookup (is_at (nat_cmp region)) rows ≡ Some row) × (row_at region rows ≡ row)
  row_there rows region at lt = by (lookup (is_at (nat_cmp region)) rows) refl
    where
      by : (o : Option (List X)) → lookup (is_at (nat_cmp region)) rows ≡ o → (row : List X) × (lookup (is_at (nat_cmp region)) rows ≡ Some row) × (row_at region rows ≡ row)
      by None is = absurd (omega (arith, lt, ap length (row_is rows region None is)))
      by (Some row) is = (row, is, row_is rows region (Some row) is)

  -- it has another, with something in it
  pub row_kept : (rows : List (ℕ × List X)) (region : ℕ) (row xs : List X) → IsStrictlySortedBy nat_cmp (keys_of rows) → lookup (is_at (nat_cmp region)) rows ≡ Some row → 0 < length xs → set_value (is_at (nat_cmp region)) rows xs ≡ with_row region xs rows
  row_kept rows region row [] sorted is some = absurd (omega (arith, some))
  row_kept rows region row (x ∷ xs) sorted is some = sym (insert_there rows region row (x ∷ xs) sorted is)

  pub row_put : (rows : List (ℕ × List X)) (region : ℕ) (row : List X) (at : ℕ) (x : X) → IsStrictlySortedBy nat_cmp (keys_of rows) → lookup (is_at (nat_cmp region)) rows ≡ Some row
      → set_value (is_at (nat_cmp region)) rows (insert row at x) ≡ with_row region (insert (row_at region rows) at x) rows
  row_put rows region row at x sorted is =
      row_kept rows region row (insert row at x) sorted is (omega (arith, length-append (take at row) (x ∷ drop at row)))
      ∙ ap (λ (r : List X). with_row region (insert r at x) rows) (sym (row_is rows region (Some row) is))

  -- it has one with nothing in it, which goes
  pub row_gone : (rows : List (ℕ × List X)) (region : ℕ) (xs : List X) → length xs ≡ 0 → remove_entry (is_at (nat_cmp region)) (set_value (is_at (nat_cmp region)) rows xs) ≡ with_row region xs rows
  row_gone rows region [] none = removed_set (is_at (nat_cmp region)) rows []
  row_gone rows region (x ∷ xs) none = absurd (omega (arith, none))

  -- what is read in its place
  pub row_now : (rows : List (ℕ × List X)) (region : ℕ) (row xs : List X) → lookup (is_at (nat_cmp region)) rows ≡ Some row → row_at region (set_value (is_at (nat_cmp region)) rows xs) ≡ xs
  row_now rows region row xs is = row_is (set_value (is_at (nat_cmp region)) rows xs) region (Some xs) (lookup_set (is_at (nat_cmp region)) rows row xs is)

-- ---- rows as texts

pub shown_row : (names : List NameEntry) (region : ℕ) (rows : EntryNodes) → row_at region (rows_by names rows) ≡ node_texts names (row_at region rows)
shown_row names region rows = ap (λ (o : Option (List (List ℕ))). unwrap_or o []) (lookup-map_values (node_texts names) (is_at (nat_cmp region)) rows) ∙ by (lookup (is_at (nat_cmp region)) rows)
  where
    by : (o : Option (List ℕ)) → unwrap_or (option_map (node_texts names) o) [] ≡ node_texts names (unwrap_or o [])
    by None = refl
    by (Some row) = refl

pub shown_with_row : (names : List NameEntry) (region : ℕ) (nodes : List ℕ) (rows : EntryNodes) → rows_by names (with_row region nodes rows) ≡ with_row region (node_texts names nodes) (rows_by names rows)
shown_with_row names region [] rows = shown-removed (node_texts names) (is_at (nat_cmp region)) rows
shown_with_row names region (n ∷ nodes) rows = shown-with_id (node_texts names) rows region (n ∷ nodes)

-- a row whose texts rise is put in
pub rows_with : (names : List NameEntry) (region : ℕ) (nodes : List ℕ) (rows : EntryNodes) → region < 770 → IsStrictlySortedBy text_cmp (node_texts names nodes) → AreRows names rows → AreRows names (with_row region nodes rows)
rows_with names region nodes rows lt rise are =
    let A : EntryRows → Type 0 = λ (es : EntryRows). All IsEntryRow (values_of es) in
    record { regions = Rises-with_row 770 region nodes rows lt are.regions; each = subst A (sym (shown_with_row names region nodes rows)) (by nodes rise) }
  where
    by : (ns : List ℕ) → IsStrictlySortedBy text_cmp (node_texts names ns) → All IsEntryRow (values_of (with_row region (node_texts names ns) (rows_by names rows)))
    by [] up = All-map-remove_entry (is_at (nat_cmp region)) (λ (e : ℕ × List (List ℕ)). e.1) IsEntryRow (rows_by names rows) are.each
    by (n ∷ ns) up = All-values-insert_entry nat_cmp region (node_texts names (n ∷ ns)) IsEntryRow (rows_by names rows) are.each (record { some = omega arith; rise = up })

pub entry_rows : (names : List NameEntry) (rows : EntryNodes) → AreRows names rows → AreEntryRows (rows_by names rows)
entry_rows names rows are = record { regions = Rises-sorted 770 0 (rows_by names rows) (Rises-shown (node_texts names) 770 0 rows are.regions); each = are.each }

-- the texts of one row rise
pub row_rises : (names : List NameEntry) (rows : EntryNodes) (region : ℕ) → AreRows names rows → IsStrictlySortedBy text_cmp (node_texts names (row_at region rows))
unfolding IsStrictlySortedBy
row_rises names rows region are =
    let S : List (List ℕ) → Type 0 = IsStrictlySortedBy text_cmp in
    subst S (shown_row names region rows) (among (rows_by names rows) are.each)
  where
    among : (es : EntryRows) → All IsEntryRow (values_of es) → IsStrictlySortedBy text_cmp (row_at region es)
    among [] all = tt
    among (e ∷ es) all = by (is_at (nat_cmp region) e.0) (among es (All-tail IsEntryRow e.1 (values_of es) all))
      where
        by : (b : Bool) → IsStrictlySortedBy text_cmp (row_at region es) → IsStrictlySortedBy text_cmp (unwrap_or (cond b (Some e.1) (lookup (is_at (nat_cmp region)) es)) [])
        by true later = (All-head IsEntryRow e.1 (values_of es) all).rise
        by false later = later

-- ---- what a row holds

row_holds-append : (i : ℕ) (xs ys : List ℕ) → row_holds i (xs ++ ys) ≡ row_holds i xs + row_holds i ys
row_holds-append i [] ys = omega arith
row_holds-append i (x ∷ xs) ys = omega (arith, row_holds-append i xs ys)

pub holds_more : (i : ℕ) (row : List ℕ) (at n : ℕ) → row_holds i (insert row at n) ≡ row_holds i row + hold_of i n
holds_more i row at n = omega (arith, row_holds-append i (take at row) (n ∷ drop at row), row_holds-append i (take at row) (drop at row), ap (row_holds i) (take-append-drop at row))

pub holds_less : (i : ℕ) (row : List ℕ) (at : ℕ) → at < length row → row_holds i (remove row at) + hold_of i (get_or row at 0) ≡ row_holds i row
holds_less i [] at lt = absurd (omega (arith, lt))
holds_less i (n ∷ row) zero lt = omega arith
holds_less i (n ∷ row) (suc k) lt = omega (arith, holds_less i row k (omega (arith, lt)))

-- a node that a row holds is live
pub row_lives : (names : List NameEntry) (rows : EntryNodes) (region : ℕ) → ((i : ℕ) → 0 < rows_hold i rows → Contains (ids names) i) → All (IsNode names) (row_at region rows)
row_lives names rows region live = by (row_at region rows) (λ i some. live i (omega (arith, some, weigh-row_at (row_holds i) refl rows region)))
  where
    by : (row : List ℕ) → ((i : ℕ) → 0 < row_holds i row → Contains (ids names) i) → All (IsNode names) row
    by [] own = All-nil (IsNode names)
    by (n ∷ row) own = All-cons (IsNode names) n row (record { live = own n (omega (arith, hold_itself n)) }) (by row (λ i some. own i (omega (arith, some))))

-- ---- rows keep their texts as long as the nodes that they hold do

same_row : (names names' : List NameEntry) (row : List ℕ) → ((i : ℕ) → 0 < row_holds i row → (entry_at names' i).text ≡ (entry_at names i).text) → node_texts names' row ≡ node_texts names row
same_row names names' [] same = refl
same_row names names' (n ∷ row) same =
    rw (same n (omega (arith, hold_itself n)), same_row names names' row (λ i some. same i (omega (arith, some)))) refl

pub same_rows : (names names' : List NameEntry) (rows : EntryNodes) → ((i : ℕ) → 0 < rows_hold i rows → (entry_at names' i).text ≡ (entry_at names i).text) → rows_by names' rows ≡ rows_by names rows
same_rows names names' [] same = refl
same_rows names names' (p ∷ rows) same =
    let here : node_texts names' p.1 ≡ node_texts names p.1 = same_row names names' p.1 (λ i some. same i (omega (arith, some))) in
    let rest = same_rows names names' rows (λ i some. same i (omega (arith, some))) in
    ap (λ (texts : List (List ℕ)). (p.0, texts) ∷ rows_by names' rows) here ∙ ap (λ (l : EntryRows). (p.0, node_texts names p.1) ∷ l) rest

pub rows_stay : (names names' : List NameEntry) (rows : EntryNodes) → rows_by names' rows ≡ rows_by names rows → AreRows names rows → AreRows names' rows
rows_stay names names' rows same are =
    let A : EntryRows → Type 0 = λ (es : EntryRows). All IsEntryRow (values_of es) in
    record { regions = are.regions; each = subst A (sym same) are.each }

-- ---- a node stands once in a row

none_later : (names : List NameEntry) (i : ℕ) (row : List ℕ) → AllByRecursion (λ t. text_cmp (entry_at names i).text t ≡ Less) (node_texts names row) → row_holds i row ≡ 0
none_later names i [] above = refl
none_later names i (n ∷ row) above =
    let differ : n ≢ i = λ same. not_below_itself (entry_at names i).text (let L : ℕ → Type 0 = λ (k : ℕ). text_cmp (entry_at names i).text (entry_at names k).text ≡ Less in subst L same above.0) in
    omega (arith, hold_other i n differ, none_later names i row above.1)

once : (names : List NameEntry) (i : ℕ) (row : List ℕ) → IsStrictlySortedBy text_cmp (node_texts names row) → row_holds i row ≤ 1
once names i [] rise = omega arith
once names i (n ∷ row) rise = elim (cases_eq n i) [
  | inl same ↦
      let A : ℕ → Type 0 = λ (k : ℕ). AllByRecursion (λ t. text_cmp (entry_at names k).text t ≡ Less) (node_texts names row) in
      let rest = none_later names i row (subst A same (sorted_head text_cmp (entry_at names n).text (node_texts names row) rise)) in
      let one : hold_of i n ≡ 1 = (let H : ℕ → Type 0 = λ (k : ℕ). hold_of i k ≡ 1 in subst H (sym same) (hold_itself i)) in
      omega (arith, rest, one)
  | inr differ ↦ omega (arith, hold_other i n differ, once names i row (sorted_tail text_cmp (entry_at names n).text (node_texts names row) rise))
]

few_in : (names : List NameEntry) (i : ℕ) (rows : EntryNodes) → All IsEntryRow (values_of (rows_by names rows)) → rows_hold i rows ≤ length rows
few_in names i [] all = omega arith
few_in names i (p ∷ rows) all =
    let here = once names i p.1 (All-head IsEntryRow (node_texts names p.1) (values_of (rows_by names rows)) all).rise in
    let rest = few_in names i rows (All-tail IsEntryRow (node_texts names p.1) (values_of (rows_by names rows)) all) in
    omega (arith, here, rest)

pub few_rows : (names : List NameEntry) (i : ℕ) (rows : EntryNodes) → AreRows names rows → rows_hold i rows ≤ 770
few_rows names i rows are = omega (arith, few_in names i rows are.each, Rises-length 770 0 rows are.regions)
