-- Keys of routers' entries come and go: what undoes what, and what changes of faces leave.
use Rattle.std.proofs.Common.{◌≡◌, ℕ, ◌<◌, Bool, true, false, cond, ◌||◌, List, [], ◌∷◌, length, Option, Some, None, refl, sym, ap, ◌∙◌, arith}
use Rattle.std.specs.declared.cmp.Ordering.{Ordering}
use Rattle.std.specs.declared.cmp.Ordering.TheVariants.{Less, Equal, Greater}
use Rattle.std.specs.Ordering.{is_eq, match_ordering, nat_cmp}
use Rattle.std.specs.List.{All, list_any}
use Rattle.std.specs.Map.{lookup, set_value, values_of}
use Rattle.std.specs.BTreeMap.{is_at}
use Rattle.std.specs.BTreeSet.{insert_key}
use Rattle.std.specs.Set.{remove_key}
use Rattle.std.proofs.lemmas.Bool.{false≢true}
use Rattle.std.proofs.lemmas.Cmp.{nat_list_cmp_total, tied_itself}
use Rattle.std.proofs.lemmas.List.Elements.{All-head, All-tail}
use Rattle.std.proofs.lemmas.Map.Steps.{set_value_same}
use Rattle.std.proofs.lemmas.Option.{none-some, same_Some}
use Rattle.zq_names.specs.Texts.{text_cmp}
use Rattle.zq_tables.specs.Naming.{AreEntryRows, EntryRows, FaceKeys, IsEntryRow, NamingState, change_naming, has_entry_key, naming_at, put_naming, row_at, with_entry_key, with_row, with_rows, without_entry_key}
use Rattle.zq_tables.proofs.Entries.{insert_there}
use Rattle.zq_tables.proofs.EntryRows.{row_is}
use Rattle.zq_tables.proofs.IdLemmas.{of_id-with_id, removed_absent, with_id-twice, without-with_id}

-- ---- one row

some_keys : (keys : List (List ℕ)) (key : List ℕ) → 0 < length (insert_key text_cmp keys key)
some_keys [] key = omega arith
some_keys (k ∷ keys) key = by (text_cmp key k)
  where
    by : (o : Ordering) → 0 < length (match_ordering o (key ∷ k ∷ keys) (k ∷ keys) (k ∷ insert_key text_cmp keys key))
    by Less = omega arith
    by Equal = omega arith
    by Greater = omega arith

-- a key that is not there is not taken out
pub none_out : (keys : List (List ℕ)) (key : List ℕ) → list_any (is_at (text_cmp key)) keys ≡ false → remove_key (is_at (text_cmp key)) keys ≡ keys
none_out [] key absent = refl
none_out (k ∷ keys) key absent = by (is_at (text_cmp key) k) absent (none_out keys key)
  where
    by : (b : Bool) → (b || list_any (is_at (text_cmp key)) keys) ≡ false → (list_any (is_at (text_cmp key)) keys ≡ false → remove_key (is_at (text_cmp key)) keys ≡ keys)
        → cond b keys (k ∷ remove_key (is_at (text_cmp key)) keys) ≡ k ∷ keys
    by true is later = absurd (false≢true (sym is))
    by false is later = ap (λ l. k ∷ l) (later is)

-- a key that came is taken out
in_out : (keys : List (List ℕ)) (key : List ℕ) → list_any (is_at (text_cmp key)) keys ≡ false → remove_key (is_at (text_cmp key)) (insert_key text_cmp keys key) ≡ keys
in_out [] key absent = rw (tied_itself nat_list_cmp_total key) refl
in_out (k ∷ keys) key absent = by (text_cmp key k) refl absent (in_out keys key)
  where
    by : (o : Ordering) → text_cmp key k ≡ o → (is_eq o || list_any (is_at (text_cmp key)) keys) ≡ false
        → (list_any (is_at (text_cmp key)) keys ≡ false → remove_key (is_at (text_cmp key)) (insert_key text_cmp keys key) ≡ keys)
        → remove_key (is_at (text_cmp key)) (match_ordering o (key ∷ k ∷ keys) (k ∷ keys) (k ∷ insert_key text_cmp keys key)) ≡ k ∷ keys
    by Less is none later = rw (tied_itself nat_list_cmp_total key) refl
    by Equal is none later = absurd (false≢true (sym none))
    by Greater is none later = rw is (ap (λ l. k ∷ l) (later none))

-- ---- the rows

-- no row that is there is empty
row_some : (rows : EntryRows) (region : ℕ) (row : List (List ℕ)) → All IsEntryRow (values_of rows) → lookup (is_at (nat_cmp region)) rows ≡ Some row → 0 < length row
row_some [] region row all is = absurd (none-some row is)
row_some (e ∷ rows) region row all is = by (is_at (nat_cmp region) e.0) is (row_some rows region row (All-tail IsEntryRow e.1 (values_of rows) all))
  where
    by : (b : Bool) → cond b (Some e.1) (lookup (is_at (nat_cmp region)) rows) ≡ Some row → (lookup (is_at (nat_cmp region)) rows ≡ Some row → 0 < length row) → 0 < length row
    by true here later = let same = ap length (same_Some _ _ here) in omega (arith, same, (All-head IsEntryRow e.1 (values_of rows) all).some)
    by false here later = later here

module _ (rows : EntryRows) (region : ℕ) (are : AreEntryRows rows) where
  -- the row that a region has is put in again
  pub row_same : with_row region (row_at region rows) rows ≡ rows
  row_same = by (lookup (is_at (nat_cmp region)) rows) refl
    where
      by : (o : Option (List (List ℕ))) → lookup (is_at (nat_cmp region)) rows ≡ o → with_row region (row_at region rows) rows ≡ rows
      by None is = ap (λ row. with_row region row rows) (row_is rows region None is) ∙ removed_absent (is_at (nat_cmp region)) rows is
      by (Some []) is = absurd (omega (arith, row_some rows region [] are.each is))
      by (Some (k ∷ keys)) is =
          ap (λ row. with_row region row rows) (row_is rows region (Some (k ∷ keys)) is)
          ∙ insert_there rows region (k ∷ keys) (k ∷ keys) are.regions is
          ∙ set_value_same (is_at (nat_cmp region)) rows (k ∷ keys) is

  -- and so after another was put in its place
  row_back : (keys : List (List ℕ)) → 0 < length keys → with_row region (row_at region rows) (with_row region keys rows) ≡ rows
  row_back [] some = absurd (omega (arith, some))
  row_back (key ∷ keys) some = by (lookup (is_at (nat_cmp region)) rows) refl
    where
      by : (o : Option (List (List ℕ))) → lookup (is_at (nat_cmp region)) rows ≡ o → with_row region (row_at region rows) (with_row region (key ∷ keys) rows) ≡ rows
      by None is = ap (λ row. with_row region row (with_row region (key ∷ keys) rows)) (row_is rows region None is) ∙ without-with_id rows region (key ∷ keys) is
      by (Some []) is = absurd (omega (arith, row_some rows region [] are.each is))
      by (Some (k ∷ ks)) is =
          ap (λ row. with_row region row (with_row region (key ∷ keys) rows)) (row_is rows region (Some (k ∷ ks)) is)
          ∙ with_id-twice rows region (key ∷ keys) (k ∷ ks)
          ∙ insert_there rows region (k ∷ ks) (k ∷ ks) are.regions is
          ∙ set_value_same (is_at (nat_cmp region)) rows (k ∷ ks) is

row_with : (rows : EntryRows) (region : ℕ) (keys : List (List ℕ)) → 0 < length keys → row_at region (with_row region keys rows) ≡ keys
row_with rows region [] some = absurd (omega (arith, some))
row_with rows region (k ∷ keys) some = row_is (with_row region (k ∷ keys) rows) region (Some (k ∷ keys)) (of_id-with_id rows region (k ∷ keys))

-- ---- the whole

-- a key that came new and is given up again
pub entry_undone : (region : ℕ) (key : List ℕ) (s : NamingState) → AreEntryRows s.rows → has_entry_key region key s ≡ false → without_entry_key region key (with_entry_key region key s) ≡ s
entry_undone region key s are absent =
    let row = row_at region s.rows in
    let more = insert_key text_cmp row key in
    let some : 0 < length more = some_keys row key in
    ap (λ (rows : EntryRows). with_rows rows s) (
    ap (λ (keys : List (List ℕ)). with_row region (remove_key (is_at (text_cmp key)) keys) (with_row region more s.rows)) (row_with s.rows region more some)
    ∙ ap (λ (keys : List (List ℕ)). with_row region keys (with_row region more s.rows)) (in_out row key absent)
    ∙ row_back s.rows region are more some
    )

-- a key that is not there is given up
pub entry_idle : (region : ℕ) (key : List ℕ) (s : NamingState) → AreEntryRows s.rows → has_entry_key region key s ≡ false → without_entry_key region key s ≡ s
entry_idle region key s are absent =
    ap (λ (rows : EntryRows). with_rows rows s) (ap (λ (keys : List (List ℕ)). with_row region keys s.rows) (none_out (row_at region s.rows) key absent) ∙ row_same s.rows region are)

-- ---- changes of faces leave the rows, and rows the faces

pub rows_changed : (face : ℕ) (f : FaceKeys → FaceKeys) (s : NamingState) → (change_naming face f s).rows ≡ s.rows
rows_changed face f s = by (naming_at face s)
  where
    by : (o : Option FaceKeys) → (put_naming face f s o).rows ≡ s.rows
    by None = refl
    by (Some n) = refl

pub changed_rows : (face : ℕ) (f : FaceKeys → FaceKeys) (rows : EntryRows) (s : NamingState) → change_naming face f (with_rows rows s) ≡ with_rows rows (change_naming face f s)
changed_rows face f rows s = by (naming_at face s)
  where
    by : (o : Option FaceKeys) → put_naming face f (with_rows rows s) o ≡ with_rows rows (put_naming face f s o)
    by None = refl
    by (Some n) = refl
