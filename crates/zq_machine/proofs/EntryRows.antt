-- The keys on which routers of the regions have entries, as rows: what look-ups find in them, and how they change with one hat.
use Rattle.std.proofs.Common.{◌≡◌, ◌∙◌, refl, sym, ap, subst, ℕ, Bool, true, false, cond, List, [], ◌∷◌, fold, map, Option, Some, None, unwrap_or}
use Rattle.std.specs.List.{cons_option, filter_map}
use Rattle.std.specs.List.Sorted.{IsStrictlySortedBy}
use Rattle.std.specs.Map.{keys_of, set_value}
use Rattle.std.specs.BTreeMap.{is_at}
use Rattle.std.specs.Cmp.{eq_by_cmp_equiv}
use Rattle.std.specs.Option.{is_some, option_and_then, option_map}
use Rattle.std.specs.Ordering.{nat_cmp}
use Rattle.std.proofs.lemmas.Cmp.{nat_cmp_total}
use Rattle.std.proofs.lemmas.Map.Entries.{lookup-filter-values, option_filter}
use Rattle.std.proofs.lemmas.Map.Keys.{IsDistinct-from_sorted}
use Rattle.std.proofs.lemmas.Map.Lookups.{exact_unsigned}
use Rattle.std.proofs.lemmas.Map.Made.{keys_of-map_values, lookup-map_values}
use Rattle.zq_key.proofs.Lookups.{at_itself, found_after_insertion, found_after_removal, found_after_write, same_entries}
use Rattle.zq_key.proofs.Sorted.{sorted_in, sorted_out, sorted_write}
use Rattle.zq_index.specs.Holders.{if_any}
use Rattle.zq_index.proofs.Finding.{if_any_used}
use Rattle.zq_strategy.specs.Entries.{Entries}
use Rattle.zq_strategy.specs.Kept.{new_hat}
use Rattle.zq_strategy.specs.State.{HatState}
use Rattle.zq_routers.proofs.Standing.{sorted_picked}
use Rattle.zq_tables.specs.Naming.{EntryRows, row_at, with_row}
use Rattle.zq_machine.specs.declared.config.Entry.{Entry}
use Rattle.zq_machine.specs.Configs.{Settings, north_of, region_of}
use Rattle.zq_machine.specs.State.{at, entry_row, entry_rows, first_hats, has_keys, with_hat}
use Rattle.zq_machine.proofs.Changing.{one_number}
use Rattle.zq_machine.proofs.Foreign.{listed}
use Rattle.zq_machine.proofs.Worded.{Any, Each, each_in}
use Rattle.zq_message.specs.Region.{region_index}

abbrev pub AreInOrder : {X : Type 0} → List (ℕ × X) → Type 0
AreInOrder es = IsStrictlySortedBy nat_cmp (keys_of es)

-- ---- keys of one region
some_keys : (ks : List (List ℕ)) → cond (has_keys ks) (Some ks) None ≡ if_any ks
some_keys [] = refl
some_keys (k ∷ ks) = refl

or_none : (ks : List (List ℕ)) → unwrap_or (if_any ks) [] ≡ ks
or_none [] = refl
or_none (k ∷ ks) = refl

-- the keys of entries, if there are any
abbrev pub keys_if : Entries → Option (List (List ℕ))
keys_if es = if_any (keys_of es)

abbrev pub row_of : HatState → Option (List (List ℕ))
row_of h = keys_if h.entries

-- ---- the rows of hats
picked : (hats : List (ℕ × HatState)) → entry_rows hats ≡ filter_map (λ e. option_map (λ v. (e.0, v)) (row_of e.1)) hats
picked [] = refl
picked (e ∷ es) = by (keys_of e.1.entries) (picked es)
  where
    by : (ks : List (List ℕ)) → entry_rows es ≡ filter_map (λ e. option_map (λ v. (e.0, v)) (row_of e.1)) es
        → cond (has_keys ks) ((e.0, ks) ∷ entry_rows es) (entry_rows es) ≡ cons_option (option_map (λ v. (e.0, v)) (if_any ks)) (filter_map (λ e. option_map (λ v. (e.0, v)) (row_of e.1)) es)
    by [] ih = ih
    by (k ∷ ks) ih = ap (λ l. (e.0, k ∷ ks) ∷ l) ih

module _ (hats : List (ℕ × HatState)) (sorted : AreInOrder hats) where
  pub rows_sorted : AreInOrder (entry_rows hats)
  rows_sorted = subst (λ (l : EntryRows). AreInOrder l) (sym (picked hats)) (sorted_picked nat_cmp (λ e. e.0) (λ e. row_of e.1) hats sorted)

  pub rows_found : (k : ℕ) → at k (entry_rows hats) ≡ option_and_then row_of (at k hats)
  rows_found k =
      lookup-filter-values (eq_by_cmp_equiv nat_cmp_total) has_keys k (map entry_row hats)
      (IsDistinct-from_sorted nat_cmp (keys_of (map entry_row hats)) (subst (IsStrictlySortedBy nat_cmp) (sym (keys_of-map_values (λ (h : HatState). keys_of h.entries) hats)) sorted))
      ∙ ap (option_filter has_keys) (lookup-map_values (λ (h : HatState). keys_of h.entries) (is_at (nat_cmp k)) hats)
      ∙ by (at k hats)
    where
      by : (o : Option HatState) → option_filter has_keys (option_map (λ (h : HatState). keys_of h.entries) o) ≡ option_and_then row_of o
      by None = refl
      by (Some h) = some_keys (keys_of h.entries)

  -- no row is empty
  pub rows_used : (k : ℕ) → at k (entry_rows hats) ≡ Some [] → ⊥
  rows_used k e = by (at k hats) (sym (rows_found k) ∙ e)
    where
      by : (o : Option HatState) → option_and_then row_of o ≡ Some [] → ⊥
      by None f = let gap : None ≡ Some [] = f in cc
      by (Some h) f = if_any_used (keys_of h.entries) f

  pub row_is : (k : ℕ) (h : HatState) → at k hats ≡ Some h → row_at k (entry_rows hats) ≡ keys_of h.entries
  row_is k h there = ap (λ o. unwrap_or o []) (rows_found k ∙ ap (option_and_then row_of) there) ∙ or_none (keys_of h.entries)

-- hats with the same entries have the same rows
pub rows_alike : (a b : List (ℕ × HatState)) → AreInOrder a → AreInOrder b → ((k : ℕ) → option_map listed (at k a) ≡ option_map listed (at k b)) → entry_rows a ≡ entry_rows b
rows_alike a b first second same =
    same_entries nat_cmp_total exact_unsigned (entry_rows a) (entry_rows b) (rows_sorted a first) (rows_sorted b second)
    (λ k. rows_found a first k ∙ view (at k a) ∙ ap (option_and_then keys_if) (same k) ∙ sym (view (at k b)) ∙ sym (rows_found b second k))
  where
    view : (o : Option HatState) → option_and_then row_of o ≡ option_and_then keys_if (option_map listed o)
    view None = refl
    view (Some h) = refl

-- ---- one row is changed
module _ (region : ℕ) (rows : EntryRows) (sorted : AreInOrder rows) where
  pub row_found : (ks : List (List ℕ)) (k : ℕ) → at k (with_row region ks rows) ≡ cond (is_at (nat_cmp region) k) (if_any ks) (at k rows)
  row_found [] k = found_after_removal nat_cmp_total exact_unsigned region k rows sorted
  row_found (t ∷ ks) k = found_after_insertion nat_cmp_total exact_unsigned region k (t ∷ ks) rows

  pub row_sorted : (ks : List (List ℕ)) → AreInOrder (with_row region ks rows)
  row_sorted [] = sorted_out nat_cmp (is_at (nat_cmp region)) rows sorted
  row_sorted (t ∷ ks) = sorted_in nat_cmp_total rows region (t ∷ ks) sorted

  row_here : (ks : List (List ℕ)) → at region (with_row region ks rows) ≡ if_any ks
  row_here ks = row_found ks region ∙ ap (λ b. cond b (if_any ks) (at region rows)) (at_itself nat_cmp_total exact_unsigned region)

  pub row_used : (ks : List (List ℕ)) → at region (with_row region ks rows) ≡ Some [] → ⊥
  row_used ks e = if_any_used ks (sym (row_here ks) ∙ e)

  pub row_with : (ks : List (List ℕ)) → row_at region (with_row region ks rows) ≡ ks
  row_with ks = ap (λ o. unwrap_or o []) (row_here ks) ∙ or_none ks

-- the last change counts
pub row_twice : (region : ℕ) (rows : EntryRows) → AreInOrder rows → (ks ls : List (List ℕ)) → with_row region ls (with_row region ks rows) ≡ with_row region ls rows
row_twice region rows sorted ks ls =
    let once : AreInOrder (with_row region ks rows) = row_sorted region rows sorted ks in
    same_entries nat_cmp_total exact_unsigned (with_row region ls (with_row region ks rows)) (with_row region ls rows) (row_sorted region (with_row region ks rows) once ls) (row_sorted region rows sorted ls)
    (λ k. row_found region (with_row region ks rows) once ls k ∙ ap (cond (is_at (nat_cmp region) k) (if_any ls)) (row_found region rows sorted ks k) ∙ by k (is_at (nat_cmp region) k) ∙ sym (row_found region rows sorted ls k))
  where
    by : (k : ℕ) (b : Bool) → cond b (if_any ls) (cond b (if_any ks) (at k rows)) ≡ cond b (if_any ls) (at k rows)
    by k true = refl
    by k false = refl

-- a row that is put in its own place changes nothing
pub row_same : (region : ℕ) (rows : EntryRows) → AreInOrder rows → (at region rows ≡ Some [] → ⊥) → with_row region (row_at region rows) rows ≡ rows
row_same region rows sorted used =
    same_entries nat_cmp_total exact_unsigned (with_row region (row_at region rows) rows) rows (row_sorted region rows sorted (row_at region rows)) sorted
    (λ k. row_found region rows sorted (row_at region rows) k ∙ by k (is_at (nat_cmp region) k) refl)
  where
    own : (o : Option (List (List ℕ))) → (o ≡ Some [] → ⊥) → if_any (unwrap_or o []) ≡ o
    own None none = refl
    own (Some []) none = absurd (none refl)
    own (Some (t ∷ ks)) none = refl

    by : (k : ℕ) (b : Bool) → is_at (nat_cmp region) k ≡ b → cond b (if_any (row_at region rows)) (at k rows) ≡ at k rows
    by k true e = own (at region rows) used ∙ ap (λ n. at n rows) (one_number region k e)
    by k false e = refl

-- ---- one hat is changed
pub rows_put : (r : ℕ) (hats : List (ℕ × HatState)) (h new : HatState) → AreInOrder hats → at r hats ≡ Some h → entry_rows (set_value (is_at (nat_cmp r)) hats new) ≡ with_row r (keys_of new.entries) (entry_rows hats)
rows_put r hats h new sorted there =
    let after = set_value (is_at (nat_cmp r)) hats new in
    let in_order : AreInOrder after = sorted_write nat_cmp (is_at (nat_cmp r)) new hats sorted in
    let rows : AreInOrder (entry_rows hats) = rows_sorted hats sorted in
    same_entries nat_cmp_total exact_unsigned (entry_rows after) (with_row r (keys_of new.entries) (entry_rows hats)) (rows_sorted after in_order) (row_sorted r (entry_rows hats) rows (keys_of new.entries))
    (λ k.
    rows_found after in_order k
    ∙ ap (option_and_then row_of) (found_after_write nat_cmp_total exact_unsigned r k new hats (ap is_some there))
    ∙ by k (is_at (nat_cmp r) k)
    ∙ sym (row_found r (entry_rows hats) rows (keys_of new.entries) k))
  where
    by : (k : ℕ) (b : Bool) → option_and_then row_of (cond b (Some new) (at k hats)) ≡ cond b (row_of new) (at k (entry_rows hats))
    by k true = refl
    by k false = sym (rows_found hats sorted k)

-- ---- before any call there are none
abbrev IsEmpty : HatState → Type 0
IsEmpty h = h.entries ≡ []

empty_rows : (hats : List (ℕ × HatState)) → Each Any IsEmpty hats → entry_rows hats ≡ []
empty_rows [] all = refl
empty_rows (e ∷ es) all = ap (λ (l : Entries). cond (has_keys (keys_of l)) ((e.0, keys_of l) ∷ entry_rows es) (entry_rows es)) all.0.1 ∙ empty_rows es all.1

first_empty : (config : Settings) (es : List Entry) (hats : List (ℕ × HatState)) → Each Any IsEmpty hats → Each Any IsEmpty (fold (with_hat config) hats es)
first_empty config [] hats all = all
first_empty config (e ∷ es) hats all =
    first_empty config es (with_hat config hats e)
    (each_in Any IsEmpty nat_cmp hats (region_index (region_of e)) (new_hat (region_of e) (north_of config.entries) config.zid config.start.told) all tt refl)

pub first_rows : (config : Settings) → entry_rows (first_hats config) ≡ []
first_rows config = empty_rows (first_hats config) (first_empty config config.entries [] tt)
