-- Holds for the keys of routers' entries are taken, and released.
use Rattle.std.proofs.Common.{◌≡◌, ℕ, ◌+◌, ◌<◌, ◌≤◌, true, false, not, List, length, map, get_or, refl, sym, ap, subst, ◌∙◌, arith}
use Rattle.std.specs.Prelude.{Result, Ok, Err, IfErr, IfOk, is_ok}
use Rattle.std.specs.List.{insert, list_any, remove}
use Rattle.std.specs.List.Sorted.{IsStrictlySortedBy}
use Rattle.std.specs.BTreeMap.{is_at}
use Rattle.std.specs.BTreeSet.{insert_key}
use Rattle.std.specs.Set.{remove_key}
use Rattle.std.proofs.lemmas.List.{length-map}
use Rattle.zq_names.specs.Names.{NameEntry, entry_at}
use Rattle.zq_names.specs.Texts.{text_cmp}
use Rattle.zq_names.proofs.Insertion.{map-insert}
use Rattle.zq_names.proofs.Removal.{map-remove}
use Rattle.zq_tables.specs.Naming.{AreEntryRows, EntryRows, NamingState, has_entry_key, row_at, with_entry_key, with_row, with_rows, without_entry_key}
use Rattle.zq_tables.specs.Holding.{AreRows, EntryNodes, Faces, GoesTo, InHand, IsHeld, StandsAt, hold_of, node_texts, row_holds, rows_by, rows_hold, texts_by}
use Rattle.zq_tables.proofs.EntryLaws.{entry_idle, row_same}
use Rattle.zq_tables.proofs.EntryRows.{Rises-sorted, entry_rows, holds_less, holds_more, rows_with, shown_row, shown_with_row, weigh-with_row}

-- ---- what a search in a row tells

module _ (names : List NameEntry) (faces : Faces) (rows : EntryNodes) (region : ℕ) (key : List ℕ) (at : ℕ) where
  pub key_there : StandsAt (node_texts names (row_at region rows)) key at → has_entry_key region key (texts_by names faces rows) ≡ true
  key_there stands = ap (list_any (is_at (text_cmp key))) (shown_row names region rows) ∙ stands.there

  pub key_absent : GoesTo (node_texts names (row_at region rows)) key at → has_entry_key region key (texts_by names faces rows) ≡ false
  key_absent goes = ap (list_any (is_at (text_cmp key))) (shown_row names region rows) ∙ goes.absent

  -- a key that is there is held already
  pub stays_held : IsHeld names faces rows → StandsAt (node_texts names (row_at region rows)) key at → texts_by names faces rows ≡ with_entry_key region key (texts_by names faces rows)
  stays_held held stands =
      let row = row_at region (rows_by names rows) in
      let same : insert_key text_cmp row key ≡ row = ap (λ (keys : List (List ℕ)). insert_key text_cmp keys key) (shown_row names region rows) ∙ stands.stays ∙ sym (shown_row names region rows) in
      sym (ap (λ (rs : EntryRows). with_rows rs (texts_by names faces rows)) (ap (λ (keys : List (List ℕ)). with_row region keys (rows_by names rows)) same ∙ row_same (rows_by names rows) region (entry_rows names rows held.order)))

  -- one that is not there is not released
  pub stays_released : IsHeld names faces rows → GoesTo (node_texts names (row_at region rows)) key at → texts_by names faces rows ≡ without_entry_key region key (texts_by names faces rows)
  stays_released held goes = sym (entry_idle region key (texts_by names faces rows) (entry_rows names rows held.order) (key_absent goes))

-- whether the search found it
pub key_found : (names : List NameEntry) (faces : Faces) (rows : EntryNodes) (region : ℕ) (key : List ℕ) (r : Result ℕ ℕ) → IfOk r (StandsAt (node_texts names (row_at region rows)) key) → IfErr r (GoesTo (node_texts names (row_at region rows)) key)
    → is_ok r ≡ has_entry_key region key (texts_by names faces rows)
key_found names faces rows region key (Ok at) found absent = sym (key_there names faces rows region key at found)
key_found names faces rows region key (Err at) found absent = sym (key_absent names faces rows region key at absent)

-- what is seen of the rows
pub rows_seen : (names : List NameEntry) (faces : Faces) (rows : EntryNodes) (s : NamingState) → IsHeld names faces rows → texts_by names faces rows ≡ s → AreEntryRows s.rows
rows_seen names faces rows s held view =
    let A : NamingState → Type 0 = λ (t : NamingState). AreEntryRows t.rows in
    subst A view (entry_rows names rows held.order)

-- of the same region, key and state
pub same_change : {X : Type 0} (f : ℕ → List ℕ → NamingState → X) (region region' : ℕ) (key key' : List ℕ) (s s' : NamingState) → region ≡ region' → key ≡ key' → s ≡ s' → f region key s ≡ f region' key' s'
same_change f region region' key key' s s' at text is = ap (λ (r : ℕ). f r key s) at ∙ ap (λ (k : List ℕ). f region' k s) text ∙ ap (f region' key') is

-- the same texts stand in the row where other names have them
pub goes_still : (names names' : List NameEntry) (rows : EntryNodes) (region : ℕ) (key : List ℕ) (at : ℕ) → rows_by names' rows ≡ rows_by names rows → GoesTo (node_texts names (row_at region rows)) key at → GoesTo (node_texts names' (row_at region rows)) key at
goes_still names names' rows region key at same =
    let G : List (List ℕ) → Type 0 = λ (texts : List (List ℕ)). GoesTo texts key at in
    subst G (sym (shown_row names region rows) ∙ ap (row_at region) (sym same) ∙ shown_row names' region rows)

pub goes_within : (names : List NameEntry) (row : List ℕ) (key : List ℕ) (at : ℕ) → GoesTo (node_texts names row) key at → at ≤ length row
goes_within names row key at goes = omega (arith, goes.in_range, length-map row (λ (n : ℕ). (entry_at names n).text))

pub stands_within : (names : List NameEntry) (row : List ℕ) (key : List ℕ) (at : ℕ) → StandsAt (node_texts names row) key at → at < length row
stands_within names row key at stands = omega (arith, stands.in_range, length-map row (λ (n : ℕ). (entry_at names n).text))

-- ---- the hold in hand is that of a new key

module _ (names : List NameEntry) (faces : Faces) (rows rows' : EntryNodes) (region : ℕ) (key : List ℕ) (at n : ℕ) (text : (entry_at names n).text ≡ key) (goes : GoesTo (node_texts names (row_at region rows)) key at)
    (put : rows' ≡ with_row region (insert (row_at region rows) at n) rows) where
  texts_in : node_texts names (insert (row_at region rows) at n) ≡ insert (node_texts names (row_at region rows)) at key
  texts_in = map-insert (λ (m : ℕ). (entry_at names m).text) (row_at region rows) at n ∙ ap (insert (node_texts names (row_at region rows)) at) text

  pub entered : InHand names faces rows n → region < 770 → IsHeld names faces rows'
  entered hand small =
      let row = row_at region rows in
      let sorted = Rises-sorted 770 0 rows hand.order.regions in
      let S : List (List ℕ) → Type 0 = IsStrictlySortedBy text_cmp in
      let rise = subst S (sym texts_in) goes.rise in
      let count : (i : ℕ) → rows_hold i rows' ≡ rows_hold i rows + hold_of i n = λ i. omega (arith, ap (rows_hold i) put, weigh-with_row (row_holds i) refl rows region (insert row at n) sorted, holds_more i row at n) in
      let A : EntryNodes → Type 0 = AreRows names in
      record {
        live = λ i some. hand.live i (omega (arith, some, count i));
        counted = λ i has. omega (arith, hand.counted i has, count i);
        sides = hand.sides;
        order = subst A (sym put) (rows_with names region (insert row at n) rows small rise hand.order);
        lean = hand.lean;
      }

  pub entered_texts : texts_by names faces rows' ≡ with_entry_key region key (texts_by names faces rows)
  entered_texts =
      ap (λ (rs : EntryRows). with_rows rs (texts_by names faces rows)) (
      ap (rows_by names) put
      ∙ shown_with_row names region (insert (row_at region rows) at n) rows
      ∙ ap (λ (keys : List (List ℕ)). with_row region keys (rows_by names rows)) (texts_in ∙ sym goes.put ∙ ap (λ (keys : List (List ℕ)). insert_key text_cmp keys key) (sym (shown_row names region rows)))
      )

-- ---- the hold of a key comes into hand

module _ (names : List NameEntry) (faces : Faces) (rows rows' : EntryNodes) (region : ℕ) (key : List ℕ) (at n : ℕ) (node : n ≡ get_or (row_at region rows) at 0) (stands : StandsAt (node_texts names (row_at region rows)) key at)
    (put : rows' ≡ with_row region (remove (row_at region rows) at) rows) where
  texts_out : node_texts names (remove (row_at region rows) at) ≡ remove (node_texts names (row_at region rows)) at
  texts_out = map-remove (λ (m : ℕ). (entry_at names m).text) (row_at region rows) at

  pub departed : IsHeld names faces rows → region < 770 → InHand names faces rows' n
  departed held small =
      let row = row_at region rows in
      let sorted = Rises-sorted 770 0 rows held.order.regions in
      let S : List (List ℕ) → Type 0 = IsStrictlySortedBy text_cmp in
      let rise = subst S (sym texts_out) stands.rise in
      let count : (i : ℕ) → rows_hold i rows' + hold_of i n ≡ rows_hold i rows = λ i. omega (arith, ap (rows_hold i) put, weigh-with_row (row_holds i) refl rows region (remove row at) sorted, holds_less i row at (stands_within names row key at stands), ap (hold_of i) node) in
      let A : EntryNodes → Type 0 = AreRows names in
      record {
        live = λ i some. held.live i (omega (arith, some, count i));
        counted = λ i has. omega (arith, held.counted i has, count i);
        sides = held.sides;
        order = subst A (sym put) (rows_with names region (remove row at) rows small rise held.order);
        lean = held.lean;
      }

  pub departed_texts : texts_by names faces rows' ≡ without_entry_key region key (texts_by names faces rows)
  departed_texts =
      ap (λ (rs : EntryRows). with_rows rs (texts_by names faces rows)) (
      ap (rows_by names) put
      ∙ shown_with_row names region (remove (row_at region rows) at) rows
      ∙ ap (λ (keys : List (List ℕ)). with_row region keys (rows_by names rows)) (texts_out ∙ sym stands.out ∙ ap (remove_key (is_at (text_cmp key))) (sym (shown_row names region rows)))
      )
