-- The key of a router's entry that was held and is let go again leaves all as it was.
use Rattle.std.specs.Prelude.{not, ◌||◌}
use Rattle.std.proofs.Common.{◌≡◌, ◌∙◌, refl, sym, ap, subst, ℕ, Bool, true, false, cond, List, [], ◌∷◌, Option, Some, None, unwrap_or, arith}
use Rattle.std.specs.declared.cmp.Ordering.{Ordering}
use Rattle.std.specs.declared.cmp.Ordering.TheVariants.{Less, Equal, Greater}
use Rattle.std.specs.List.{All, list_any}
use Rattle.std.specs.List.Sorted.{IsStrictlySortedBy}
use Rattle.std.specs.Ordering.{is_eq, match_ordering, nat_cmp}
use Rattle.std.specs.Map.{lookup, values_of}
use Rattle.std.specs.BTreeMap.{is_at}
use Rattle.std.specs.BTreeSet.{insert_key}
use Rattle.std.specs.Set.{remove_key}
use Rattle.std.proofs.lemmas.Bool.{true≢false}
use Rattle.std.proofs.lemmas.Option.{same_Some}
use Rattle.std.proofs.lemmas.List.Elements.{All-head, All-tail}
use Rattle.zq_key.proofs.Lookups.{at_itself, same_key}
use Rattle.zq_key.proofs.Sorted.{has_put, same_keys, sorted_put}
use Rattle.zq_names.specs.Texts.{text_cmp}
use Rattle.zq_index.proofs.Orders.{text_exact, text_total}
use Rattle.zq_tables.specs.Naming.{AreEntryRows, EntryRows, IsEntryRow, NamingState, has_entry_key, row_at, with_entry_key, with_row, with_rows, without_entry_key}
use Rattle.zq_machine.proofs.EntryRows.{row_same, row_twice, row_with}

module _ (key : List ℕ) where
  out_by : (x : List ℕ) (xs : List (List ℕ)) (r : Ordering) → text_cmp key x ≡ r → is_at (text_cmp key) x ≡ false → remove_key (is_at (text_cmp key)) (insert_key text_cmp xs key) ≡ xs
      → remove_key (is_at (text_cmp key)) (match_ordering r (key ∷ x ∷ xs) (x ∷ xs) (x ∷ insert_key text_cmp xs key)) ≡ x ∷ xs
  out_by x xs Less e other rest = ap (λ b. cond b (x ∷ xs) (key ∷ remove_key (is_at (text_cmp key)) (x ∷ xs))) (at_itself text_total text_exact key)
  out_by x xs Equal e other rest = absurd (true≢false (sym (ap is_eq e) ∙ other))
  out_by x xs Greater e other rest =
      ap (λ b. cond b (insert_key text_cmp xs key) (x ∷ remove_key (is_at (text_cmp key)) (insert_key text_cmp xs key))) other
      ∙ ap (λ l. x ∷ l) rest

  neither : (a b : Bool) → (a || b) ≡ false → (a ≡ false) × (b ≡ false)
  neither true b e = absurd (true≢false e)
  neither false b e = (refl, e)

  -- a key that is none of the keys is put in and taken out again
  out_again : (keys : List (List ℕ)) → list_any (is_at (text_cmp key)) keys ≡ false → remove_key (is_at (text_cmp key)) (insert_key text_cmp keys key) ≡ keys
  out_again [] none = ap (λ b. cond b [] (key ∷ [])) (at_itself text_total text_exact key)
  out_again (x ∷ xs) none =
      let parts = neither (is_at (text_cmp key) x) (list_any (is_at (text_cmp key)) xs) none in
      out_by x xs (text_cmp key x) refl parts.0 (out_again xs parts.1)

  -- a key that is one of the keys changes nothing where it is put in
  kept_in : (keys : List (List ℕ)) → IsStrictlySortedBy text_cmp keys → list_any (is_at (text_cmp key)) keys ≡ true → insert_key text_cmp keys key ≡ keys
  kept_in keys rise there =
      same_keys text_total text_exact (insert_key text_cmp keys key) keys (sorted_put text_total keys key rise) rise
      (λ q. has_put text_total text_exact q key keys ∙ by q (is_at (text_cmp q) key) refl)
    where
      by : (q : List ℕ) (b : Bool) → is_at (text_cmp q) key ≡ b → (b || list_any (is_at (text_cmp q)) keys) ≡ list_any (is_at (text_cmp q)) keys
      by q true e = sym (ap (λ k. list_any (is_at (text_cmp k)) keys) (same_key text_total text_exact q key e) ∙ there)
      by q false e = refl

-- ---- rows of entries
found_row : (region : ℕ) (rows : EntryRows) (row : List (List ℕ)) → All IsEntryRow (values_of rows) → lookup (is_at (nat_cmp region)) rows ≡ Some row → IsEntryRow row
found_row region [] row all e = absurd (let gap : None ≡ Some row = e in cc)
found_row region (p ∷ rows) row all e = by (is_at (nat_cmp region) p.0) e (found_row region rows row (All-tail IsEntryRow p.1 (values_of rows) all))
  where
    by : (b : Bool) → cond b (Some p.1) (lookup (is_at (nat_cmp region)) rows) ≡ Some row → (lookup (is_at (nat_cmp region)) rows ≡ Some row → IsEntryRow row) → IsEntryRow row
    by true f more = subst IsEntryRow (same_Some _ _ f) (All-head IsEntryRow p.1 (values_of rows) all)
    by false f more = more f

module _ (region : ℕ) (rows : EntryRows) (are : AreEntryRows rows) where
  row_used : lookup (is_at (nat_cmp region)) rows ≡ Some [] → ⊥
  row_used e = let it = found_row region rows [] are.each e in omega (arith, it.some)

  row_rises : IsStrictlySortedBy text_cmp (row_at region rows)
  unfolding IsStrictlySortedBy
  row_rises = by (lookup (is_at (nat_cmp region)) rows) refl
    where
      by : (o : Option (List (List ℕ))) → lookup (is_at (nat_cmp region)) rows ≡ o → IsStrictlySortedBy text_cmp (unwrap_or o [])
      by None e = tt
      by (Some row) e = (found_row region rows row are.each e).rise

-- the first entry of a region on a key comes and goes; a later one changes nothing
pub entry_back : (region : ℕ) (key : List ℕ) (fresh : Bool) (s : NamingState) → AreEntryRows s.rows → fresh ≡ not (has_entry_key region key s)
    → cond fresh (without_entry_key region key (with_entry_key region key s)) (with_entry_key region key s) ≡ s
entry_back region key true s are is =
    let row = row_at region s.rows in
    let more = insert_key text_cmp row key in
    let held = with_row region more s.rows in
    ap (λ (rows : EntryRows). with_rows rows s)
    (ap (λ ks. with_row region (remove_key (is_at (text_cmp key)) ks) held) (row_with region s.rows are.regions more)
    ∙ ap (λ ks. with_row region ks held) (out_again key row (absent (list_any (is_at (text_cmp key)) row) is))
    ∙ row_twice region s.rows are.regions more row
    ∙ row_same region s.rows are.regions (row_used region s.rows are))
  where
    absent : (b : Bool) → true ≡ not b → b ≡ false
    absent true e = absurd (true≢false e)
    absent false e = refl
entry_back region key false s are is =
    ap (λ ks. with_rows (with_row region ks s.rows) s) (kept_in key (row_at region s.rows) (row_rises region s.rows are) (present (list_any (is_at (text_cmp key)) (row_at region s.rows)) is))
    ∙ ap (λ (rows : EntryRows). with_rows rows s) (row_same region s.rows are.regions (row_used region s.rows are))
  where
    present : (b : Bool) → false ≡ not b → b ≡ true
    present true e = refl
    present false e = absurd (true≢false (sym e))
