-- What slots show after a change: their entries, and the keys that have room.
use Rattle.std.proofs.Common.{◌≡◌, ◌∙◌, refl, sym, ap, ℕ, Bool, true, false, cond, List, [], ◌∷◌, Some, None, Option, true≢false}
use Rattle.std.specs.Option.{is_some, option_and_then, option_map}
use Rattle.std.specs.List.{AllByRecursion, cons_option}
use Rattle.std.specs.List.Sorted.{IsStrictlySortedBy}
use Rattle.std.specs.Map.{keys_of, remove_entry, set_value}
use Rattle.std.specs.BTreeMap.{insert_entry, is_at}
use Rattle.std.specs.declared.cmp.Ordering.TheVariants.{Less}
use Rattle.std.proofs.lemmas.Map.{keys-set_value}
use Rattle.std.proofs.lemmas.Map.Keys.{sorted_head, sorted_tail}
use Rattle.std.proofs.lemmas.Map.Made.{is_some-lookup}
use Rattle.zq_key.proofs.Lookups.{at_itself, found_after_insertion, found_after_removal, found_after_write, none_above, same_entries, same_key}
use Rattle.zq_key.proofs.Sorted.{sorted_in, sorted_out, sorted_write}
use Rattle.zq_index.specs.Texts.{at_text, has_text, text_cmp}
use Rattle.zq_index.proofs.Orders.{text_exact, text_total}
use Rattle.zq_told.specs.declared.types.ToldEntry.{ToldEntry}
use Rattle.zq_told.specs.ToldSets.{Told}
use Rattle.zq_told.specs.Rooms.{entries_in, is_free}
use Rattle.zq_told.specs.Telling.{put_row}

abbrev pub Slots : Type 0
Slots = List (List ℕ × Option ToldEntry)

abbrev pub Sorted : {X : Type 0} → List (List ℕ × X) → Type 0
Sorted es = IsStrictlySortedBy text_cmp (keys_of es)

pub none_sorted : (X : Type 0) → Sorted {X = X} []
unfolding IsStrictlySortedBy
none_sorted X = tt

abbrev pub inner : Option (Option ToldEntry) → Option ToldEntry
inner o = option_and_then (λ x. x) o

pub still : (b : Bool) (x : Option (Option ToldEntry)) → is_some x ≡ true → is_some (cond b (Some None) x) ≡ true
still true x e = refl
still false x e = e

pub itself : (k : List ℕ) → is_at (text_cmp k) k ≡ true
itself k = at_itself text_total text_exact k

-- ---- the entries are in order, and are found where they stand
left_by : (P : List ℕ → Type 0) (k : List ℕ) (o : Option ToldEntry) (es : Slots) → P k → AllByRecursion P (keys_of (entries_in es)) → AllByRecursion P (keys_of (cons_option (option_map (λ t. (k, t)) o) (entries_in es)))
left_by P k None es p all = all
left_by P k (Some t) es p all = (p, all)

left : (P : List ℕ → Type 0) (es : Slots) → AllByRecursion P (keys_of es) → AllByRecursion P (keys_of (entries_in es))
left P [] all = tt
left P (e ∷ es) all = left_by P e.0 e.1 es all.0 (left P es all.1)

sorted_by : (k : List ℕ) (o : Option ToldEntry) (es : Slots) → AllByRecursion (λ q. text_cmp k q ≡ Less) (keys_of es) → Sorted (entries_in es) → Sorted (cons_option (option_map (λ t. (k, t)) o) (entries_in es))
unfolding IsStrictlySortedBy
sorted_by k None es above s = s
sorted_by k (Some t) es above s = (left (λ q. text_cmp k q ≡ Less) es above, s)

pub sorted_entries : (es : Slots) → Sorted es → Sorted (entries_in es)
sorted_entries [] s = none_sorted ToldEntry
sorted_entries (e ∷ es) s = sorted_by e.0 e.1 es (sorted_head text_cmp e.0 (keys_of es) s) (sorted_entries es (sorted_tail text_cmp e.0 (keys_of es) s))

found_by : (q k : List ℕ) (o : Option ToldEntry) (es : Slots) (b : Bool) → is_at (text_cmp q) k ≡ b → AllByRecursion (λ q. text_cmp k q ≡ Less) (keys_of es) → at_text q (entries_in es) ≡ inner (at_text q es)
    → at_text q (cons_option (option_map (λ t. (k, t)) o) (entries_in es)) ≡ inner (cond b (Some o) (at_text q es))
found_by q k None es true is above ih = ih ∙ ap inner (ap (λ x. at_text x es) (same_key text_total text_exact q k is) ∙ none_above text_total text_exact k es above)
found_by q k None es false is above ih = ih
found_by q k (Some t) es true is above ih = ap (λ b. cond b (Some t) (at_text q (entries_in es))) is
found_by q k (Some t) es false is above ih = ap (λ b. cond b (Some t) (at_text q (entries_in es))) is ∙ ih

pub found_entry : (q : List ℕ) (es : Slots) → Sorted es → at_text q (entries_in es) ≡ inner (at_text q es)
found_entry q [] s = refl
found_entry q (e ∷ es) s = found_by q e.0 e.1 es (is_at (text_cmp q) e.0) refl (sorted_head text_cmp e.0 (keys_of es) s) (found_entry q es (sorted_tail text_cmp e.0 (keys_of es) s))

-- ---- a key becomes its entry
pub row_sorted : (k : List ℕ) (o : Option ToldEntry) (es : Told) → Sorted es → Sorted (put_row es (k, o))
row_sorted k None es s = sorted_out text_cmp (is_at (text_cmp k)) es s
row_sorted k (Some t) es s = sorted_in text_total es k t s

pub row_found : (k : List ℕ) (o : Option ToldEntry) (es : Told) → Sorted es → (q : List ℕ) → at_text q (put_row es (k, o)) ≡ cond (is_at (text_cmp k) q) o (at_text q es)
row_found k None es s q = found_after_removal text_total text_exact k q es s
row_found k (Some t) es s q = found_after_insertion text_total text_exact k q t es

-- entries are told by what is found
told_same : (es fs : Slots) → Sorted es → Sorted fs → ((q : List ℕ) → inner (at_text q es) ≡ inner (at_text q fs)) → entries_in es ≡ entries_in fs
told_same es fs s t h = same_entries text_total text_exact (entries_in es) (entries_in fs) (sorted_entries es s) (sorted_entries fs t) (λ q. found_entry q es s ∙ h q ∙ sym (found_entry q fs t))

pub room_is : (q : List ℕ) (es : Slots) → is_some (at_text q es) ≡ has_text q (keys_of es)
room_is q es = is_some-lookup (is_at (text_cmp q)) es

module _ (k : List ℕ) (es : Slots) (s : Sorted es) where
  same_at : (q : List ℕ) (x : Option (Option ToldEntry)) (b : Bool) → is_at (text_cmp k) q ≡ b → inner x ≡ inner (at_text k es) → inner (cond b x (at_text q es)) ≡ inner (at_text q es)
  same_at q x true is e = e ∙ ap (λ y. inner (at_text y es)) (same_key text_total text_exact k q is)
  same_at q x false is e = refl

  -- ---- room is added
  pub added_sorted : Sorted (insert_entry text_cmp es k None)
  added_sorted = sorted_in text_total es k None s

  none_of : (x : Option (Option ToldEntry)) → is_some x ≡ false → None ≡ inner x
  none_of None e = refl
  none_of (Some x) e = absurd (true≢false e)

  pub added_told : is_some (at_text k es) ≡ false → entries_in (insert_entry text_cmp es k None) ≡ entries_in es
  added_told e = told_same (insert_entry text_cmp es k None) es added_sorted s (λ q. ap inner (found_after_insertion text_total text_exact k q None es) ∙ same_at q (Some None) (is_at (text_cmp k) q) refl (none_of (at_text k es) e))

  pub added_room : (q : List ℕ) → has_text q (keys_of (insert_entry text_cmp es k None)) ≡ is_some (cond (is_at (text_cmp k) q) (Some None) (at_text q es))
  added_room q = sym (is_some-lookup (is_at (text_cmp q)) (insert_entry text_cmp es k None)) ∙ ap is_some (found_after_insertion text_total text_exact k q None es)

  -- ---- room is given back
  pub back_sorted : Sorted (remove_entry (is_at (text_cmp k)) es)
  back_sorted = sorted_out text_cmp (is_at (text_cmp k)) es s

  back_told : at_text k es ≡ Some None → entries_in (remove_entry (is_at (text_cmp k)) es) ≡ entries_in es
  back_told e = told_same (remove_entry (is_at (text_cmp k)) es) es back_sorted s (λ q. ap inner (found_after_removal text_total text_exact k q es s) ∙ same_at q None (is_at (text_cmp k) q) refl (sym (ap inner e)))

  free_is : (x : Option (Option ToldEntry)) → is_free x ≡ true → x ≡ Some None
  free_is None e = absurd (true≢false (sym e))
  free_is (Some None) e = refl
  free_is (Some (Some t)) e = absurd (true≢false (sym e))

  pub free_told : is_free (at_text k es) ≡ true → entries_in (remove_entry (is_at (text_cmp k)) es) ≡ entries_in es
  free_told e = back_told (free_is (at_text k es) e)

  back_room : (q : List ℕ) → has_text q (keys_of (remove_entry (is_at (text_cmp k)) es)) ≡ is_some (cond (is_at (text_cmp k) q) None (at_text q es))
  back_room q = sym (is_some-lookup (is_at (text_cmp q)) (remove_entry (is_at (text_cmp k)) es)) ∙ ap is_some (found_after_removal text_total text_exact k q es s)

  -- no room is left at the key
  pub back_none : has_text k (keys_of (remove_entry (is_at (text_cmp k)) es)) ≡ false
  back_none = back_room k ∙ ap (λ b. is_some (cond b None (at_text k es))) (itself k)

  fewer_by : (b : Bool) (x : Option (Option ToldEntry)) → is_some (cond b None x) ≡ true → is_some x ≡ true
  fewer_by true x e = absurd (true≢false (sym e))
  fewer_by false x e = e

  -- no room comes elsewhere
  pub back_fewer : (q : List ℕ) → has_text q (keys_of (remove_entry (is_at (text_cmp k)) es)) ≡ true → has_text q (keys_of es) ≡ true
  back_fewer q e = sym (room_is q es) ∙ fewer_by (is_at (text_cmp k) q) (at_text q es) (sym (back_room q) ∙ e)

  held_by : (x : Option (Option ToldEntry)) → is_free x ≡ false → is_some x ≡ true → is_some (inner x) ≡ true
  held_by None f e = absurd (true≢false (sym e))
  held_by (Some None) f e = absurd (true≢false f)
  held_by (Some (Some t)) f e = refl

  -- a slot that is not free has an entry
  pub held : is_free (at_text k es) ≡ false → has_text k (keys_of es) ≡ true → is_some (at_text k (entries_in es)) ≡ true
  held f e = ap is_some (found_entry k es s) ∙ held_by (at_text k es) f (room_is k es ∙ e)

  -- ---- a slot is written
  pub set_sorted : (o : Option ToldEntry) → Sorted (set_value (is_at (text_cmp k)) es o)
  set_sorted o = sorted_write text_cmp (is_at (text_cmp k)) o es s

  inner_by : (b : Bool) (o : Option ToldEntry) (x : Option (Option ToldEntry)) → inner (cond b (Some o) x) ≡ cond b o (inner x)
  inner_by true o x = refl
  inner_by false o x = refl

  pub set_told : (o : Option ToldEntry) → is_some (at_text k es) ≡ true → entries_in (set_value (is_at (text_cmp k)) es o) ≡ put_row (entries_in es) (k, o)
  set_told o some =
      same_entries text_total text_exact (entries_in (set_value (is_at (text_cmp k)) es o)) (put_row (entries_in es) (k, o)) (sorted_entries (set_value (is_at (text_cmp k)) es o) (set_sorted o)) (row_sorted k o (entries_in es) (sorted_entries es s))
      (λ q. found_entry q (set_value (is_at (text_cmp k)) es o) (set_sorted o)
      ∙ ap inner (found_after_write text_total text_exact k q o es some)
      ∙ inner_by (is_at (text_cmp k) q) o (at_text q es)
      ∙ ap (cond (is_at (text_cmp k) q) o) (sym (found_entry q es s))
      ∙ sym (row_found k o (entries_in es) (sorted_entries es s) q))

  pub set_rooms : (o : Option ToldEntry) (q : List ℕ) → has_text q (keys_of (set_value (is_at (text_cmp k)) es o)) ≡ has_text q (keys_of es)
  set_rooms o q = ap (has_text q) (keys-set_value (is_at (text_cmp k)) es o)

  -- a key without a slot becomes nothing
  gone_by : (q : List ℕ) (b : Bool) → is_at (text_cmp k) q ≡ b → is_some (at_text k es) ≡ false → cond b None (at_text q (entries_in es)) ≡ at_text q (entries_in es)
  gone_by q true is e = none_of (at_text k es) e ∙ sym (found_entry k es s) ∙ ap (λ y. at_text y (entries_in es)) (same_key text_total text_exact k q is)
  gone_by q false is e = refl

  pub gone_told : is_some (at_text k es) ≡ false → entries_in es ≡ put_row (entries_in es) (k, None)
  gone_told e =
      same_entries text_total text_exact (entries_in es) (put_row (entries_in es) (k, None)) (sorted_entries es s) (row_sorted k None (entries_in es) (sorted_entries es s))
      (λ q. sym (gone_by q (is_at (text_cmp k) q) refl e) ∙ sym (row_found k None (entries_in es) (sorted_entries es s) q))

  -- a key without a slot is written where it needs none
  pub unset_told : (o : Option ToldEntry) → is_some (at_text k es) ≡ false → (is_some o ≡ true → has_text k (keys_of es) ≡ true) → entries_in es ≡ put_row (entries_in es) (k, o)
  unset_told None e room = gone_told e
  unset_told (Some t) e room = absurd (true≢false (sym (room refl) ∙ sym (room_is k es) ∙ e))
