-- Interests come and go, and just they are kept.
use Rattle.std.proofs.Common.{◌≡◌, ◌∙◌, sym, ap, refl, subst, ℕ, Bool, true, false, cond, List, [], ◌∷◌, Some, None, Option, true≢false}
use Rattle.std.specs.Prelude.{not, ◌&&◌, ◌||◌}
use Rattle.std.specs.BTreeMap.{insert_entry, is_at}
use Rattle.std.specs.Cmp.{nat_cmp_total}
use Rattle.std.specs.List.Sorted.{IsStrictlySortedBy}
use Rattle.std.specs.Map.{keys_of, remove_entry}
use Rattle.std.specs.Option.{is_some, option_map_or}
use Rattle.std.specs.Ordering.{is_eq, nat_cmp, ordering_then}
use Rattle.std.specs.declared.cmp.Ordering.{Ordering}
use Rattle.std.specs.declared.cmp.Ordering.TheVariants.{Less, Equal, Greater}
use Rattle.std.proofs.lemmas.Bool.{false≢true}
use Rattle.std.proofs.lemmas.Map.Lookups.{exact_unsigned}
use Rattle.zq_key.proofs.Lookups.{at_itself, found_after_insertion, found_after_removal, found_after_write, same_key}
use Rattle.zq_key.proofs.Sorted.{sorted_in, sorted_out, sorted_write}
use Rattle.zq_index.specs.Holders.{Place, place_cmp}
use Rattle.zq_index.proofs.Orders.{place_exact, place_total, text_exact, text_total}
use Rattle.zq_interests.specs.declared.types.InterestEntry.{InterestEntry}
use Rattle.zq_interests.specs.Interests.{Asked, Interests, at, closed_face, interest_at, interests_of, same_asked, with_interest, without_interest}
use Rattle.zq_interests.specs.Kept.{AreKept, Shelf, asks_just, is_kept, is_left, is_of, is_spot}
use Rattle.zq_interests.proofs.Writing.{not_written}

abbrev pub Text : Type 0
Text = List ℕ

-- ---- what is asked for
pub same_is : (a b : Option Text) → same_asked a b ≡ true → a ≡ b
same_is None None e = refl
same_is None (Some b) e = absurd (false≢true e)
same_is (Some a) None e = absurd (false≢true e)
same_is (Some a) (Some b) e = ap (λ (t : Text). Some t) (same_key text_total text_exact a b e)

pub same_itself : (a : Option Text) → same_asked a a ≡ true
same_itself None = refl
same_itself (Some a) = at_itself text_total text_exact a

-- ---- places of faces
number_itself : (n : ℕ) → is_at (nat_cmp n) n ≡ true
number_itself n = at_itself nat_cmp_total exact_unsigned n

equal_is : (r : Ordering) → is_eq r ≡ true → r ≡ Equal
equal_is Less e = cc
equal_is Equal e = refl
equal_is Greater e = cc

-- places of one face are told apart by their ids, those of two never the same
own_place : (n i j : ℕ) → is_at (place_cmp (n, i)) (n, j) ≡ is_at (nat_cmp i) j
own_place n i j = ap (λ r. is_eq (ordering_then r (nat_cmp i j))) (equal_is _ (number_itself n))

other_by : (r s : Ordering) → is_eq r ≡ false → is_eq (ordering_then r s) ≡ false
other_by Less s e = refl
other_by Equal s e = absurd (true≢false e)
other_by Greater s e = refl

other_place : (n i m j : ℕ) → is_at (nat_cmp n) m ≡ false → is_at (place_cmp (n, i)) (m, j) ≡ false
other_place n i m j e = other_by _ (nat_cmp i j) e

-- ---- what is asked after a change
abbrev listed : Option Asked → Asked
listed o = option_map_or (λ (es : Asked). es) o []

inner : (b : Bool) (es : Asked) (o : Option Asked) → listed (cond b (Some es) o) ≡ cond b es (listed o)
inner true es o = refl
inner false es o = refl

module _ (ints : Interests) (face id : ℕ) where
  abbrev is_place : Place → Bool
  is_place q = is_at (place_cmp (face, id)) q

  -- the face has these interests, and the others have theirs: so what is found under each id
  found_by : (es : Asked) (x : Option InterestEntry) → ((i : ℕ) → at i es ≡ cond (is_at (nat_cmp id) i) x (at i (interests_of face ints)))
      → (f i : ℕ) (b : Bool) → is_at (nat_cmp face) f ≡ b → at i (cond b es (interests_of f ints)) ≡ cond (is_place (f, i)) x (interest_at f i ints)
  found_by es x there f i true same =
      let is : face ≡ f = same_key nat_cmp_total exact_unsigned face f same in
      there i ∙ ap (λ b. cond b x (at i (interests_of face ints))) (sym (own_place face id i)) ∙ ap (λ n. cond (is_place (n, i)) x (interest_at n i ints)) is
  found_by es x there f i false other = ap (λ b. cond b x (interest_at f i ints)) (sym (other_place face id f i other))

  pub found_with : (entry : InterestEntry) (f i : ℕ) → interest_at f i (with_interest face id entry ints) ≡ cond (is_place (f, i)) (Some entry) (interest_at f i ints)
  found_with entry f i =
      let es : Asked = insert_entry nat_cmp (interests_of face ints) id entry in
      ap (λ o. at i (listed o)) (found_after_insertion nat_cmp_total exact_unsigned face f es ints)
      ∙ ap (at i) (inner (is_at (nat_cmp face) f) es (at f ints))
      ∙ found_by es (Some entry) (λ j. found_after_insertion nat_cmp_total exact_unsigned id j entry (interests_of face ints)) f i (is_at (nat_cmp face) f) refl

  -- ---- the order of numbers and ids
  module _ (numbers : IsStrictlySortedBy nat_cmp (keys_of ints)) (ids : (f : ℕ) (es : Asked) → at f ints ≡ Some es → IsStrictlySortedBy nat_cmp (keys_of es)) where
    sorted_none : IsStrictlySortedBy nat_cmp []
    unfolding IsStrictlySortedBy
    sorted_none = tt

    sorted_own : IsStrictlySortedBy nat_cmp (keys_of (interests_of face ints))
    sorted_own = by (at face ints) refl
      where
        by : (o : Option Asked) → at face ints ≡ o → IsStrictlySortedBy nat_cmp (keys_of (listed o))
        by None is = sorted_none
        by (Some es) is = ids face es is

    same_some : (x y : Asked) → Some x ≡ Some y → x ≡ y
    same_some x y e = cc

    none_some : (y : Asked) → None ≡ Some y → ⊥
    none_some y e = cc

    written_ids : (es : Asked) → IsStrictlySortedBy nat_cmp (keys_of es) → (f : ℕ) (more : Asked) (b : Bool) → cond b (Some es) (at f ints) ≡ Some more → IsStrictlySortedBy nat_cmp (keys_of more)
    written_ids es s f more true is = subst (λ (l : Asked). IsStrictlySortedBy nat_cmp (keys_of l)) (same_some es more is) s
    written_ids es s f more false is = ids f more is

    pub numbers_with : (entry : InterestEntry) → IsStrictlySortedBy nat_cmp (keys_of (with_interest face id entry ints))
    numbers_with entry = sorted_in nat_cmp_total ints face (insert_entry nat_cmp (interests_of face ints) id entry) numbers

    pub ids_with : (entry : InterestEntry) (f : ℕ) (more : Asked) → at f (with_interest face id entry ints) ≡ Some more → IsStrictlySortedBy nat_cmp (keys_of more)
    ids_with entry f more is =
        let es : Asked = insert_entry nat_cmp (interests_of face ints) id entry in
        written_ids es (sorted_in nat_cmp_total (interests_of face ints) id entry sorted_own) f more (is_at (nat_cmp face) f) (sym (found_after_insertion nat_cmp_total exact_unsigned face f es ints) ∙ is)

    abbrev left : Asked
    left = remove_entry (is_at (nat_cmp id)) (interests_of face ints)

    pub found_without : (f i : ℕ) → interest_at f i (without_interest face id ints) ≡ cond (is_place (f, i)) None (interest_at f i ints)
    found_without f i = by (at face ints) refl
      where
        gone : (x : Option InterestEntry) (b : Bool) → (b ≡ true → x ≡ None) → x ≡ cond b None x
        gone x true e = e refl
        gone x false e = refl

        by : (o : Option Asked) → at face ints ≡ o → interest_at f i (without_interest face id ints) ≡ cond (is_place (f, i)) None (interest_at f i ints)
        by None is =
            ap (interest_at f i) (not_written (is_at (nat_cmp face)) left ints is)
            ∙ gone (interest_at f i ints) (is_place (f, i)) (λ e. ap (λ (q : Place). interest_at q.0 q.1 ints) (sym (same_key place_total place_exact (face, id) (f, i) e)) ∙ ap (λ o. at id (listed o)) is)
        by (Some es) is =
            ap (λ o. at i (listed o)) (found_after_write nat_cmp_total exact_unsigned face f left ints (ap is_some is))
            ∙ ap (at i) (inner (is_at (nat_cmp face) f) left (at f ints))
            ∙ found_by left None (λ j. found_after_removal nat_cmp_total exact_unsigned id j (interests_of face ints) sorted_own) f i (is_at (nat_cmp face) f) refl

    pub numbers_without : IsStrictlySortedBy nat_cmp (keys_of (without_interest face id ints))
    numbers_without = sorted_write nat_cmp (is_at (nat_cmp face)) left ints numbers

    pub ids_without : (f : ℕ) (more : Asked) → at f (without_interest face id ints) ≡ Some more → IsStrictlySortedBy nat_cmp (keys_of more)
    ids_without f more is = by (at face ints) refl
      where
        by : (o : Option Asked) → at face ints ≡ o → IsStrictlySortedBy nat_cmp (keys_of more)
        by None none = ids f more (ap (at f) (sym (not_written (is_at (nat_cmp face)) left ints none)) ∙ is)
        by (Some es) some =
            written_ids left (sorted_out nat_cmp (is_at (nat_cmp id)) (interests_of face ints) sorted_own) f more (is_at (nat_cmp face) f)
            (sym (found_after_write nat_cmp_total exact_unsigned face f left ints (ap is_some some)) ∙ is)

    pub numbers_closed : IsStrictlySortedBy nat_cmp (keys_of (closed_face face ints))
    numbers_closed = sorted_out nat_cmp (is_at (nat_cmp face)) ints numbers

    pub ids_closed : (f : ℕ) (more : Asked) → at f (closed_face face ints) ≡ Some more → IsStrictlySortedBy nat_cmp (keys_of more)
    ids_closed f more is = by (is_at (nat_cmp face) f) (sym (found_after_removal nat_cmp_total exact_unsigned face f ints numbers) ∙ is)
      where
        by : (b : Bool) → cond b None (at f ints) ≡ Some more → IsStrictlySortedBy nat_cmp (keys_of more)
        by true e = absurd (none_some more e)
        by false e = ids f more e

    pub found_closed : (f i : ℕ) → interest_at f i (closed_face face ints) ≡ cond (is_at (nat_cmp face) f) None (interest_at f i ints)
    found_closed f i = ap (λ o. at i (listed o)) (found_after_removal nat_cmp_total exact_unsigned face f ints numbers) ∙ by (is_at (nat_cmp face) f)
      where
        by : (b : Bool) → at i (listed (cond b None (at f ints))) ≡ cond b None (interest_at f i ints)
        by true = refl
        by false = refl

-- ---- what is kept after a change
module _ (ints : Interests) (shelf : Shelf) (kept : AreKept ints shelf) (face id : ℕ) where
  abbrev is_it : Place → Bool
  is_it q = is_at (place_cmp (face, id)) q

  at_it : (q : Place) → is_it q ≡ true → interest_at q.0 q.1 ints ≡ interest_at face id ints
  at_it q e = ap (λ (p : Place). interest_at p.0 p.1 ints) (sym (same_key place_total place_exact (face, id) q e))

  none_gone : (k : Bool) → (not (k && true) && ((k && true) || false)) ≡ false
  none_gone true = refl
  none_gone false = refl

  all_stays : (k s : Bool) → (not (k && false) && ((k && false) || s)) ≡ s
  all_stays true s = refl
  all_stays false s = refl

  -- an interest that could not be put is not kept
  pub kept_back : (asked : Option Text) (after : Shelf) → interest_at face id ints ≡ None
      → ((other : Option Text) (q : Place) → is_kept other q after ≡ (not (is_spot asked (face, id) other q) && (is_spot asked (face, id) other q || is_kept other q shelf))) → AreKept ints after
  kept_back asked after absent says = record { numbers = kept.numbers; ids = kept.ids; same = λ other q. says other q ∙ by other q (is_it q) refl }
    where
      by : (other : Option Text) (q : Place) (b : Bool) → is_it q ≡ b → (not (same_asked asked other && b) && ((same_asked asked other && b) || is_kept other q shelf)) ≡ asks_just other (interest_at q.0 q.1 ints)
      by other q true e =
          let none : interest_at q.0 q.1 ints ≡ None = at_it q e ∙ absent in
          let unkept : is_kept other q shelf ≡ false = kept.same other q ∙ ap (asks_just other) none in
          ap (λ s. not (same_asked asked other && true) && ((same_asked asked other && true) || s)) unkept ∙ none_gone (same_asked asked other) ∙ sym (ap (asks_just other) none)
      by other q false e = all_stays (same_asked asked other) (is_kept other q shelf) ∙ kept.same other q

  first_one : (k : Bool) → (not false && ((k && true) || false)) ≡ k
  first_one true = refl
  first_one false = refl

  none_left : (k s : Bool) → (not false && ((k && false) || s)) ≡ s
  none_left true s = refl
  none_left false s = refl

  -- d: the old one asked for the same; o: it asked for this; k: the new one asks for this
  over : (d o k : Bool) → (d ≡ true → o ≡ k) → (d ≡ false → o ≡ true → k ≡ true → ⊥) → (not (not d && (o && true)) && ((k && true) || o)) ≡ k
  over true true k same apart = or_true k ∙ same refl
    where
      or_true : (k : Bool) → ((k && true) || true) ≡ true
      or_true true = refl
      or_true false = refl
  over true false true same apart = refl
  over true false false same apart = refl
  over false true true same apart = absurd (apart refl refl refl)
  over false true false same apart = refl
  over false false true same apart = refl
  over false false false same apart = refl

  beside : (d o k s : Bool) → (not (not d && (o && false)) && ((k && false) || s)) ≡ s
  beside true true true s = refl
  beside true true false s = refl
  beside true false true s = refl
  beside true false false s = refl
  beside false true true s = refl
  beside false true false s = refl
  beside false false true s = refl
  beside false false false s = refl

  same_or : (old entry other : Option Text) → (same_asked old entry ≡ true → same_asked old other ≡ same_asked entry other)
  same_or old entry other e = ap (λ a. same_asked a other) (same_is old entry e)

  never_both : (old entry other : Option Text) → same_asked old entry ≡ false → same_asked old other ≡ true → same_asked entry other ≡ true → ⊥
  never_both old entry other d o k = true≢false (sym (same_itself old) ∙ ap (same_asked old) (same_is old other o ∙ sym (same_is entry other k)) ∙ d)

  -- an interest is put, and what it replaced goes
  pub kept_with : (entry : InterestEntry) (before : Option InterestEntry) (after : Shelf) → before ≡ interest_at face id ints
      → ((other : Option Text) (q : Place) → is_kept other q after ≡ (not (is_left before entry.key (face, id) other q) && (is_spot entry.key (face, id) other q || is_kept other q shelf))) → AreKept (with_interest face id entry ints) after
  kept_with entry before after was says = record {
    numbers = numbers_with ints face id kept.numbers kept.ids entry;
    ids = ids_with ints face id kept.numbers kept.ids entry;
    same = λ other q. says other q ∙ by other q before was (is_it q) refl ∙ sym (ap (asks_just other) (found_with ints face id entry q.0 q.1));
  }
    where
      by : (other : Option Text) (q : Place) (old : Option InterestEntry) → old ≡ interest_at face id ints → (b : Bool) → is_it q ≡ b
          → (not (option_map_or (λ (i : InterestEntry). not (same_asked i.key entry.key) && (same_asked i.key other && b)) old false) && ((same_asked entry.key other && b) || is_kept other q shelf)) ≡ asks_just other (cond b (Some entry) (interest_at q.0 q.1 ints))
      by other q None is true e =
          let unkept : is_kept other q shelf ≡ false = kept.same other q ∙ ap (asks_just other) (at_it q e ∙ sym is) in
          ap (λ s. not false && ((same_asked entry.key other && true) || s)) unkept ∙ first_one (same_asked entry.key other)
      by other q None is false e = none_left (same_asked entry.key other) (is_kept other q shelf) ∙ kept.same other q
      by other q (Some old) is true e =
          let there : is_kept other q shelf ≡ same_asked old.key other = kept.same other q ∙ ap (asks_just other) (at_it q e ∙ sym is) in
          ap (λ s. not (not (same_asked old.key entry.key) && (same_asked old.key other && true)) && ((same_asked entry.key other && true) || s)) there
          ∙ over (same_asked old.key entry.key) (same_asked old.key other) (same_asked entry.key other) (same_or old.key entry.key other) (never_both old.key entry.key other)
      by other q (Some old) is false e = beside (same_asked old.key entry.key) (same_asked old.key other) (same_asked entry.key other) (is_kept other q shelf) ∙ kept.same other q

  same_gone : (o : Bool) → (not (o && true) && o) ≡ false
  same_gone true = refl
  same_gone false = refl

  same_stays : (o s : Bool) → (not (o && false) && s) ≡ s
  same_stays true s = refl
  same_stays false s = refl

  -- an interest ends
  pub kept_without : (gone : InterestEntry) (after : Shelf) → Some gone ≡ interest_at face id ints
      → ((other : Option Text) (q : Place) → is_kept other q after ≡ (not (is_spot gone.key (face, id) other q) && is_kept other q shelf)) → AreKept (without_interest face id ints) after
  kept_without gone after was says = record {
    numbers = numbers_without ints face id kept.numbers kept.ids;
    ids = ids_without ints face id kept.numbers kept.ids;
    same = λ other q. says other q ∙ by other q (is_it q) refl ∙ sym (ap (asks_just other) (found_without ints face id kept.numbers kept.ids q.0 q.1));
  }
    where
      by : (other : Option Text) (q : Place) (b : Bool) → is_it q ≡ b → (not (same_asked gone.key other && b) && is_kept other q shelf) ≡ asks_just other (cond b None (interest_at q.0 q.1 ints))
      by other q true e =
          let there : is_kept other q shelf ≡ same_asked gone.key other = kept.same other q ∙ ap (asks_just other) (at_it q e ∙ sym was) in
          ap (λ s. not (same_asked gone.key other && true) && s) there ∙ same_gone (same_asked gone.key other)
      by other q false e = same_stays (same_asked gone.key other) (is_kept other q shelf) ∙ kept.same other q

  -- there was none
  pub kept_same : None ≡ interest_at face id ints → AreKept (without_interest face id ints) shelf
  kept_same none = record {
    numbers = numbers_without ints face id kept.numbers kept.ids;
    ids = ids_without ints face id kept.numbers kept.ids;
    same = λ other q. kept.same other q ∙ by other q (is_it q) refl ∙ sym (ap (asks_just other) (found_without ints face id kept.numbers kept.ids q.0 q.1));
  }
    where
      by : (other : Option Text) (q : Place) (b : Bool) → is_it q ≡ b → asks_just other (interest_at q.0 q.1 ints) ≡ asks_just other (cond b None (interest_at q.0 q.1 ints))
      by other q true e = ap (asks_just other) (at_it q e ∙ sym none)
      by other q false e = refl

-- ---- a face goes
module _ (face : ℕ) (other : Option Text) where
  or_more : (a b : Bool) → b ≡ true → (a || b) ≡ true
  or_more true b e = refl
  or_more false b e = e

  of_found : (es : Asked) (i : ℕ) → asks_just other (at i es) ≡ true → is_of face es other (face, i) ≡ true
  of_found [] i e = absurd (false≢true e)
  of_found (x ∷ es) i e = by (is_at (nat_cmp i) x.0) refl e (of_found es i)
    where
      by : (b : Bool) → is_at (nat_cmp i) x.0 ≡ b → asks_just other (cond b (Some x.1) (at i es)) ≡ true → (asks_just other (at i es) ≡ true → is_of face es other (face, i) ≡ true)
          → ((same_asked x.1.key other && is_at (place_cmp (face, x.0)) (face, i)) || is_of face es other (face, i)) ≡ true
      by true is e later =
          let same : i ≡ x.0 = same_key nat_cmp_total exact_unsigned i x.0 is in
          ap (λ a. (a && is_at (place_cmp (face, x.0)) (face, i)) || is_of face es other (face, i)) e
          ∙ ap (λ n. is_at (place_cmp (face, x.0)) (face, n) || is_of face es other (face, i)) same
          ∙ ap (λ a. a || is_of face es other (face, i)) (at_itself place_total place_exact (face, x.0))
      by false is e later = or_more (same_asked x.1.key other && is_at (place_cmp (face, x.0)) (face, i)) (is_of face es other (face, i)) (later e)

  of_others : (es : Asked) (q : Place) → is_at (nat_cmp face) q.0 ≡ false → is_of face es other q ≡ false
  of_others [] q e = refl
  of_others (x ∷ es) q e = ap (λ a. (same_asked x.1.key other && a) || is_of face es other q) (other_place face x.0 q.0 q.1 e) ∙ by (same_asked x.1.key other) ∙ of_others es q e
    where
      by : (k : Bool) → ((k && false) || is_of face es other q) ≡ is_of face es other q
      by true = refl
      by false = refl

module _ (ints : Interests) (shelf : Shelf) (kept : AreKept ints shelf) (face : ℕ) where
  pub kept_closed : (es : Asked) (after : Shelf) → Some es ≡ at face ints → ((other : Option Text) (q : Place) → is_kept other q after ≡ (not (is_of face es other q) && is_kept other q shelf)) → AreKept (closed_face face ints) after
  kept_closed es after was says = record {
    numbers = numbers_closed ints face 0 kept.numbers kept.ids;
    ids = ids_closed ints face 0 kept.numbers kept.ids;
    same = λ other q. says other q ∙ by other q (is_at (nat_cmp face) q.0) refl ∙ sym (ap (asks_just other) (found_closed ints face 0 kept.numbers kept.ids q.0 q.1));
  }
    where
      gone : (a s : Bool) → (s ≡ true → a ≡ true) → (not a && s) ≡ false
      gone true s h = refl
      gone false true h = absurd (false≢true (h refl))
      gone false false h = refl

      by : (other : Option Text) (q : Place) (b : Bool) → is_at (nat_cmp face) q.0 ≡ b → (not (is_of face es other q) && is_kept other q shelf) ≡ asks_just other (cond b None (interest_at q.0 q.1 ints))
      by other q true e =
          let same : face ≡ q.0 = same_key nat_cmp_total exact_unsigned face q.0 e in
          let there : is_kept other q shelf ≡ asks_just other (at q.1 es) =
          kept.same other q ∙ ap (λ n. asks_just other (interest_at n q.1 ints)) (sym same) ∙ ap (λ o. asks_just other (at q.1 (listed o))) (sym was) in
          gone (is_of face es other q) (is_kept other q shelf) (λ k. ap (λ n. is_of face es other (n, q.1)) (sym same) ∙ of_found face other es q.1 (sym there ∙ k))
      by other q false e = ap (λ a. not a && is_kept other q shelf) (of_others face other es q e) ∙ kept.same other q

  pub kept_absent : None ≡ at face ints → AreKept (closed_face face ints) shelf
  kept_absent none = record {
    numbers = numbers_closed ints face 0 kept.numbers kept.ids;
    ids = ids_closed ints face 0 kept.numbers kept.ids;
    same = λ other q. kept.same other q ∙ by other q (is_at (nat_cmp face) q.0) refl ∙ sym (ap (asks_just other) (found_closed ints face 0 kept.numbers kept.ids q.0 q.1));
  }
    where
      by : (other : Option Text) (q : Place) (b : Bool) → is_at (nat_cmp face) q.0 ≡ b → asks_just other (interest_at q.0 q.1 ints) ≡ asks_just other (cond b None (interest_at q.0 q.1 ints))
      by other q true e = ap (λ n. asks_just other (interest_at n q.1 ints)) (sym (same_key nat_cmp_total exact_unsigned face q.0 e)) ∙ ap (λ o. asks_just other (at q.1 (listed o))) (sym none)
      by other q false e = refl
