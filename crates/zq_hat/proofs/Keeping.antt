-- A declaration, a withdrawal, a new face and a face's end keep the index tied.
use Rattle.std.proofs.Common.{◌≡◌, ℕ, Bool, true, false, cond, List, [], ◌∷◌, ap, ◌∙◌, refl, Some, None, Option, sym, subst, true≢false, fold}
use Rattle.std.specs.Prelude.{not}
use Rattle.std.specs.Option.{is_some, option_map_or, option_and_then}
use Rattle.std.specs.declared.cmp.Ordering.{Ordering}
use Rattle.std.specs.declared.cmp.Ordering.TheVariants.{Less, Equal, Greater}
use Rattle.std.specs.Ordering.{nat_cmp, is_eq, match_ordering}
use Rattle.std.specs.Cmp.{nat_cmp_total}
use Rattle.std.specs.List.Sorted.{IsStrictlySortedBy}
use Rattle.std.specs.Map.{keys_of, lookup, remove_entry, set_value}
use Rattle.std.specs.BTreeMap.{is_at, insert_entry}
use Rattle.std.specs.Str.{bytes_eq}
use Rattle.std.proofs.lemmas.Map.Lookups.{exact_unsigned}
use Rattle.std.proofs.lemmas.Map.Text.{is_eq-slice_cmp}
use Rattle.zq_key.specs.Key.{is_key}
use Rattle.zq_message.specs.declared.message.QueryableInfoType.{QueryableInfoType}
use Rattle.zq_strategy.specs.declared.types.Declaration.{Declaration}
use Rattle.zq_index.specs.Texts.{text_cmp, at_text}
use Rattle.zq_strategy.specs.Kept.{at_id, is_apart, declare, withdraw, declaration}
use Rattle.zq_strategy.specs.State.{FaceState}
use Rattle.zq_index.specs.Holders.{Place, Holdings, Index, place_cmp, at_place, held_at, with_holding, without_holding, if_any}
use Rattle.zq_hat.specs.Tied.{info_on, declared_at, without_declared, AreOrdered, IsTied}
use Rattle.zq_index.proofs.Orders.{place_total, place_exact, text_total, text_exact}
use Rattle.zq_hat.proofs.Held.{own_place, other_place}
use Rattle.zq_hat.proofs.Reading.{sorted_at}
use Rattle.zq_index.proofs.Holding.{gone}
use Rattle.zq_index.proofs.Finding.{test_text, found_with, sorted_with, found_without, sorted_without, held_if_any, if_any_some, if_any_used, inserted_used}
use Rattle.zq_key.proofs.Lookups.{same_key, at_itself, found_after_removal, found_after_write, found_after_insertion, same_entries}
use Rattle.zq_key.proofs.Sorted.{sorted_in, sorted_write, sorted_out}

-- one place changes in both, and the others stay
pub mixed : (k : List ℕ) (b c d e : Bool) (s w : Option QueryableInfoType) (v dec : Option Declaration) → (c ≡ true → s ≡ option_and_then (info_on k) dec) → (c ≡ true → e ≡ d) → (c ≡ false → e ≡ false) → (b ≡ true → w ≡ option_and_then (info_on k) v)
    → (b ≡ false → c ≡ true → d ≡ true → (option_and_then (info_on k) v ≡ None) × (s ≡ None)) → cond b (cond e w s) s ≡ cond c (option_and_then (info_on k) (cond d v dec)) s
mixed k true true true e s w v dec own same other new old = ap (λ x. cond x w s) (same refl) ∙ new refl
mixed k true true false e s w v dec own same other new old = ap (λ x. cond x w s) (same refl) ∙ own refl
mixed k true false d e s w v dec own same other new old = ap (λ x. cond x w s) (other refl)
mixed k false true true e s w v dec own same other new old = let none = old refl refl refl in none.1 ∙ sym none.0
mixed k false true false e s w v dec own same other new old = own refl
mixed k false false d e s w v dec own same other new old = refl

pub key_test : (key k : List ℕ) → test_text key k ≡ bytes_eq key k
key_test key k = is_eq-slice_cmp key k

module _ (faces : List (ℕ × FaceState)) (index : Index) (t : IsTied faces index) (n : ℕ) (f : FaceState) (at : at_id n faces ≡ Some f) (x : FaceState) where
  abbrev faces' : List (ℕ × FaceState)
  faces' = set_value (is_at (nat_cmp n)) faces x

  face_found : (m : ℕ) → at_id m faces' ≡ cond (is_at (nat_cmp n) m) (Some x) (at_id m faces)
  face_found m = found_after_write nat_cmp_total exact_unsigned n m x faces (ap is_some at)

  ids_by : (m : ℕ) (g : FaceState) (b : Bool) → IsStrictlySortedBy nat_cmp (keys_of x.declared) → cond b (Some x) (at_id m faces) ≡ Some g → IsStrictlySortedBy nat_cmp (keys_of g.declared)
  ids_by m g true s is = let same : x ≡ g = let both : Some x ≡ Some g = is in cc in subst (λ (y : FaceState). IsStrictlySortedBy nat_cmp (keys_of y.declared)) same s
  ids_by m g false s is = t.ids m g is

  pub ordered' : IsStrictlySortedBy nat_cmp (keys_of x.declared) → AreOrdered faces'
  ordered' s m g is = ids_by m g _ s (sym (face_found m) ∙ is)

  declared_by : (k : List ℕ) (p : Place) (b : Bool) → cond b (option_and_then (info_on k) (declaration p.1 x)) (declared_at k p faces) ≡ option_and_then (λ g. option_and_then (info_on k) (declaration p.1 g)) (cond b (Some x) (at_id p.0 faces))
  declared_by k p true = refl
  declared_by k p false = refl

  pub declared' : (k : List ℕ) (p : Place) → declared_at k p faces' ≡ cond (is_at (nat_cmp n) p.0) (option_and_then (info_on k) (declaration p.1 x)) (declared_at k p faces)
  declared' k p = ap (option_and_then (λ g. option_and_then (info_on k) (declaration p.1 g))) (face_found p.0) ∙ sym (declared_by k p (is_at (nat_cmp n) p.0))

  pub own' : (k : List ℕ) (p : Place) → is_at (nat_cmp n) p.0 ≡ true → declared_at k p faces ≡ option_and_then (info_on k) (declaration p.1 f)
  own' k p e = ap (option_and_then (λ g. option_and_then (info_on k) (declaration p.1 g))) (ap (λ m. at_id m faces) (sym (same_key nat_cmp_total exact_unsigned n p.0 e)) ∙ at)

  pub same_place' : (i : ℕ) (p : Place) → is_at (nat_cmp n) p.0 ≡ true → is_at (place_cmp (n, i)) p ≡ is_at (nat_cmp i) p.1
  same_place' i p e = ap (λ m. is_at (place_cmp (n, i)) (m, p.1)) (sym (same_key nat_cmp_total exact_unsigned n p.0 e)) ∙ own_place n i p.1

  -- the index after the change has at each place what the faces then declare, if it changed in the same way
  change : (key : List ℕ) (i : ℕ) (w : Option QueryableInfoType) (v : Option Declaration) (after : Index)
      → ((k : List ℕ) (p : Place) → at_place p (held_at k after) ≡ cond (test_text key k) (cond (is_at (place_cmp (n, i)) p) w (at_place p (held_at k index))) (at_place p (held_at k index)))
      → ((j : ℕ) → declaration j x ≡ cond (is_at (nat_cmp i) j) v (declaration j f))
      → ((k : List ℕ) → test_text key k ≡ true → w ≡ option_and_then (info_on k) v)
      → ((k : List ℕ) → test_text key k ≡ false → (option_and_then (info_on k) v ≡ None) × (option_and_then (info_on k) (declaration i f) ≡ None))
      → (k : List ℕ) (p : Place) → at_place p (held_at k after) ≡ declared_at k p faces'
  change key i w v after here now new old k p =
      let c = is_at (nat_cmp n) p.0 in
      let d = is_at (nat_cmp i) p.1 in
      let e = is_at (place_cmp (n, i)) p in
      let b = test_text key k in
      let s = declared_at k p faces in
      here k p ∙ ap (λ y. cond b (cond e w y) y) (t.same k p)
      ∙ mixed k b c d e s w v (declaration p.1 f) (own' k p) (same_place' i p) (other_place n i p.0 p.1) (new k)
      (λ bf ct dt. ((old k bf).0, own' k p ct ∙ ap (λ j. option_and_then (info_on k) (declaration j f)) (sym (same_key nat_cmp_total exact_unsigned i p.1 dt)) ∙ (old k bf).1))
      ∙ ap (λ y. cond c (option_and_then (info_on k) y) s) (sym (now p.1)) ∙ sym (declared' k p)

-- ---- a declaration
module _ (key : List ℕ) (p : Place) (i : QueryableInfoType) (index : Index) where
  with_at_by : (k : List ℕ) (q : Place) (b : Bool) → test_text key k ≡ b
      → at_place q (option_map_or (λ l. l) (cond b (Some (insert_entry place_cmp (held_at key index) p i)) (at_text k index)) []) ≡ cond b (cond (is_at (place_cmp p) q) (Some i) (at_place q (held_at k index))) (at_place q (held_at k index))
  with_at_by k q true e =
      found_after_insertion place_total place_exact p q i (held_at key index)
      ∙ ap (λ x. cond (is_at (place_cmp p) q) (Some i) (at_place q (held_at x index))) (same_key text_total text_exact key k e)
  with_at_by k q false e = refl

  with_at : (k : List ℕ) (q : Place) → at_place q (held_at k (with_holding key p i index)) ≡ cond (test_text key k) (cond (is_at (place_cmp p) q) (Some i) (at_place q (held_at k index))) (at_place q (held_at k index))
  with_at k q = ap (λ o. at_place q (option_map_or (λ l. l) o [])) (found_with place_cmp key p i index k) ∙ with_at_by k q (test_text key k) refl

module _ (faces : List (ℕ × FaceState)) (index : Index) (t : IsTied faces index) (key : List ℕ) (p : Place) (i : QueryableInfoType) where
  with_places_by : (k : List ℕ) (hs : Holdings) (b : Bool) → cond b (Some (insert_entry place_cmp (held_at key index) p i)) (at_text k index) ≡ Some hs → IsStrictlySortedBy place_cmp (keys_of hs)
  with_places_by k hs true is =
      let same : insert_entry place_cmp (held_at key index) p i ≡ hs = let both : Some (insert_entry place_cmp (held_at key index) p i) ≡ Some hs = is in cc in
      subst (λ l. IsStrictlySortedBy place_cmp (keys_of l)) same (sorted_in place_total (held_at key index) p i (sorted_at faces index t key))
  with_places_by k hs false is = t.places k hs is

  with_used_by : (k : List ℕ) (b : Bool) → cond b (Some (insert_entry place_cmp (held_at key index) p i)) (at_text k index) ≡ Some [] → ⊥
  with_used_by k true is = inserted_used place_cmp p i (held_at key index) (let both : Some (insert_entry place_cmp (held_at key index) p i) ≡ Some [] = is in cc)
  with_used_by k false is = t.used k is

  with_keys_by : (k : List ℕ) (hs : Holdings) (b : Bool) → test_text key k ≡ b → is_key key ≡ true → cond b (Some (insert_entry place_cmp (held_at key index) p i)) (at_text k index) ≡ Some hs → is_key k ≡ true
  with_keys_by k hs true e valid is = subst (λ x. is_key x ≡ true) (same_key text_total text_exact key k e) valid
  with_keys_by k hs false e valid is = t.keys k hs is

apart_none : (key k : List ℕ) (o : Option Declaration) → bytes_eq key k ≡ false → option_map_or (is_apart key) o false ≡ false → option_and_then (info_on k) o ≡ None
apart_none key k None e free = refl
apart_none key k (Some d) e free =
    let same : d.key ≡ key = equal_texts d.key key (bytes_eq d.key key) refl free in
    ap (λ x. cond (bytes_eq x k) (Some d.info) None) same ∙ ap (λ b. cond b (Some d.info) None) e
  where
    equal_texts : (a b : List ℕ) (c : Bool) → bytes_eq a b ≡ c → not c ≡ false → a ≡ b
    equal_texts a b true e free = same_key text_total text_exact a b (key_test a b ∙ e)
    equal_texts a b false e free = absurd (true≢false free)

module _ (faces : List (ℕ × FaceState)) (index : Index) (t : IsTied faces index) (n : ℕ) (f : FaceState) (at : at_id n faces ≡ Some f) where
  pub declare_keeps : (key : List ℕ) (i : ℕ) (info : QueryableInfoType) → is_key key ≡ true → option_map_or (is_apart key) (declaration i f) false ≡ false
      → IsTied (set_value (is_at (nat_cmp n)) faces (declare i key info f)) (with_holding key (n, i) info index)
  declare_keeps key i info valid free =
      let d : Declaration = record { key = key; info = info } in
      let x = declare i key info f in
      record {
        numbers = sorted_write nat_cmp (is_at (nat_cmp n)) x faces t.numbers;
        ids = ordered' faces index t n f at x (sorted_in nat_cmp_total f.declared i d (t.ids n f at));
        texts = sorted_with place_cmp key (n, i) info index t.texts;
        places = λ k hs is. with_places_by faces index t key (n, i) info k hs _ (sym (found_with place_cmp key (n, i) info index k) ∙ is);
        used = λ k is. with_used_by faces index t key (n, i) info k _ (sym (found_with place_cmp key (n, i) info index k) ∙ is);
        keys = λ k hs is. with_keys_by faces index t key (n, i) info k hs _ refl valid (sym (found_with place_cmp key (n, i) info index k) ∙ is);
        same = change faces index t n f at x key i (Some info) (Some d) (with_holding key (n, i) info index)
            (with_at key (n, i) info index)
            (λ j. found_after_insertion nat_cmp_total exact_unsigned i j d f.declared)
            (λ k e. sym (ap (λ b. cond b (Some info) None) (sym (key_test key k) ∙ e)))
            (λ k e. let differs = sym (key_test key k) ∙ e in (ap (λ b. cond b (Some info) None) differs, apart_none key k (declaration i f) differs free));
      }

-- ---- a withdrawal
module _ (faces : List (ℕ × FaceState)) (index : Index) (t : IsTied faces index) (key : List ℕ) (p : Place) where
  abbrev left : Holdings
  left = remove_entry (is_at (place_cmp p)) (held_at key index)

  without_at_by : (k : List ℕ) (q : Place) (b : Bool) → test_text key k ≡ b
      → at_place q (option_map_or (λ l. l) (cond b (if_any left) (at_text k index)) []) ≡ cond b (cond (is_at (place_cmp p) q) None (at_place q (held_at k index))) (at_place q (held_at k index))
  without_at_by k q true e =
      ap (at_place q) (held_if_any left)
      ∙ found_after_removal place_total place_exact p q (held_at key index) (sorted_at faces index t key)
      ∙ ap (λ x. cond (is_at (place_cmp p) q) None (at_place q (held_at x index))) (same_key text_total text_exact key k e)
  without_at_by k q false e = refl

  without_at : (k : List ℕ) (q : Place) → at_place q (held_at k (without_holding key p index)) ≡ cond (test_text key k) (cond (is_at (place_cmp p) q) None (at_place q (held_at k index))) (at_place q (held_at k index))
  without_at k q = ap (λ o. at_place q (option_map_or (λ l. l) o [])) (found_without place_cmp key p index k t.texts) ∙ without_at_by k q (test_text key k) refl

  without_places_by : (k : List ℕ) (hs : Holdings) (b : Bool) → cond b (if_any left) (at_text k index) ≡ Some hs → IsStrictlySortedBy place_cmp (keys_of hs)
  without_places_by k hs true is = subst (λ l. IsStrictlySortedBy place_cmp (keys_of l)) (if_any_some left hs is) (sorted_out place_cmp (is_at (place_cmp p)) (held_at key index) (sorted_at faces index t key))
  without_places_by k hs false is = t.places k hs is

  without_used_by : (k : List ℕ) (b : Bool) → cond b (if_any left) (at_text k index) ≡ Some [] → ⊥
  without_used_by k true is = if_any_used left is
  without_used_by k false is = t.used k is

  left_key : (o : Option Holdings) (hs : Holdings) → at_text key index ≡ o → if_any (remove_entry (is_at (place_cmp p)) (option_map_or (λ l. l) o [])) ≡ Some hs → is_key key ≡ true
  left_key None hs is some = absurd (let gap : None ≡ Some hs = some in cc)
  left_key (Some ls) hs is some = t.keys key ls is

  without_keys_by : (k : List ℕ) (hs : Holdings) (b : Bool) → test_text key k ≡ b → cond b (if_any left) (at_text k index) ≡ Some hs → is_key k ≡ true
  without_keys_by k hs true e is = subst (λ x. is_key x ≡ true) (same_key text_total text_exact key k e) (left_key (at_text key index) hs refl is)
  without_keys_by k hs false e is = t.keys k hs is

module _ (faces : List (ℕ × FaceState)) (index : Index) (t : IsTied faces index) (n : ℕ) (f : FaceState) (at : at_id n faces ≡ Some f) where
  pub withdraw_keeps : (i : ℕ) (d : Declaration) → declaration i f ≡ Some d → IsTied (set_value (is_at (nat_cmp n)) faces (withdraw i f)) (without_holding d.key (n, i) index)
  withdraw_keeps i d there =
      let x = withdraw i f in
      let key = d.key in
      record {
        numbers = sorted_write nat_cmp (is_at (nat_cmp n)) x faces t.numbers;
        ids = ordered' faces index t n f at x (sorted_out nat_cmp (is_at (nat_cmp i)) f.declared (t.ids n f at));
        texts = sorted_without place_cmp key (n, i) index t.texts;
        places = λ k hs is. without_places_by faces index t key (n, i) k hs _ (sym (found_without place_cmp key (n, i) index k t.texts) ∙ is);
        used = λ k is. without_used_by faces index t key (n, i) k _ (sym (found_without place_cmp key (n, i) index k t.texts) ∙ is);
        keys = λ k hs is. without_keys_by faces index t key (n, i) k hs _ refl (sym (found_without place_cmp key (n, i) index k t.texts) ∙ is);
        same = change faces index t n f at x key i None None (without_holding key (n, i) index)
            (without_at faces index t key (n, i))
            (λ j. found_after_removal nat_cmp_total exact_unsigned i j f.declared (t.ids n f at))
            (λ k e. refl)
            (λ k e. (refl, ap (option_and_then (info_on k)) there ∙ ap (λ b. cond b (Some d.info) None) (sym (key_test key k) ∙ e)));
      }

-- ---- what was just put in and goes again leaves the index as it was
module _ {K X : Type 0} (R : K → K → Ordering) (own : (k : K) → is_at (R k) k ≡ true) where
  undo_by : (k : K) (v : X) (e : K × X) (es : List (K × X)) (r : Ordering) → R k e.0 ≡ r → is_at (R k) e.0 ≡ false → remove_entry (is_at (R k)) (insert_entry R es k v) ≡ es
      → remove_entry (is_at (R k)) (match_ordering r ((k, v) ∷ e ∷ es) ((e.0, v) ∷ es) (e ∷ insert_entry R es k v)) ≡ e ∷ es
  undo_by k v e es Less h ne ih = ap (λ b. cond b (e ∷ es) ((k, v) ∷ remove_entry (is_at (R k)) (e ∷ es))) (own k)
  undo_by k v e es Equal h ne ih = absurd (true≢false (sym (ap is_eq h) ∙ ne))
  undo_by k v e es Greater h ne ih = ap (λ b. cond b (insert_entry R es k v) (e ∷ remove_entry (is_at (R k)) (insert_entry R es k v))) ne ∙ ap (λ l. e ∷ l) ih

  absent_by : (k : K) (e : K × X) (es : List (K × X)) (b : Bool) → is_at (R k) e.0 ≡ b → cond b (Some e.1) (lookup (is_at (R k)) es) ≡ None → (b ≡ false) × (lookup (is_at (R k)) es ≡ None)
  absent_by k e es true t is = absurd (let gap : Some e.1 ≡ None = is in cc)
  absent_by k e es false t is = (refl, is)

  undone : (k : K) (v : X) (es : List (K × X)) → lookup (is_at (R k)) es ≡ None → remove_entry (is_at (R k)) (insert_entry R es k v) ≡ es
  undone k v [] is = ap (λ b. cond b [] ((k, v) ∷ [])) (own k)
  undone k v (e ∷ es) is =
      let none = absent_by k e es (is_at (R k) e.0) refl is in
      undo_by k v e es (R k e.0) refl none.0 (undone k v es none.1)

module _ (faces : List (ℕ × FaceState)) (index : Index) (t : IsTied faces index) (key : List ℕ) (p : Place) (i : QueryableInfoType) (absent : declared_at key p faces ≡ None) where
  any_held_by : (o : Option Holdings) → at_text key index ≡ o → if_any (option_map_or (λ l. l) o []) ≡ o
  any_held_by None is = refl
  any_held_by (Some []) is = absurd (t.used key is)
  any_held_by (Some (h ∷ hs)) is = refl

  back_by : (k : List ℕ) (b : Bool) → test_text key k ≡ b
      → cond b (if_any (remove_entry (is_at (place_cmp p)) (insert_entry place_cmp (held_at key index) p i))) (cond b (Some (insert_entry place_cmp (held_at key index) p i)) (at_text k index)) ≡ at_text k index
  back_by k true e =
      ap if_any (undone place_cmp (at_itself place_total place_exact) p i (held_at key index) (t.same key p ∙ absent))
      ∙ any_held_by (at_text key index) refl
      ∙ ap (λ x. at_text x index) (same_key text_total text_exact key k e)
  back_by k false e = refl

  held_now : held_at key (with_holding key p i index) ≡ insert_entry place_cmp (held_at key index) p i
  held_now = ap (λ o. option_map_or (λ l. l) o []) (found_with place_cmp key p i index key ∙ ap (λ b. cond b (Some (insert_entry place_cmp (held_at key index) p i)) (at_text key index)) (at_itself text_total text_exact key))

  back_at : (k : List ℕ) → at_text k (without_holding key p (with_holding key p i index)) ≡ at_text k index
  back_at k =
      found_without place_cmp key p (with_holding key p i index) k (sorted_with place_cmp key p i index t.texts)
      ∙ (λ j. cond (test_text key k) (if_any (remove_entry (is_at (place_cmp p)) (held_now j))) (found_with place_cmp key p i index k j))
      ∙ back_by k (test_text key k) refl

  pub put_back : without_holding key p (with_holding key p i index) ≡ index
  put_back = same_entries text_total text_exact (without_holding key p (with_holding key p i index)) index (sorted_without place_cmp key p (with_holding key p i index) (sorted_with place_cmp key p i index t.texts)) t.texts back_at

-- ---- faces come and go
sorted_nothing : {K : Type 0} (R : K → K → Ordering) → IsStrictlySortedBy R []
unfolding IsStrictlySortedBy
sorted_nothing R = tt

pub nothing_tied : IsTied [] []
nothing_tied = record {
  numbers = sorted_nothing nat_cmp;
  ids = λ n f is. absurd (let gap : None ≡ Some f = is in cc);
  texts = sorted_nothing text_cmp;
  places = λ k hs is. absurd (let gap : None ≡ Some hs = is in cc);
  used = λ k is. let gap : None ≡ Some [] = is in absurd (cc);
  keys = λ k hs is. absurd (let gap : None ≡ Some hs = is in cc);
  same = λ k p. refl;
}

-- faces that say the same of each key and keep their ids in order are tied to the same index
retied : (faces fs : List (ℕ × FaceState)) (index : Index) → IsTied faces index → IsStrictlySortedBy nat_cmp (keys_of fs) → AreOrdered fs → ((k : List ℕ) (p : Place) → declared_at k p faces ≡ declared_at k p fs) → IsTied fs index
retied faces fs index t s o same = record {
  numbers = s;
  ids = o;
  texts = t.texts;
  places = t.places;
  used = t.used;
  keys = t.keys;
  same = λ k p. t.same k p ∙ same k p;
}

module _ (faces : List (ℕ × FaceState)) (index : Index) (t : IsTied faces index) (n : ℕ) where
  module _ (f : FaceState) (at : at_id n faces ≡ Some f) (bare : f.declared ≡ []) where
    rest_by : (m : ℕ) (g : FaceState) (b : Bool) → cond b None (at_id m faces) ≡ Some g → IsStrictlySortedBy nat_cmp (keys_of g.declared)
    rest_by m g true is = absurd (let gap : None ≡ Some g = is in cc)
    rest_by m g false is = t.ids m g is

    out_by : (k : List ℕ) (p : Place) (b : Bool) → is_at (nat_cmp n) p.0 ≡ b → declared_at k p faces ≡ option_and_then (λ g. option_and_then (info_on k) (declaration p.1 g)) (cond b None (at_id p.0 faces))
    out_by k p true e =
        ap (option_and_then (λ g. option_and_then (info_on k) (declaration p.1 g))) (ap (λ m. at_id m faces) (sym (same_key nat_cmp_total exact_unsigned n p.0 e)) ∙ at)
        ∙ ap (λ l. option_and_then (info_on k) (at_id p.1 l)) bare
    out_by k p false e = refl

    bare_goes : IsTied (remove_entry (is_at (nat_cmp n)) faces) index
    bare_goes =
        retied faces (remove_entry (is_at (nat_cmp n)) faces) index t (sorted_out nat_cmp (is_at (nat_cmp n)) faces t.numbers)
        (λ m g is. rest_by m g _ (sym (found_after_removal nat_cmp_total exact_unsigned n m faces t.numbers) ∙ is))
        (λ k p. out_by k p _ refl ∙ sym (ap (option_and_then (λ g. option_and_then (info_on k) (declaration p.1 g))) (found_after_removal nat_cmp_total exact_unsigned n p.0 faces t.numbers)))

  module _ (f : FaceState) (none : at_id n faces ≡ None) (bare : f.declared ≡ []) where
    come_by : (m : ℕ) (g : FaceState) (b : Bool) → cond b (Some f) (at_id m faces) ≡ Some g → IsStrictlySortedBy nat_cmp (keys_of g.declared)
    come_by m g true is =
        let same : f ≡ g = let both : Some f ≡ Some g = is in cc in
        subst (λ (ds : List (ℕ × Declaration)). IsStrictlySortedBy nat_cmp (keys_of ds)) (sym bare ∙ ap (λ (x : FaceState). x.declared) same) (sorted_nothing nat_cmp)
    come_by m g false is = t.ids m g is

    in_by : (k : List ℕ) (p : Place) (b : Bool) → is_at (nat_cmp n) p.0 ≡ b → declared_at k p faces ≡ option_and_then (λ g. option_and_then (info_on k) (declaration p.1 g)) (cond b (Some f) (at_id p.0 faces))
    in_by k p true e =
        ap (option_and_then (λ g. option_and_then (info_on k) (declaration p.1 g))) (ap (λ m. at_id m faces) (sym (same_key nat_cmp_total exact_unsigned n p.0 e)) ∙ none)
        ∙ sym (ap (λ l. option_and_then (info_on k) (at_id p.1 l)) bare)
    in_by k p false e = refl

    -- a face comes that has declared nothing
    pub opened_tied : IsTied (insert_entry nat_cmp faces n f) index
    opened_tied =
        retied faces (insert_entry nat_cmp faces n f) index t (sorted_in nat_cmp_total faces n f t.numbers)
        (λ m g is. come_by m g _ (sym (found_after_insertion nat_cmp_total exact_unsigned n m f faces) ∙ is))
        (λ k p. in_by k p _ refl ∙ sym (ap (option_and_then (λ g. option_and_then (info_on k) (declaration p.1 g))) (found_after_insertion nat_cmp_total exact_unsigned n p.0 f faces)))

-- a face goes with its declarations, one after the other
forget_from : (n : ℕ) (ds : List (ℕ × Declaration)) (faces : List (ℕ × FaceState)) (index : Index) → IsTied faces index → (f : FaceState) → at_id n faces ≡ Some f → f.declared ≡ ds
    → IsTied (remove_entry (is_at (nat_cmp n)) faces) (fold (without_declared n) index ds)
forget_from n [] faces index t f at is = bare_goes faces index t n f at is
forget_from n (d ∷ ds) faces index t f at is =
    let first : declaration d.0 f ≡ Some d.1 = ap (at_id d.0) is ∙ ap (λ b. cond b (Some d.1) (at_id d.0 ds)) (at_itself nat_cmp_total exact_unsigned d.0) in
    let rest : (withdraw d.0 f).declared ≡ ds = ap (remove_entry (is_at (nat_cmp d.0))) is ∙ ap (λ b. cond b ds (d ∷ remove_entry (is_at (nat_cmp d.0)) ds)) (at_itself nat_cmp_total exact_unsigned d.0) in
    let there = found_after_write nat_cmp_total exact_unsigned n n (withdraw d.0 f) faces (ap is_some at) ∙ ap (λ b. cond b (Some (withdraw d.0 f)) (at_id n faces)) (at_itself nat_cmp_total exact_unsigned n) in
    subst (λ fs. IsTied fs (fold (without_declared n) index (d ∷ ds))) (gone (is_at (nat_cmp n)) faces (withdraw d.0 f))
    (forget_from n ds (set_value (is_at (nat_cmp n)) faces (withdraw d.0 f)) (without_holding d.1.key (n, d.0) index) (withdraw_keeps faces index t n f at d.0 d.1 first) (withdraw d.0 f) there rest)

pub forget_keeps : (faces : List (ℕ × FaceState)) (index : Index) → IsTied faces index → (n : ℕ) (f : FaceState) → at_id n faces ≡ Some f → IsTied (remove_entry (is_at (nat_cmp n)) faces) (fold (without_declared n) index f.declared)
forget_keeps faces index t n f at = forget_from n f.declared faces index t f at refl
