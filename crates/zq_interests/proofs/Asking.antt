-- The faces whose interests are kept under keys that meet a key are those that ask for it.
use Rattle.std.proofs.Common.{◌≡◌, ◌∙◌, sym, ap, refl, ℕ, Bool, true, false, cond, List, [], ◌∷◌, ◌++◌, Some, None, Option, map, fold}
use Rattle.std.specs.Prelude.{◌||◌, filter}
use Rattle.std.specs.BTreeMap.{is_at}
use Rattle.std.specs.Cmp.{nat_cmp_total}
use Rattle.std.specs.List.{AllByRecursion, flat_map, list_any}
use Rattle.std.specs.List.Sorted.{IsStrictlySortedBy}
use Rattle.std.specs.Map.{keys_of}
use Rattle.std.specs.Option.{option_map_or}
use Rattle.std.specs.Ordering.{nat_cmp}
use Rattle.std.specs.declared.cmp.Ordering.TheVariants.{Less}
use Rattle.std.proofs.Math.Bool.{or_assoc}
use Rattle.std.proofs.lemmas.Bool.{false≢true}
use Rattle.std.proofs.lemmas.Map.Keys.{sorted_head, sorted_tail}
use Rattle.std.proofs.lemmas.Map.Lookups.{exact_unsigned}
use Rattle.zq_key.specs.Key.{intersects}
use Rattle.zq_key.proofs.Lookups.{at_itself, found_later, none_above, same_key}
use Rattle.zq_key.proofs.Sorted.{has_put, same_keys, sorted_put}
use Rattle.zq_key.proofs.Truth.{or_swap}
use Rattle.zq_index.specs.Holders.{Place, place_cmp}
use Rattle.zq_index.specs.Texts.{at_text, text_cmp}
use Rattle.zq_index.proofs.Orders.{place_exact, place_total, text_exact, text_total}
use Rattle.zq_interests.specs.declared.types.InterestEntry.{InterestEntry}
use Rattle.zq_interests.specs.Interests.{Asked, Interests, askers, at, interest_at, is_asker, is_met, meets}
use Rattle.zq_interests.specs.Kept.{AreKept, Keyed, Shelf, asks_just, has_place, is_kept, is_under, met_at, met_faces, met_places, numbered, with_face}
use Rattle.zq_interests.proofs.Keeping.{Text, same_is, same_itself}

pub or_right : (a b : Bool) → b ≡ true → (a || b) ≡ true
or_right true b e = refl
or_right false b e = e

pub or_left : (a b : Bool) → a ≡ true → (a || b) ≡ true
or_left a b e = ap (λ x. x || b) e

pub both_ways : (a b : Bool) → (a ≡ true → b ≡ true) → (b ≡ true → a ≡ true) → a ≡ b
both_ways true b forth back = sym (forth refl)
both_ways false true forth back = back refl
both_ways false false forth back = refl

pub any_joined : {X : Type 0} (test : X → Bool) (xs ys : List X) → list_any test (xs ++ ys) ≡ (list_any test xs || list_any test ys)
any_joined test [] ys = refl
any_joined test (x ∷ xs) ys = ap (λ b. test x || b) (any_joined test xs ys) ∙ sym (or_assoc (test x) (list_any test xs) (list_any test ys))

-- ---- faces that were found
abbrev has_face : ℕ → List Place → Bool
has_face n ps = list_any (λ (p : Place). is_at (nat_cmp n) p.0) ps

abbrev has_number : ℕ → List ℕ → Bool
has_number n ns = list_any (is_at (nat_cmp n)) ns

pub or_none : (a : Bool) → a ≡ (a || false)
or_none true = refl
or_none false = refl

in_fold : (n : ℕ) (ns : List ℕ) (ps : List Place) → has_number n (fold with_face ns ps) ≡ (has_number n ns || has_face n ps)
in_fold n ns [] = or_none (has_number n ns)
in_fold n ns (p ∷ ps) =
    in_fold n (with_face ns p) ps
    ∙ ap (λ b. b || has_face n ps) (has_put nat_cmp_total exact_unsigned n p.0 ns)
    ∙ or_assoc (is_at (nat_cmp n) p.0) (has_number n ns) (has_face n ps)
    ∙ or_swap (is_at (nat_cmp n) p.0) (has_number n ns) (has_face n ps)

sorted_fold : (ns : List ℕ) (ps : List Place) → IsStrictlySortedBy nat_cmp ns → IsStrictlySortedBy nat_cmp (fold with_face ns ps)
sorted_fold ns [] s = s
sorted_fold ns (p ∷ ps) s = sorted_fold (with_face ns p) ps (sorted_put nat_cmp_total ns p.0 s)

sorted_none : IsStrictlySortedBy nat_cmp []
unfolding IsStrictlySortedBy
sorted_none = tt

-- a place of the face
record PlaceOf (n : ℕ) (ps : List Place) : Type 0 where
  id : ℕ
  has : has_place (n, id) ps ≡ true

place_of : (n : ℕ) (ps : List Place) → has_face n ps ≡ true → PlaceOf n ps
place_of n [] e = absurd (false≢true e)
place_of n (p ∷ ps) e = by (is_at (nat_cmp n) p.0) refl e (place_of n ps)
  where
    by : (b : Bool) → is_at (nat_cmp n) p.0 ≡ b → (b || has_face n ps) ≡ true → (has_face n ps ≡ true → PlaceOf n ps) → PlaceOf n (p ∷ ps)
    by true is e later = record {
      id = p.1;
      has = or_left (is_at (place_cmp (n, p.1)) p) (has_place (n, p.1) ps) (ap (λ m. is_at (place_cmp (m, p.1)) p) (same_key nat_cmp_total exact_unsigned n p.0 is) ∙ at_itself place_total place_exact p);
    }
    by false is e later = let more = later e in record { id = more.id; has = or_right (is_at (place_cmp (n, more.id)) p) (has_place (n, more.id) ps) more.has }

face_of : (n id : ℕ) (ps : List Place) → has_place (n, id) ps ≡ true → has_face n ps ≡ true
face_of n id [] e = absurd (false≢true e)
face_of n id (p ∷ ps) e = by (is_at (place_cmp (n, id)) p) refl e (face_of n id ps)
  where
    by : (b : Bool) → is_at (place_cmp (n, id)) p ≡ b → (b || has_place (n, id) ps) ≡ true → (has_place (n, id) ps ≡ true → has_face n ps ≡ true) → (is_at (nat_cmp n) p.0 || has_face n ps) ≡ true
    by true is e later =
        let same : (n, id) ≡ p = same_key place_total place_exact (n, id) p is in
        or_left (is_at (nat_cmp n) p.0) (has_face n ps) (ap (λ (r : Place). is_at (nat_cmp n) r.0) (sym same) ∙ at_itself nat_cmp_total exact_unsigned n)
    by false is e later = or_right (is_at (nat_cmp n) p.0) (has_face n ps) (later e)

-- ---- under keys that meet the key
module _ (key : Text) (p : Place) where
  record Under (es : Keyed) : Type 0 where
    text : Text
    under : is_under text p es ≡ true
    met : intersects text key ≡ true

  record Met (e : Text × List Place) : Type 0 where
    has : has_place p e.1 ≡ true
    met : intersects e.0 key ≡ true

  met_by : (e : Text × List Place) → has_place p (met_at key e) ≡ true → Met e
  met_by e h = by (intersects e.0 key) refl h
    where
      by : (b : Bool) → intersects e.0 key ≡ b → has_place p (cond b e.1 []) ≡ true → Met e
      by true is h = record { has = h; met = is }
      by false is h = absurd (false≢true h)

  pub first_under : (e : Text × List Place) (es : Keyed) → has_place p e.1 ≡ true → is_under e.0 p (e ∷ es) ≡ true
  first_under e es h = ap (λ b. has_place p (option_map_or (λ (ps : List Place). ps) (cond b (Some e.1) (at_text e.0 es)) [])) (at_itself text_total text_exact e.0) ∙ h

  pub later_under : (t : Text) (e : Text × List Place) (es : Keyed) → AllByRecursion (λ y. text_cmp e.0 y ≡ Less) (keys_of es) → is_under t p es ≡ true → is_under t p (e ∷ es) ≡ true
  later_under t e es above h = by (is_at (text_cmp t) e.0) refl
    where
      by : (b : Bool) → is_at (text_cmp t) e.0 ≡ b → has_place p (option_map_or (λ (ps : List Place). ps) (cond b (Some e.1) (at_text t es)) []) ≡ true
      by true is =
          let none : at_text t es ≡ None = ap (λ k. at_text k es) (same_key text_total text_exact t e.0 is) ∙ none_above text_total text_exact e.0 es above in
          absurd (false≢true (sym (ap (λ o. has_place p (option_map_or (λ (ps : List Place). ps) o [])) none) ∙ h))
      by false is = h

  in_flat : (es : Keyed) → IsStrictlySortedBy text_cmp (keys_of es) → has_place p (flat_map (met_at key) es) ≡ true → Under es
  in_flat [] s h = absurd (false≢true h)
  in_flat (e ∷ es) s h = by (has_place p (met_at key e)) refl (sym (any_joined (is_at (place_cmp p)) (met_at key e) (flat_map (met_at key) es)) ∙ h) (in_flat es (sorted_tail text_cmp e.0 (keys_of es) s))
    where
      by : (b : Bool) → has_place p (met_at key e) ≡ b → (b || has_place p (flat_map (met_at key) es)) ≡ true → (has_place p (flat_map (met_at key) es) ≡ true → Under es) → Under (e ∷ es)
      by true is h later = let m = met_by e is in record { text = e.0; under = first_under e es m.has; met = m.met }
      by false is h later = let u = later h in record { text = u.text; under = later_under u.text e es (sorted_head text_cmp e.0 (keys_of es) s) u.under; met = u.met }

  into_flat : (t : Text) (es : Keyed) → is_under t p es ≡ true → intersects t key ≡ true → has_place p (flat_map (met_at key) es) ≡ true
  into_flat t [] h met = absurd (false≢true h)
  into_flat t (e ∷ es) h met = any_joined (is_at (place_cmp p)) (met_at key e) (flat_map (met_at key) es) ∙ by (is_at (text_cmp t) e.0) refl h (λ u. into_flat t es u met)
    where
      by : (b : Bool) → is_at (text_cmp t) e.0 ≡ b → has_place p (option_map_or (λ (ps : List Place). ps) (cond b (Some e.1) (at_text t es)) []) ≡ true → (is_under t p es ≡ true → has_place p (flat_map (met_at key) es) ≡ true)
          → (has_place p (met_at key e) || has_place p (flat_map (met_at key) es)) ≡ true
      by true is h later =
          let meets_here : intersects e.0 key ≡ true = ap (λ k. intersects k key) (sym (same_key text_total text_exact t e.0 is)) ∙ met in
          or_left (has_place p (met_at key e)) (has_place p (flat_map (met_at key) es)) (ap (λ b. has_place p (cond b e.1 [])) meets_here ∙ h)
      by false is h later = or_right (has_place p (met_at key e)) (has_place p (flat_map (met_at key) es)) (later h)

  module _ (s : Shelf) where
    -- it is kept under something that meets the key
    record Kept : Type 0 where
      asked : Option Text
      kept : is_kept asked p s ≡ true
      met : meets asked key ≡ true

    in_met : IsStrictlySortedBy text_cmp (keys_of s.keyed) → has_place p (met_places key s) ≡ true → Kept
    in_met sorted h = by (has_place p s.all) refl (sym (any_joined (is_at (place_cmp p)) s.all (flat_map (met_at key) s.keyed)) ∙ h)
      where
        by : (b : Bool) → has_place p s.all ≡ b → (b || has_place p (flat_map (met_at key) s.keyed)) ≡ true → Kept
        by true is h = record { asked = None; kept = is; met = refl }
        by false is h = let u = in_flat s.keyed sorted h in record { asked = Some u.text; kept = u.under; met = u.met }

    into_met : (asked : Option Text) → is_kept asked p s ≡ true → meets asked key ≡ true → has_place p (met_places key s) ≡ true
    into_met None kept met = any_joined (is_at (place_cmp p)) s.all (flat_map (met_at key) s.keyed) ∙ or_left (has_place p s.all) (has_place p (flat_map (met_at key) s.keyed)) kept
    into_met (Some t) kept met = any_joined (is_at (place_cmp p)) s.all (flat_map (met_at key) s.keyed) ∙ or_right (has_place p s.all) (has_place p (flat_map (met_at key) s.keyed)) (into_flat t s.keyed kept met)

-- ---- interests that ask for the key
module _ (key : Text) where
  any_at : (id : ℕ) (i : InterestEntry) (es : Asked) → at id es ≡ Some i → meets i.key key ≡ true → list_any (is_met key) es ≡ true
  any_at id i [] is met = cc
  any_at id i (e ∷ es) is met = by (is_at (nat_cmp id) e.0) is (λ more. any_at id i es more met)
    where
      by : (b : Bool) → cond b (Some e.1) (at id es) ≡ Some i → (at id es ≡ Some i → list_any (is_met key) es ≡ true) → (is_met key e || list_any (is_met key) es) ≡ true
      by true is later = or_left (is_met key e) (list_any (is_met key) es) (ap (λ (o : Option InterestEntry). option_map_or (λ (j : InterestEntry). meets j.key key) o false) is ∙ met)
      by false is later = or_right (is_met key e) (list_any (is_met key) es) (later is)

  record Wanting (es : Asked) : Type 0 where
    id : ℕ
    interest : InterestEntry
    there : at id es ≡ Some interest
    met : meets interest.key key ≡ true

  any_found : (es : Asked) → IsStrictlySortedBy nat_cmp (keys_of es) → list_any (is_met key) es ≡ true → Wanting es
  any_found [] s h = absurd (false≢true h)
  any_found (e ∷ es) s h = by (is_met key e) refl h (any_found es (sorted_tail nat_cmp e.0 (keys_of es) s))
    where
      by : (b : Bool) → is_met key e ≡ b → (b || list_any (is_met key) es) ≡ true → (list_any (is_met key) es ≡ true → Wanting es) → Wanting (e ∷ es)
      by true is h later = record { id = e.0; interest = e.1; there = ap (λ b. cond b (Some e.1) (at e.0 es)) (at_itself nat_cmp_total exact_unsigned e.0); met = is }
      by false is h later =
          let w = later h in
          record { id = w.id; interest = w.interest; there = found_later nat_cmp_total exact_unsigned w.id e es w.interest (sorted_head nat_cmp e.0 (keys_of es) s) w.there; met = w.met }

-- ---- faces that pass a test
module _ (test : ℕ × Asked → Bool) where
  all_left : (P : ℕ → Type 0) (es : Interests) → AllByRecursion P (keys_of es) → AllByRecursion P (keys_of (filter test es))
  all_left P [] all = tt
  all_left P (e ∷ es) all = by (test e) (all_left P es all.1)
    where
      by : (b : Bool) → AllByRecursion P (keys_of (filter test es)) → AllByRecursion P (keys_of (cond b (e ∷ filter test es) (filter test es)))
      by true rest = (all.0, rest)
      by false rest = rest

  front_by : (e : ℕ × Asked) (es : Interests) (b : Bool) → AllByRecursion (λ m. nat_cmp e.0 m ≡ Less) (keys_of (filter test es)) → IsStrictlySortedBy nat_cmp (keys_of (filter test es)) → IsStrictlySortedBy nat_cmp (keys_of (cond b (e ∷ filter test es) (filter test es)))
  unfolding IsStrictlySortedBy
  front_by e es true all s = (all, s)
  front_by e es false all s = s

  sorted_left : (es : Interests) → IsStrictlySortedBy nat_cmp (keys_of es) → IsStrictlySortedBy nat_cmp (keys_of (filter test es))
  sorted_left [] s = s
  sorted_left (e ∷ es) s = front_by e es (test e) (all_left (λ m. nat_cmp e.0 m ≡ Less) es (sorted_head nat_cmp e.0 (keys_of es) s)) (sorted_left es (sorted_tail nat_cmp e.0 (keys_of es) s))

  module _ (n : ℕ) where
    record Passes (es : Interests) : Type 0 where
      own : Asked
      there : at n es ≡ Some own
      passes : test (n, own) ≡ true

    passing : (es : Interests) → IsStrictlySortedBy nat_cmp (keys_of es) → has_number n (keys_of (filter test es)) ≡ true → Passes es
    passing [] s h = absurd (false≢true h)
    passing (e ∷ es) s h = by (test e) refl (is_at (nat_cmp n) e.0) refl h (passing es (sorted_tail nat_cmp e.0 (keys_of es) s))
      where
        first : test e ≡ true → is_at (nat_cmp n) e.0 ≡ true → Passes (e ∷ es)
        first t is = record {
          own = e.1;
          there = ap (λ b. cond b (Some e.1) (at n es)) is;
          passes = ap (λ m. test (m, e.1)) (same_key nat_cmp_total exact_unsigned n e.0 is) ∙ t;
        }

        below : Passes es → Passes (e ∷ es)
        below m = record { own = m.own; there = found_later nat_cmp_total exact_unsigned n e es m.own (sorted_head nat_cmp e.0 (keys_of es) s) m.there; passes = m.passes }

        by : (t : Bool) → test e ≡ t → (b : Bool) → is_at (nat_cmp n) e.0 ≡ b → has_number n (keys_of (cond t (e ∷ filter test es) (filter test es))) ≡ true → (has_number n (keys_of (filter test es)) ≡ true → Passes es) → Passes (e ∷ es)
        by true t true is h later = first t is
        by true t false is h later = below (later (sym (ap (λ b. b || has_number n (keys_of (filter test es))) is) ∙ h))
        by false t b is h later = below (later h)

    passed : (es : Interests) (own : Asked) → at n es ≡ Some own → test (n, own) ≡ true → has_number n (keys_of (filter test es)) ≡ true
    passed [] own is t = cc
    passed (e ∷ es) own is t = by (is_at (nat_cmp n) e.0) refl is (λ more. passed es own more t)
      where
        some_same : (x y : Asked) → Some x ≡ Some y → x ≡ y
        some_same x y e = cc

        over : (b : Bool) → has_number n (keys_of (filter test es)) ≡ true → has_number n (keys_of (cond b (e ∷ filter test es) (filter test es))) ≡ true
        over true h = or_right (is_at (nat_cmp n) e.0) (has_number n (keys_of (filter test es))) h
        over false h = h

        by : (b : Bool) → is_at (nat_cmp n) e.0 ≡ b → cond b (Some e.1) (at n es) ≡ Some own → (at n es ≡ Some own → has_number n (keys_of (filter test es)) ≡ true) → has_number n (keys_of (cond (test e) (e ∷ filter test es) (filter test es))) ≡ true
        by true here is later =
            let it : test e ≡ true = (λ i. test (sym (same_key nat_cmp_total exact_unsigned n e.0 here) i, some_same e.1 own is i)) ∙ t in
            ap (λ b. has_number n (keys_of (cond b (e ∷ filter test es) (filter test es)))) it ∙ or_left (is_at (nat_cmp n) e.0) (has_number n (keys_of (filter test es))) here
        by false here is later = over (test e) (later is)

listed_so : (es : Interests) → map numbered (keys_of es) ≡ map (λ (f : ℕ × Asked). record { 0 = f.0 }) es
listed_so [] = refl
listed_so (e ∷ es) = ap (λ l. numbered e.0 ∷ l) (listed_so es)

-- ---- those who are found are those who ask
module _ (ints : Interests) (shelf : Shelf) (kept : AreKept ints shelf) (key : Text) (texts : IsStrictlySortedBy text_cmp (keys_of shelf.keyed)) where
  some_just : (asked : Option Text) (n id : ℕ) → asks_just asked (interest_at n id ints) ≡ true → meets asked key ≡ true → has_number n (keys_of (filter (is_asker key) ints)) ≡ true
  some_just asked n id just met = by (at n ints) refl just
    where
      own : (es : Asked) → at n ints ≡ Some es → (o : Option InterestEntry) → at id es ≡ o → asks_just asked o ≡ true → has_number n (keys_of (filter (is_asker key) ints)) ≡ true
      own es there None is just = absurd (false≢true just)
      own es there (Some i) is just = passed (is_asker key) n ints es there (any_at key id i es is (ap (λ a. meets a key) (same_is i.key asked just) ∙ met))

      by : (o : Option Asked) → at n ints ≡ o → asks_just asked (at id (option_map_or (λ (es : Asked). es) o [])) ≡ true → has_number n (keys_of (filter (is_asker key) ints)) ≡ true
      by None is just = absurd (false≢true just)
      by (Some es) is just = own es is (at id es) refl just

  forth : (n : ℕ) → has_number n (met_faces key shelf) ≡ true → has_number n (keys_of (filter (is_asker key) ints)) ≡ true
  forth n h =
      let p = place_of n (met_places key shelf) (sym (in_fold n [] (met_places key shelf)) ∙ h) in
      let k = in_met key (n, p.id) shelf texts p.has in
      some_just k.asked n p.id (sym (kept.same k.asked (n, p.id)) ∙ k.kept) k.met

  back : (n : ℕ) → has_number n (keys_of (filter (is_asker key) ints)) ≡ true → has_number n (met_faces key shelf) ≡ true
  back n h =
      let a = passing (is_asker key) n ints kept.numbers h in
      let w = any_found key a.own (kept.ids n a.own a.there) a.passes in
      let stands : interest_at n w.id ints ≡ Some w.interest = ap (λ o. at w.id (option_map_or (λ (es : Asked). es) o [])) a.there ∙ w.there in
      let is : is_kept w.interest.key (n, w.id) shelf ≡ true = kept.same w.interest.key (n, w.id) ∙ ap (asks_just w.interest.key) stands ∙ same_itself w.interest.key in
      in_fold n [] (met_places key shelf) ∙ face_of n w.id (met_places key shelf) (into_met key (n, w.id) shelf w.interest.key is w.met)

  pub found_askers : map numbered (met_faces key shelf) ≡ askers key ints
  found_askers =
      ap (map numbered)
      (same_keys nat_cmp_total exact_unsigned (met_faces key shelf) (keys_of (filter (is_asker key) ints)) (sorted_fold [] (met_places key shelf) sorted_none) (sorted_left (is_asker key) ints kept.numbers)
      (λ n. both_ways (has_number n (met_faces key shelf)) (has_number n (keys_of (filter (is_asker key) ints))) (forth n) (back n)))
      ∙ listed_so (filter (is_asker key) ints)
