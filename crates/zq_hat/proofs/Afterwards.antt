-- What the faces, or all but one, would have declared on a key after a change, by the index as it is.
use Rattle.std.proofs.Common.{◌≡◌, ◌∙◌, sym, ap, subst, refl, ℕ, Bool, true, false, cond, List, [], ◌∷◌, Option, Some, None, true≢false, fold, eq-eqb, eqb-true}
use Rattle.std.specs.Prelude.{filter, not, ◌&&◌, ◌==◌}
use Rattle.std.specs.Option.{is_some, option_and_then, option_map_or}
use Rattle.std.specs.declared.cmp.Ordering.TheVariants.{Less}
use Rattle.std.specs.List.{AllByRecursion}
use Rattle.std.specs.List.Sorted.{IsStrictlySortedBy}
use Rattle.std.specs.Ordering.{is_eq, nat_cmp}
use Rattle.std.specs.Cmp.{nat_cmp_total}
use Rattle.std.specs.Map.{keys_of, remove_entry, set_value}
use Rattle.std.specs.BTreeMap.{insert_entry, is_at}
use Rattle.std.specs.Str.{bytes_eq}
use Rattle.std.proofs.lemmas.List.Kept.{IsStrictlySortedBy-filter}
use Rattle.std.proofs.lemmas.Map.Entries.{lookup-filter-keys}
use Rattle.std.proofs.lemmas.Map.Keys.{sorted_head, sorted_tail}
use Rattle.std.proofs.lemmas.Map.Lookups.{exact_unsigned}
use Rattle.zq_message.specs.declared.message.FaceId.{FaceId}
use Rattle.zq_message.specs.declared.message.QueryableInfoType.{QueryableInfoType}
use Rattle.zq_key.proofs.Lookups.{at_itself, differ, found_after_insertion, found_after_removal, same_entries, same_key}
use Rattle.zq_key.proofs.Sorted.{sorted_in, sorted_out, sorted_write}
use Rattle.zq_index.specs.Infos.{joined}
use Rattle.zq_index.specs.Holders.{Holdings, Index, Place, at_place, held_at, place_cmp, with_held}
use Rattle.zq_index.proofs.Merges.{merged_put}
use Rattle.zq_index.proofs.Orders.{place_exact, place_total, text_exact, text_total}
use Rattle.zq_strategy.specs.declared.network.Network.{Network}
use Rattle.zq_strategy.specs.Entries.{staying}
use Rattle.zq_strategy.specs.Nets.{is_listed}
use Rattle.zq_routers.proofs.Dropping.{keys_filtered}
use Rattle.zq_strategy.specs.declared.types.Declaration.{Declaration}
use Rattle.zq_strategy.specs.declared.merges.Leaving.{Leaving}
use Rattle.zq_strategy.specs.Merges.{is_left_in, is_other}
use Rattle.zq_strategy.specs.Fellows.{with_fellow}
use Rattle.zq_strategy.specs.Kept.{at_id, declaration, declare, faces_info, info, with_face, withdraw}
use Rattle.zq_strategy.specs.declared.types.Strategy.{Strategy}
use Rattle.zq_strategy.specs.declared.types.Strategy.TheVariants as strategy
use Rattle.zq_strategy.specs.Regions.{in_routers, strategy_at}
use Rattle.zq_strategy.specs.Routers.{networked}
use Rattle.zq_strategy.specs.State.{FaceState, HatState}
use Rattle.zq_hat.specs.Tied.{AreOrdered, IsTied, declared_at, held, info_on}
use Rattle.zq_hat.proofs.Held.{found_in_held, other_place, own_place, sorted_held}
use Rattle.zq_hat.proofs.Keeping.{declared', key_test, mixed, ordered', own', same_place'}
use Rattle.zq_hat.proofs.Reading.{held_is, region_is}

-- ---- the other faces are those that are left where one is left out
module _ (n : ℕ) (key : List ℕ) where
  same_number : (m : ℕ) (b : Bool) → is_at (nat_cmp n) m ≡ b → (m == n) ≡ b
  same_number m true e = eq-eqb m n (sym (same_key nat_cmp_total exact_unsigned n m e))
  same_number m false e = by (m == n) refl
    where
      by : (b : Bool) → (m == n) ≡ b → b ≡ false
      by true is = absurd (differ nat_cmp_total exact_unsigned n m e (sym (eqb-true m n is)))
      by false is = refl

  all_fellows : (m : Option QueryableInfoType) (fs : List (ℕ × FaceState)) → AllByRecursion (λ q. nat_cmp n q ≡ Less) (keys_of fs) → fold (with_fellow n key) m fs ≡ fold (with_face key) m fs
  all_fellows m [] all = refl
  all_fellows m (f ∷ fs) all =
      ap (λ b. fold (with_fellow n key) (cond b m (joined m (info key f.1))) fs) (same_number f.0 false (ap is_eq all.0))
      ∙ all_fellows (joined m (info key f.1)) fs all.1

  fellows_from : (m : Option QueryableInfoType) (fs : List (ℕ × FaceState)) → IsStrictlySortedBy nat_cmp (keys_of fs) → fold (with_fellow n key) m fs ≡ fold (with_face key) m (remove_entry (is_at (nat_cmp n)) fs)
  fellows_from m [] s = refl
  fellows_from m (f ∷ fs) s = by (is_at (nat_cmp n) f.0) refl (fellows_from (joined m (info key f.1)) fs (sorted_tail nat_cmp f.0 (keys_of fs) s))
    where
      by : (b : Bool) → is_at (nat_cmp n) f.0 ≡ b → fold (with_fellow n key) (joined m (info key f.1)) fs ≡ fold (with_face key) (joined m (info key f.1)) (remove_entry (is_at (nat_cmp n)) fs) → fold (with_fellow n key) m (f ∷ fs) ≡ fold (with_face key) m (cond b fs (f ∷ remove_entry (is_at (nat_cmp n)) fs))
      by true e ih =
          ap (λ b. fold (with_fellow n key) (cond b m (joined m (info key f.1))) fs) (same_number f.0 true e)
          ∙ all_fellows m fs (subst (λ q. AllByRecursion (λ z. nat_cmp q z ≡ Less) (keys_of fs)) (sym (same_key nat_cmp_total exact_unsigned n f.0 e)) (sorted_head nat_cmp f.0 (keys_of fs) s))
      by false e ih = ap (λ b. fold (with_fellow n key) (cond b m (joined m (info key f.1))) fs) (same_number f.0 false e) ∙ ih

-- the faces without one, if one is said
abbrev without_one : Option FaceId → List (ℕ × FaceState) → List (ℕ × FaceState)
without_one but faces = option_map_or (λ (f : FaceId). remove_entry (is_at (nat_cmp f.0)) faces) but faces

-- what faces, but one if it is said, declared
abbrev pub from_but : Option FaceId → List ℕ → List (ℕ × FaceState) → Option QueryableInfoType
from_but but key faces = option_map_or (λ (f : FaceId). fold (with_fellow f.0 key) None faces) but (faces_info key faces)

but_is : (but : Option FaceId) (key : List ℕ) (faces : List (ℕ × FaceState)) → IsStrictlySortedBy nat_cmp (keys_of faces) → faces_info key (without_one but faces) ≡ from_but but key faces
but_is None key faces s = refl
but_is (Some f) key faces s = sym (fellows_from f.0 key None faces s)

-- ---- one face, if one is said, is left out
module _ (key : List ℕ) (faces : List (ℕ × FaceState)) (numbers : IsStrictlySortedBy nat_cmp (keys_of faces)) (ids : AreOrdered faces) where
  module _ (n : ℕ) where
    abbrev rest : List (ℕ × FaceState)
    rest = remove_entry (is_at (nat_cmp n)) faces

    rest_by : (m : ℕ) (g : FaceState) (b : Bool) → cond b None (at_id m faces) ≡ Some g → IsStrictlySortedBy nat_cmp (keys_of g.declared)
    rest_by m g true is = absurd (let gap : None ≡ Some g = is in cc)
    rest_by m g false is = ids m g is

    rest_ids : AreOrdered rest
    rest_ids m g is = rest_by m g _ (sym (found_after_removal nat_cmp_total exact_unsigned n m faces numbers) ∙ is)

    without_by : (p : Place) (b : Bool) (o : Option FaceState) → option_and_then (λ g. option_and_then (info_on key) (declaration p.1 g)) (cond b None o) ≡ cond (not b) (option_and_then (λ g. option_and_then (info_on key) (declaration p.1 g)) o) None
    without_by p true o = refl
    without_by p false o = refl

    rest_at : (p : Place) → declared_at key p rest ≡ cond (not (is_at (nat_cmp n) p.0)) (declared_at key p faces) None
    rest_at p =
        ap (option_and_then (λ g. option_and_then (info_on key) (declaration p.1 g))) (found_after_removal nat_cmp_total exact_unsigned n p.0 faces numbers)
        ∙ without_by p (is_at (nat_cmp n) p.0) (at_id p.0 faces)

  one_numbers : (but : Option FaceId) → IsStrictlySortedBy nat_cmp (keys_of (without_one but faces))
  one_numbers None = numbers
  one_numbers (Some f) = sorted_out nat_cmp (is_at (nat_cmp f.0)) faces numbers

  one_ids : (but : Option FaceId) → AreOrdered (without_one but faces)
  one_ids None = ids
  one_ids (Some f) = rest_ids f.0

  one_at : (but : Option FaceId) (p : Place) → declared_at key p (without_one but faces) ≡ cond (is_other but p.0) (declared_at key p faces) None
  one_at None p = refl
  one_at (Some f) p = rest_at f.0 p

-- ---- a place is of a face and an id
same_spot : (n i : ℕ) (p : Place) → (is_at (nat_cmp n) p.0 && is_at (nat_cmp i) p.1) ≡ is_at (place_cmp (n, i)) p
same_spot n i p = by (is_at (nat_cmp n) p.0) refl
  where
    by : (b : Bool) → is_at (nat_cmp n) p.0 ≡ b → (b && is_at (nat_cmp i) p.1) ≡ is_at (place_cmp (n, i)) p
    by true e = sym (own_place n i p.1) ∙ ap (λ m. is_at (place_cmp (n, i)) (m, p.1)) (same_key nat_cmp_total exact_unsigned n p.0 e)
    by false e = sym (other_place n i p.0 p.1 e)

abbrev spot : ℕ → ℕ → Option Leaving
spot n i = Some (record { face = record { 0 = n }; id = Some i })

-- ---- what is left in by what is left out
all_in : {X : Type 0} (o : Bool) (d : Option X) → cond o d None ≡ cond (o && true) d None
all_in true d = refl
all_in false d = refl

face_out : {X : Type 0} (o b : Bool) (d : Option X) → cond o (cond (not b) d None) None ≡ cond (o && not (b && true)) d None
face_out true true d = refl
face_out true false d = refl
face_out false b d = refl

id_out : {X : Type 0} (o b : Bool) (d : Option X) → cond o (cond b None d) None ≡ cond (o && not b) d None
id_out true true d = refl
id_out true false d = refl
id_out false b d = refl

nothing_out : {X : Type 0} (o b : Bool) (d : Option X) → (b ≡ true → d ≡ None) → cond o d None ≡ cond (o && not b) d None
nothing_out true true d none = none refl
nothing_out true false d none = refl
nothing_out false b d none = refl

id_in : {X : Type 0} (o b : Bool) (w d : Option X) → (b ≡ true → o ≡ true) → cond o (cond b w d) None ≡ cond b w (cond (o && not b) d None)
id_in true true w d inside = refl
id_in true false w d inside = refl
id_in false true w d inside = absurd (true≢false (sym (inside refl)))
id_in false false w d inside = refl

own_out : {X : Type 0} (o b : Bool) (w d : Option X) → (b ≡ true → o ≡ false) → cond o (cond b w d) None ≡ cond (o && not b) d None
own_out true true w d outside = absurd (true≢false (outside refl))
own_out true false w d outside = refl
own_out false b w d outside = refl

out_itself : (o b : Bool) → b ≡ true → (o && not b) ≡ false
out_itself true b e = ap not e
out_itself false b e = refl

module _ (faces : List (ℕ × FaceState)) (index : Index) (t : IsTied faces index) (key : List ℕ) where
  -- ---- a test leaves some of the declarations in
  module _ (test : Place → Bool) where
    abbrev left : Holdings
    left = filter (λ h. test h.0) (held key faces)

    sorted_left : IsStrictlySortedBy place_cmp (keys_of left)
    sorted_left = subst (IsStrictlySortedBy place_cmp) (sym (keys_filtered test (held key faces))) (IsStrictlySortedBy-filter place_cmp test (keys_of (held key faces)) (sorted_held key faces t.numbers t.ids))

    found_left : (p : Place) → at_place p left ≡ cond (test p) (declared_at key p faces) None
    found_left p =
        lookup-filter-keys (is_at (place_cmp p)) test (test p) (λ k same. ap test (sym (same_key place_total place_exact p k same))) (held key faces)
        ∙ ap (λ o. cond (test p) o None) (found_in_held key p.0 p.1 faces t.numbers t.ids)

    none_there : (q : Place) → test q ≡ false → remove_entry (is_at (place_cmp q)) left ≡ left
    none_there q out =
        same_entries place_total place_exact (remove_entry (is_at (place_cmp q)) left) left (sorted_out place_cmp (is_at (place_cmp q)) left sorted_left) sorted_left
        (λ p. found_after_removal place_total place_exact q p left sorted_left ∙ by p (is_at (place_cmp q) p) refl)
      where
        by : (p : Place) (b : Bool) → is_at (place_cmp q) p ≡ b → cond b None (at_place p left) ≡ at_place p left
        by p true e =
            let here : q ≡ p = same_key place_total place_exact q p e in
            sym (ap (λ (r : Place). at_place r left) (sym here) ∙ found_left q ∙ ap (λ b. cond b (declared_at key q faces) None) out)
        by p false e = refl

    module _ (fs : List (ℕ × FaceState)) (numbers : IsStrictlySortedBy nat_cmp (keys_of fs)) (ids : AreOrdered fs) where
      -- the faces have what it leaves in
      kept : ((p : Place) → declared_at key p fs ≡ cond (test p) (declared_at key p faces) None) → fold with_held None (filter (λ h. test h.0) (held_at key index)) ≡ faces_info key fs
      kept same =
          ap (λ l. fold with_held None (filter (λ h. test h.0) l)) (held_is faces index t key)
          ∙ ap (fold with_held None)
          (same_entries place_total place_exact left (held key fs) sorted_left (sorted_held key fs numbers ids)
          (λ p. found_left p ∙ sym (found_in_held key p.0 p.1 fs numbers ids ∙ same p)))
          ∙ region_is key fs

      -- the faces have besides one that it leaves out
      put : (q : Place) (i : QueryableInfoType) → test q ≡ false → ((p : Place) → declared_at key p fs ≡ cond (is_at (place_cmp q) p) (Some i) (cond (test p) (declared_at key p faces) None))
          → joined (fold with_held None (filter (λ h. test h.0) (held_at key index))) (Some i) ≡ faces_info key fs
      put q i out same =
          ap (λ l. joined (fold with_held None (filter (λ h. test h.0) l)) (Some i)) (held_is faces index t key)
          ∙ ap (λ l. joined (fold with_held None l) (Some i)) (sym (none_there q out))
          ∙ sym (merged_put place_total q i left sorted_left)
          ∙ ap (fold with_held None)
          (same_entries place_total place_exact (insert_entry place_cmp left q i) (held key fs) (sorted_in place_total left q i sorted_left) (sorted_held key fs numbers ids)
          (λ p. found_after_insertion place_total place_exact q p i left ∙ ap (cond (is_at (place_cmp q) p) (Some i)) (found_left p) ∙ sym (found_in_held key p.0 p.1 fs numbers ids ∙ same p)))
          ∙ region_is key fs

  module _ (but : Option FaceId) where
    -- ---- nothing changes
    pub nothing_changed : fold with_held None (filter (λ h. is_left_in but None h.0) (held_at key index)) ≡ from_but but key faces
    nothing_changed =
        kept (is_left_in but None) (without_one but faces) (one_numbers key faces t.numbers t.ids but) (one_ids key faces t.numbers t.ids but)
        (λ p. one_at key faces t.numbers t.ids but p ∙ all_in (is_other but p.0) (declared_at key p faces))
        ∙ but_is but key faces t.numbers

    module _ (n : ℕ) where
      -- ---- a face goes
      pub face_left : fold with_held None (filter (λ h. is_left_in but (Some (record { face = record { 0 = n }; id = None })) h.0) (held_at key index)) ≡ from_but but key (remove_entry (is_at (nat_cmp n)) faces)
      face_left =
          let others = remove_entry (is_at (nat_cmp n)) faces in
          let numbers = sorted_out nat_cmp (is_at (nat_cmp n)) faces t.numbers in
          let ids = rest_ids key faces t.numbers t.ids n in
          kept (is_left_in but (Some (record { face = record { 0 = n }; id = None }))) (without_one but others) (one_numbers key others numbers ids but) (one_ids key others numbers ids but)
          (λ p. one_at key others numbers ids but p
          ∙ ap (λ d. cond (is_other but p.0) d None) (rest_at key faces t.numbers t.ids n p)
          ∙ face_out (is_other but p.0) (is_at (nat_cmp n) p.0) (declared_at key p faces))
          ∙ but_is but key others numbers

      module _ (i : ℕ) where
        abbrev stays : Place → Bool
        stays = is_left_in but (spot n i)

        same_stays : (p : Place) → stays p ≡ (is_other but p.0 && not (is_at (place_cmp (n, i)) p))
        same_stays p = ap (λ b. is_other but p.0 && not b) (same_spot n i p)

        -- ---- a face that is not there changes nothing
        module _ (none : at_id n faces ≡ None) where
          none_there_at : (p : Place) (b : Bool) → is_at (place_cmp (n, i)) p ≡ b → b ≡ true → declared_at key p faces ≡ None
          none_there_at p b e is =
              let here : (n, i) ≡ p = same_key place_total place_exact (n, i) p (e ∙ is) in
              ap (λ (r : Place). declared_at key r faces) (sym here) ∙ ap (option_and_then (λ g. option_and_then (info_on key) (declaration i g))) none

          not_there : fold with_held None (filter (λ h. stays h.0) (held_at key index)) ≡ from_but but key faces
          not_there =
              kept stays (without_one but faces) (one_numbers key faces t.numbers t.ids but) (one_ids key faces t.numbers t.ids but)
              (λ p. one_at key faces t.numbers t.ids but p
              ∙ nothing_out (is_other but p.0) (is_at (place_cmp (n, i)) p) (declared_at key p faces) (none_there_at p (is_at (place_cmp (n, i)) p) refl)
              ∙ ap (λ b. cond b (declared_at key p faces) None) (sym (same_stays p)))
              ∙ but_is but key faces t.numbers

        -- ---- one face's declaration of the id changes, and is then on the key or none
        module _ (f : FaceState) (at : at_id n faces ≡ Some f) (x : FaceState) (ordered : IsStrictlySortedBy nat_cmp (keys_of x.declared)) (w : Option QueryableInfoType) (v : Option Declaration)
            (now : (j : ℕ) → declaration j x ≡ cond (is_at (nat_cmp i) j) v (declaration j f)) (new : w ≡ option_and_then (info_on key) v) where
          abbrev after : List (ℕ × FaceState)
          after = set_value (is_at (nat_cmp n)) faces x

          numbers : IsStrictlySortedBy nat_cmp (keys_of after)
          numbers = sorted_write nat_cmp (is_at (nat_cmp n)) x faces t.numbers

          ids : AreOrdered after
          ids = ordered' faces index t n f at x ordered

          after_at : (p : Place) → declared_at key p after ≡ cond (is_at (place_cmp (n, i)) p) w (declared_at key p faces)
          after_at p =
              let c = is_at (nat_cmp n) p.0 in
              let s = declared_at key p faces in
              declared' faces index t n f at x key p
              ∙ ap (λ y. cond c (option_and_then (info_on key) y) s) (now p.1)
              ∙ sym (mixed key true c (is_at (nat_cmp i) p.1) (is_at (place_cmp (n, i)) p) s w v (declaration p.1 f) (own' faces index t n f at x key p) (same_place' faces index t n f at x i p) (other_place n i p.0 p.1) (λ e. new) (λ e. absurd (true≢false e)))

          one_after : (p : Place) → declared_at key p (without_one but after) ≡ cond (is_other but p.0) (cond (is_at (place_cmp (n, i)) p) w (declared_at key p faces)) None
          one_after p = one_at key after numbers ids but p ∙ ap (λ d. cond (is_other but p.0) d None) (after_at p)

          out_there : stays (n, i) ≡ false
          out_there = same_stays (n, i) ∙ out_itself (is_other but n) (is_at (place_cmp (n, i)) (n, i)) (at_itself place_total place_exact (n, i))

          same_other : (p : Place) → is_at (place_cmp (n, i)) p ≡ true → is_other but p.0 ≡ is_other but n
          same_other p e = ap (λ (q : Place). is_other but q.0) (sym (same_key place_total place_exact (n, i) p e))

          -- it is none
          taken : w ≡ None → fold with_held None (filter (λ h. stays h.0) (held_at key index)) ≡ from_but but key after
          taken is =
              kept stays (without_one but after) (one_numbers key after numbers ids but) (one_ids key after numbers ids but)
              (λ p. one_after p
              ∙ ap (λ y. cond (is_other but p.0) (cond (is_at (place_cmp (n, i)) p) y (declared_at key p faces)) None) is
              ∙ id_out (is_other but p.0) (is_at (place_cmp (n, i)) p) (declared_at key p faces)
              ∙ ap (λ b. cond b (declared_at key p faces) None) (sym (same_stays p)))
              ∙ but_is but key after numbers

          -- it is of the face that is left out
          unheard : is_other but n ≡ false → fold with_held None (filter (λ h. stays h.0) (held_at key index)) ≡ from_but but key after
          unheard own =
              kept stays (without_one but after) (one_numbers key after numbers ids but) (one_ids key after numbers ids but)
              (λ p. one_after p
              ∙ own_out (is_other but p.0) (is_at (place_cmp (n, i)) p) w (declared_at key p faces) (λ e. same_other p e ∙ own)
              ∙ ap (λ b. cond b (declared_at key p faces) None) (sym (same_stays p)))
              ∙ but_is but key after numbers

          -- it is on the key
          heard : (j : QueryableInfoType) → w ≡ Some j → is_other but n ≡ true → joined (fold with_held None (filter (λ h. stays h.0) (held_at key index))) (Some j) ≡ from_but but key after
          heard j is other =
              put stays (without_one but after) (one_numbers key after numbers ids but) (one_ids key after numbers ids but) (n, i) j out_there
              (λ p. one_after p
              ∙ ap (λ y. cond (is_other but p.0) (cond (is_at (place_cmp (n, i)) p) y (declared_at key p faces)) None) is
              ∙ id_in (is_other but p.0) (is_at (place_cmp (n, i)) p) (Some j) (declared_at key p faces) (λ e. same_other p e ∙ other)
              ∙ ap (λ b. cond (is_at (place_cmp (n, i)) p) (Some j) (cond b (declared_at key p faces) None)) (sym (same_stays p)))
              ∙ but_is but key after numbers

        -- ---- a declaration goes
        withdrawn_by : (o : Option FaceState) → at_id n faces ≡ o
            → fold with_held None (filter (λ h. stays h.0) (held_at key index)) ≡ from_but but key (option_map_or (λ f. set_value (is_at (nat_cmp n)) faces (withdraw i f)) o faces)
        withdrawn_by None is = not_there is
        withdrawn_by (Some f) is =
            taken f is (withdraw i f) (sorted_out nat_cmp (is_at (nat_cmp i)) f.declared (t.ids n f is)) None None (λ j. found_after_removal nat_cmp_total exact_unsigned i j f.declared (t.ids n f is)) refl refl

        pub withdrawn : fold with_held None (filter (λ h. stays h.0) (held_at key index)) ≡ from_but but key (option_map_or (λ f. set_value (is_at (nat_cmp n)) faces (withdraw i f)) (at_id n faces) faces)
        withdrawn = withdrawn_by (at_id n faces) refl

        -- ---- a declaration comes
        module _ (info : QueryableInfoType) where
          own_text : bytes_eq key key ≡ true
          own_text = sym (key_test key key) ∙ at_itself text_total text_exact key

          abbrev declared_in : Option FaceState → List (ℕ × FaceState)
          declared_in o = option_map_or (λ f. set_value (is_at (nat_cmp n)) faces (declare i key info f)) o faces

          with_by : (o : Option FaceState) → at_id n faces ≡ o → is_some o ≡ true → is_other but n ≡ true → joined (fold with_held None (filter (λ h. stays h.0) (held_at key index))) (Some info) ≡ from_but but key (declared_in o)
          with_by None is some other = absurd (true≢false (sym some))
          with_by (Some f) is some other =
              let d : Declaration = record { key = key; info = info } in
              heard f is (declare i key info f) (sorted_in nat_cmp_total f.declared i d (t.ids n f is)) (Some info) (Some d) (λ j. found_after_insertion nat_cmp_total exact_unsigned i j d f.declared)
              (sym (ap (λ b. cond b (Some info) None) own_text)) info refl other

          pub declared_with : is_some (at_id n faces) ≡ true → is_other but n ≡ true → joined (fold with_held None (filter (λ h. stays h.0) (held_at key index))) (Some info) ≡ from_but but key (declared_in (at_id n faces))
          declared_with some other = with_by (at_id n faces) refl some other

          aside_by : (o : Option FaceState) → at_id n faces ≡ o → (is_other but n && is_some o) ≡ false → fold with_held None (filter (λ h. stays h.0) (held_at key index)) ≡ from_but but key (declared_in o)
          aside_by None is aside = not_there is
          aside_by (Some f) is aside =
              let d : Declaration = record { key = key; info = info } in
              unheard f is (declare i key info f) (sorted_in nat_cmp_total f.declared i d (t.ids n f is)) (Some info) (Some d) (λ j. found_after_insertion nat_cmp_total exact_unsigned i j d f.declared)
              (sym (ap (λ b. cond b (Some info) None) own_text)) (sym (all_true (is_other but n)) ∙ aside)
            where
              all_true : (b : Bool) → (b && true) ≡ b
              all_true true = refl
              all_true false = refl

          pub declared_aside : (is_other but n && is_some (at_id n faces)) ≡ false → fold with_held None (filter (λ h. stays h.0) (held_at key index)) ≡ from_but but key (declared_in (at_id n faces))
          declared_aside aside = aside_by (at_id n faces) refl aside

-- a network keeps the faces
networked_by : (k : Strategy) (net : Network) (s : HatState) → (in_routers k (record s { network = net; entries = staying (is_listed net) s.entries }) s).faces ≡ s.faces
networked_by strategy.Broker net s = refl
networked_by strategy.Client net s = refl
networked_by strategy.Peer net s = refl
networked_by strategy.Router net s = refl

pub same_faces : (net : Network) (s : HatState) → (networked net s).faces ≡ s.faces
same_faces net s = networked_by (strategy_at s) net s
