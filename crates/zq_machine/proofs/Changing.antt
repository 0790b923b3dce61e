-- Entries of which one is changed, and a region's hat and a face's keys so changed: what look-ups find afterwards.
use Rattle.std.proofs.Common.{◌≡◌, ◌∙◌, refl, sym, ap, subst, ℕ, Bool, true, false, cond, eqb, List, Option, Some, None, ◌⊎◌, inl, inr, eqb-true}
use Rattle.std.specs.Option.{is_some, option_map, option_map_or}
use Rattle.std.specs.Ordering.{nat_cmp}
use Rattle.std.specs.List.Sorted.{IsStrictlySortedBy}
use Rattle.std.specs.Map.{keys_of, set_value}
use Rattle.std.specs.BTreeMap.{is_at}
use Rattle.std.proofs.lemmas.Bool.{eqb-false, false≢true}
use Rattle.std.proofs.lemmas.Cmp.{nat_cmp_total}
use Rattle.std.proofs.lemmas.Map.Lookups.{exact_unsigned}
use Rattle.std.proofs.lemmas.Option.{same_Some}
use Rattle.zq_message.specs.declared.message.Region.{Region}
use Rattle.zq_message.specs.Region.{region_index}
use Rattle.zq_message.specs.RegionMap.{value_at}
use Rattle.zq_strategy.specs.State.{FaceState, HatState}
use Rattle.zq_strategy.specs.Kept.{change_face, face_at, has_face}
use Rattle.zq_tables.specs.Naming.{FaceKeys, NamingState, change_naming, naming_at, put_naming}
use Rattle.zq_machine.specs.State.{at, is_region, hat_at, put_hat, change_hat}
use Rattle.zq_key.proofs.Lookups.{at_itself, differ, found_after_write, same_key}
use Rattle.zq_key.proofs.Sorted.{sorted_write}

-- ---- numbers that are one
pub one_number : (k q : ℕ) → is_at (nat_cmp k) q ≡ true → k ≡ q
one_number k q e = same_key nat_cmp_total exact_unsigned k q e

pub itself : (k : ℕ) → is_at (nat_cmp k) k ≡ true
itself k = at_itself nat_cmp_total exact_unsigned k

pub is_other : (k q : ℕ) → is_at (nat_cmp k) q ≡ false → k ≡ q → ⊥
is_other k q e = differ nat_cmp_total exact_unsigned k q e

pub number_test : (k q : ℕ) → is_at (nat_cmp k) q ≡ eqb k q
number_test k q = by (is_at (nat_cmp k) q) (eqb k q) refl refl
  where
    by : (a b : Bool) → is_at (nat_cmp k) q ≡ a → eqb k q ≡ b → a ≡ b
    by true true e h = refl
    by true false e h = absurd (eqb-false k q h (one_number k q e))
    by false true e h = absurd (is_other k q e (eqb-true k q h))
    by false false e h = refl

-- ---- one entry is changed, where it is there
module _ {X : Type 0} (k : ℕ) (g : X → X) (es : List (ℕ × X)) where
  abbrev pub put_changed : Option X → List (ℕ × X)
  put_changed o = option_map_or (λ x. set_value (is_at (nat_cmp k)) es (g x)) o es

  abbrev pub changed : List (ℕ × X)
  changed = put_changed (at k es)

  found_by : (q : ℕ) (o : Option X) → at k es ≡ o → at q (put_changed o) ≡ cond (is_at (nat_cmp k) q) (option_map g o) (at q es)
  found_by q None e = by (is_at (nat_cmp k) q) refl
    where
      by : (b : Bool) → is_at (nat_cmp k) q ≡ b → at q es ≡ cond b None (at q es)
      by true is = ap (λ n. at n es) (sym (one_number k q is)) ∙ e
      by false is = refl
  found_by q (Some x) e = found_after_write nat_cmp_total exact_unsigned k q (g x) es (ap is_some e)

  pub found : (q : ℕ) → at q changed ≡ cond (is_at (nat_cmp k) q) (option_map g (at k es)) (at q es)
  found q = found_by q (at k es) refl

  pub found_other : (q : ℕ) → is_at (nat_cmp k) q ≡ false → at q changed ≡ at q es
  found_other q is = found q ∙ ap (λ b. cond b (option_map g (at k es)) (at q es)) is

  pub found_here : (q : ℕ) → is_at (nat_cmp k) q ≡ true → at q changed ≡ option_map g (at q es)
  found_here q is = found q ∙ ap (λ b. cond b (option_map g (at k es)) (at q es)) is ∙ ap (λ n. option_map g (at n es)) (one_number k q is)

  some_by : (o : Option X) → is_some (option_map g o) ≡ is_some o
  some_by None = refl
  some_by (Some x) = refl

  pub there : (q : ℕ) → is_some (at q changed) ≡ is_some (at q es)
  there q = by (is_at (nat_cmp k) q) refl
    where
      by : (b : Bool) → is_at (nat_cmp k) q ≡ b → is_some (at q changed) ≡ is_some (at q es)
      by true is = ap is_some (found_here q is) ∙ some_by (at q es)
      by false is = ap is_some (found_other q is)

  sorted_by : (o : Option X) → IsStrictlySortedBy nat_cmp (keys_of es) → IsStrictlySortedBy nat_cmp (keys_of (put_changed o))
  sorted_by None s = s
  sorted_by (Some x) s = sorted_write nat_cmp (is_at (nat_cmp k)) (g x) es s

  pub sorted_changed : IsStrictlySortedBy nat_cmp (keys_of es) → IsStrictlySortedBy nat_cmp (keys_of changed)
  sorted_changed s = sorted_by (at k es) s

-- ---- the keys of a face are changed
pub naming_changed : (face : ℕ) (g : FaceKeys → FaceKeys) (s : NamingState) → change_naming face g s ≡ record s { faces = changed face g s.faces }
naming_changed face g s = by (naming_at face s)
  where
    by : (o : Option FaceKeys) → put_naming face g s o ≡ record s { faces = option_map_or (λ x. set_value (is_at (nat_cmp face)) s.faces (g x)) o s.faces }
    by None = refl
    by (Some n) = refl

-- ---- a hat is changed
pub region_there : (r : Region) (hats : List (ℕ × HatState)) (h : HatState) → hat_at r hats ≡ Some h → (is_region r ≡ true) × (at (region_index r) hats ≡ Some h)
region_there r hats h e = by (is_region r) refl e
  where
    by : (b : Bool) → is_region r ≡ b → cond b (value_at hats r) None ≡ Some h → (is_region r ≡ true) × (at (region_index r) hats ≡ Some h)
    by true is f = (is, f)
    by false is f = absurd (let gap : None ≡ Some h = f in cc)

pub hat_found : (r : Region) (hats : List (ℕ × HatState)) (o : Option HatState) → is_region r ≡ true → at (region_index r) hats ≡ o → hat_at r hats ≡ o
hat_found r hats o is e = ap (λ b. cond b (value_at hats r) None) is ∙ e

module _ (home : Region) (first : HatState) (g : HatState → HatState) (hats : List (ℕ × HatState)) (here : hat_at home hats ≡ Some first) where
  abbrev at_home : Region → Bool
  at_home r = is_at (nat_cmp (region_index home)) (region_index r)

  hat_changed : change_hat home g hats ≡ changed (region_index home) g hats
  hat_changed =
      ap (put_hat home g hats) here
      ∙ ap (λ (o : Option HatState). option_map_or (λ x. set_value (is_at (nat_cmp (region_index home))) hats (g x)) o hats) (sym (region_there home hats first here).1)

  after_change : (r : Region) (h : HatState) → hat_at r (change_hat home g hats) ≡ Some h → (is_region r ≡ true) × (at (region_index r) (changed (region_index home) g hats) ≡ Some h)
  after_change r h e =
      let t = region_there r (change_hat home g hats) h e in
      (t.0, ap (λ l. at (region_index r) l) (sym hat_changed) ∙ t.1)

  -- what holds of the changed hat, and of the others as they were, holds of each hat afterwards
  pub each_hat : (P : HatState → Type 0) (r : Region) (h : HatState) → hat_at r (change_hat home g hats) ≡ Some h
      → (at_home r ≡ true → hat_at r hats ≡ Some first → P (g first))
      → (at_home r ≡ false → hat_at r hats ≡ Some h → P h)
      → P h
  each_hat P r h e mine other = by (at_home r) refl
    where
      t : (is_region r ≡ true) × (at (region_index r) (changed (region_index home) g hats) ≡ Some h)
      t = after_change r h e

      by : (b : Bool) → at_home r ≡ b → P h
      by true is =
          let was : at (region_index r) hats ≡ Some first = ap (λ n. at n hats) (sym (one_number (region_index home) (region_index r) is)) ∙ (region_there home hats first here).1 in
          let now : Some (g first) ≡ Some h = ap (option_map g) (sym was) ∙ sym (found_here (region_index home) g hats (region_index r) is) ∙ t.1 in
          subst P (same_Some _ _ now) (mine is (hat_found r hats (Some first) t.0 was))
      by false is = other is (hat_found r hats (Some h) t.0 (sym (found_other (region_index home) g hats (region_index r) is) ∙ t.1))

  -- the changed hat is found
  pub hat_here : hat_at home (change_hat home g hats) ≡ Some (g first)
  hat_here =
      let t = region_there home hats first here in
      hat_found home (change_hat home g hats) (Some (g first)) t.0
      (ap (λ l. at (region_index home) l) hat_changed ∙ found_here (region_index home) g hats (region_index home) (itself (region_index home)) ∙ ap (option_map g) t.1)

  -- the hat of a region is as it was, or it is the changed one
  pub hat_either : (r : Region) → (hat_at r (change_hat home g hats) ≡ hat_at r hats) ⊎ ((hat_at r hats ≡ Some first) × (hat_at r (change_hat home g hats) ≡ Some (g first)))
  hat_either r = by (is_region r) refl (at_home r) refl
    where
      now : at (region_index r) (change_hat home g hats) ≡ at (region_index r) (changed (region_index home) g hats)
      now = ap (λ l. at (region_index r) l) hat_changed

      by : (b : Bool) → is_region r ≡ b → (c : Bool) → at_home r ≡ c → (hat_at r (change_hat home g hats) ≡ hat_at r hats) ⊎ ((hat_at r hats ≡ Some first) × (hat_at r (change_hat home g hats) ≡ Some (g first)))
      by false none c e = inl (ap (λ b. cond b (value_at (change_hat home g hats) r) None) none ∙ sym (ap (λ b. cond b (value_at hats r) None) none))
      by true is true e =
          let was : at (region_index r) hats ≡ Some first = ap (λ n. at n hats) (sym (one_number (region_index home) (region_index r) e)) ∙ (region_there home hats first here).1 in
          inr (hat_found r hats (Some first) is was, hat_found r (change_hat home g hats) (Some (g first)) is (now ∙ found_here (region_index home) g hats (region_index r) e ∙ ap (option_map g) was))
      by true is false e =
          inl (hat_found r (change_hat home g hats) (at (region_index r) hats) is (now ∙ found_other (region_index home) g hats (region_index r) e) ∙ sym (hat_found r hats (at (region_index r) hats) is refl))

  -- a region keeps its hat
  pub hat_stays : (r : Region) → is_some (hat_at r hats) ≡ true → is_some (hat_at r (change_hat home g hats)) ≡ true
  hat_stays r e = by (is_region r) refl e
    where
      by : (b : Bool) → is_region r ≡ b → is_some (cond b (value_at hats r) None) ≡ true → is_some (hat_at r (change_hat home g hats)) ≡ true
      by true is f =
          ap (λ b. is_some (cond b (value_at (change_hat home g hats) r) None)) is
          ∙ ap (λ l. is_some (at (region_index r) l)) hat_changed
          ∙ there (region_index home) g hats (region_index r)
          ∙ f
      by false is f = absurd (false≢true f)

-- ---- a face of a hat is changed
module _ (face : ℕ) (k : FaceState → FaceState) (h : HatState) where
  pub face_here : (q : ℕ) → is_at (nat_cmp face) q ≡ true → face_at q (change_face face k h) ≡ option_map k (face_at q h)
  face_here q is = found_here face k h.faces q is

  pub face_other : (q : ℕ) → is_at (nat_cmp face) q ≡ false → face_at q (change_face face k h) ≡ face_at q h
  face_other q is = found_other face k h.faces q is

  pub face_stays : (q : ℕ) → has_face q (change_face face k h) ≡ has_face q h
  face_stays q = there face k h.faces q

  pub faces_sorted : IsStrictlySortedBy nat_cmp (keys_of h.faces) → IsStrictlySortedBy nat_cmp (keys_of (change_face face k h).faces)
  faces_sorted s = sorted_changed face k h.faces s
