-- Open faces, hats and what stands for keys agree after a face came or went.
use Rattle.std.proofs.Common.{◌≡◌, ◌∙◌, refl, sym, ap, subst, ℕ, Bool, true, false, cond, eqb, List, Some, None}
use Rattle.std.specs.Option.{is_some, option_map_or}
use Rattle.std.specs.Ordering.{nat_cmp}
use Rattle.std.specs.List.Sorted.{IsStrictlySortedBy}
use Rattle.std.specs.Map.{keys_of, remove_entry}
use Rattle.std.specs.BTreeMap.{is_at, insert_entry}
use Rattle.std.proofs.lemmas.Bool.{false≢true}
use Rattle.std.proofs.lemmas.Cmp.{nat_cmp_total}
use Rattle.std.proofs.lemmas.Map.Lookups.{exact_unsigned}
use Rattle.std.proofs.lemmas.Option.{same_Some}
use Rattle.zq_message.specs.declared.message.Region.{Region}
use Rattle.zq_message.specs.Region.{region_index}
use Rattle.zq_strategy.specs.State.{FaceState, HatState}
use Rattle.zq_strategy.specs.Kept.{face_at, has_face, new_face, with_face_opened, without_face}
use Rattle.zq_tables.specs.Naming.{NamingState, closed_naming, face_queryables, naming_at, no_keys, opened_naming}
use Rattle.zq_machine.specs.declared.call.Opening.{Opening}
use Rattle.zq_machine.specs.declared.face.OpenFace.{OpenFace}
use Rattle.zq_machine.specs.Agreeing.{is_open_in, stands_in}
use Rattle.zq_machine.specs.Deciding.{opened, seat}
use Rattle.zq_machine.specs.State.{at, hat_at, change_hat, joined}
use Rattle.zq_machine.proofs.Agreeing.{Holds, Tied, keys_by, some_of}
use Rattle.zq_machine.proofs.Changing.{each_hat, hat_stays, itself, number_test, one_number}
use Rattle.zq_machine.proofs.Finals.{none_sorted}
use Rattle.zq_key.proofs.Lookups.{found_after_insertion, found_after_removal}
use Rattle.zq_key.proofs.Sorted.{sorted_in, sorted_out}

same_place : (home r : Region) (b : Bool) → is_at (nat_cmp (region_index home)) (region_index r) ≡ b → eqb (region_index home) (region_index r) ≡ b
same_place home r b e = sym (number_test (region_index home) (region_index r)) ∙ e

-- ---- a face of the next number is opened
module _ (faces : List (ℕ × OpenFace)) (hats : List (ℕ × HatState)) (names : NamingState) (t : Tied faces hats names) (n : ℕ) (o : Opening) (absent : at n faces ≡ None) (has : is_some (hat_at o.region hats) ≡ true) where
  pub home : (h : HatState) × (hat_at o.region hats ≡ Some h)
  home = some_of (hat_at o.region hats) has

  abbrev more_faces : List (ℕ × OpenFace)
  more_faces = insert_entry nat_cmp faces n (opened o)

  abbrev more_hats : List (ℕ × HatState)
  more_hats = change_hat o.region (joined (seat n o)) hats

  abbrev more_names : NamingState
  more_names = opened_naming n names

  abbrev new : FaceState
  new = new_face (seat n o) home.0.told_start

  away : has_face n home.0 ≡ false
  away = t.seats o.region home.0 n home.1 ∙ ap (λ x. option_map_or (stands_in o.region) x false) absent

  joined_faces : (joined (seat n o) home.0).faces ≡ insert_entry nat_cmp home.0.faces n new
  joined_faces = ap (λ b. (cond b home.0 (with_face_opened (seat n o) home.0)).faces) away

  pub in_hat : (q : ℕ) → face_at q (joined (seat n o) home.0) ≡ cond (is_at (nat_cmp n) q) (Some new) (face_at q home.0)
  in_hat q = ap (at q) joined_faces ∙ found_after_insertion nat_cmp_total exact_unsigned n q new home.0.faces

  pub in_faces : (q : ℕ) → at q more_faces ≡ cond (is_at (nat_cmp n) q) (Some (opened o)) (at q faces)
  in_faces q = found_after_insertion nat_cmp_total exact_unsigned n q (opened o) faces

  pub in_names : (q : ℕ) → naming_at q more_names ≡ cond (is_at (nat_cmp n) q) (Some no_keys) (naming_at q names)
  in_names q = found_after_insertion nat_cmp_total exact_unsigned n q no_keys names.faces

  each : (P : HatState → Type 0) (r : Region) (h : HatState) → hat_at r more_hats ≡ Some h
      → (is_at (nat_cmp (region_index o.region)) (region_index r) ≡ true → hat_at r hats ≡ Some home.0 → P (joined (seat n o) home.0))
      → (is_at (nat_cmp (region_index o.region)) (region_index r) ≡ false → hat_at r hats ≡ Some h → P h)
      → P h
  each = each_hat o.region home.0 (joined (seat n o)) hats home.1

  -- the hat of its region has it
  seated : (r : Region) (q : ℕ) → is_at (nat_cmp (region_index o.region)) (region_index r) ≡ true → hat_at r hats ≡ Some home.0 → has_face q (joined (seat n o) home.0) ≡ is_open_in r q more_faces
  seated r q b old = ap is_some (in_hat q) ∙ by (is_at (nat_cmp n) q) ∙ sym (ap (λ x. option_map_or (stands_in r) x false) (in_faces q))
    where
      by : (c : Bool) → is_some (cond c (Some new) (face_at q home.0)) ≡ option_map_or (stands_in r) (cond c (Some (opened o)) (at q faces)) false
      by true = sym (same_place o.region r true b)
      by false = t.seats r home.0 q old

  -- no other has it
  unseated : (r : Region) (h : HatState) (q : ℕ) → is_at (nat_cmp (region_index o.region)) (region_index r) ≡ false → hat_at r hats ≡ Some h → has_face q h ≡ is_open_in r q more_faces
  unseated r h q b old = t.seats r h q old ∙ by (is_at (nat_cmp n) q) refl ∙ sym (ap (λ x. option_map_or (stands_in r) x false) (in_faces q))
    where
      by : (c : Bool) → is_at (nat_cmp n) q ≡ c → is_open_in r q faces ≡ option_map_or (stands_in r) (cond c (Some (opened o)) (at q faces)) false
      by true e = ap (λ x. option_map_or (stands_in r) x false) (ap (λ m. at m faces) (sym (one_number n q e)) ∙ absent) ∙ sym (same_place o.region r false b)
      by false e = refl

  still_home : (r : Region) → is_some (hat_at r hats) ≡ true → is_some (hat_at r more_hats) ≡ true
  still_home = hat_stays o.region home.0 (joined (seat n o)) hats home.1

  has_home : (q : ℕ) (p : OpenFace) → at q more_faces ≡ Some p → is_some (hat_at p.region more_hats) ≡ true
  has_home q p e = by (is_at (nat_cmp n) q) (sym (in_faces q) ∙ e)
    where
      by : (c : Bool) → cond c (Some (opened o)) (at q faces) ≡ Some p → is_some (hat_at p.region more_hats) ≡ true
      by true g = subst (λ (x : OpenFace). is_some (hat_at x.region more_hats) ≡ true) (same_Some _ _ g) (still_home o.region has)
      by false g = still_home p.region (t.homes q p g)

  all_named : (q : ℕ) → is_some (naming_at q more_names) ≡ is_some (at q more_faces)
  all_named q = ap is_some (in_names q) ∙ by (is_at (nat_cmp n) q) ∙ sym (ap is_some (in_faces q))
    where
      by : (c : Bool) → is_some (cond c (Some no_keys) (naming_at q names)) ≡ is_some (cond c (Some (opened o)) (at q faces))
      by true = refl
      by false = t.named q

  -- it has declared nothing
  new_holds : (q : ℕ) (h : HatState) (f : FaceState) → is_at (nat_cmp n) q ≡ true → hat_at o.region more_hats ≡ Some h → face_at q h ≡ Some f → Holds (opened o) f (face_queryables q more_names)
  new_holds q h f e h_at = each (λ x. face_at q x ≡ Some f → Holds (opened o) f (face_queryables q more_names)) o.region h h_at
      (λ b old f_at. subst (λ x. Holds (opened o) x (face_queryables q more_names)) (same_Some _ _ (sym (in_hat q ∙ ap (λ c. cond c (Some new) (face_at q home.0)) e) ∙ f_at)) fresh)
      (λ b old f_at. absurd (false≢true (sym b ∙ itself (region_index o.region))))
    where
      fresh : Holds (opened o) new (face_queryables q more_names)
      fresh = subst (Holds (opened o) new) (sym (ap keys_by (in_names q ∙ ap (λ c. cond c (Some no_keys) (naming_at q names)) e))) (record { copy = record { zid = refl; mode = refl; remote_bound = refl }; same = refl; sorted = none_sorted })

  old_holds : (q : ℕ) (p : OpenFace) (h : HatState) (f : FaceState) → is_at (nat_cmp n) q ≡ false → at q faces ≡ Some p → hat_at p.region more_hats ≡ Some h → face_at q h ≡ Some f → Holds p f (face_queryables q more_names)
  old_holds q p h f e q_at h_at = each (λ x. face_at q x ≡ Some f → Holds p f (face_queryables q more_names)) p.region h h_at
      (λ b old f_at. as_before home.0 old (sym (in_hat q ∙ ap (λ c. cond c (Some new) (face_at q home.0)) e) ∙ f_at))
      (λ b old f_at. as_before h old f_at)
    where
      as_before : (x : HatState) → hat_at p.region hats ≡ Some x → face_at q x ≡ Some f → Holds p f (face_queryables q more_names)
      as_before x x_at f_at = subst (Holds p f) (sym (ap keys_by (in_names q ∙ ap (λ c. cond c (Some no_keys) (naming_at q names)) e))) (t.held q p x f q_at x_at f_at)

  all_hold : (q : ℕ) (p : OpenFace) (h : HatState) (f : FaceState) → at q more_faces ≡ Some p → hat_at p.region more_hats ≡ Some h → face_at q h ≡ Some f → Holds p f (face_queryables q more_names)
  all_hold q p h f q_at h_at f_at = by (is_at (nat_cmp n) q) refl (sym (in_faces q) ∙ q_at)
    where
      by : (c : Bool) → is_at (nat_cmp n) q ≡ c → cond c (Some (opened o)) (at q faces) ≡ Some p → Holds p f (face_queryables q more_names)
      by true e g = subst (λ x. Holds x f (face_queryables q more_names)) (same_Some _ _ g) (new_holds q h f e (ap (λ (x : OpenFace). hat_at x.region more_hats) (same_Some _ _ g) ∙ h_at) f_at)
      by false e g = old_holds q p h f e g h_at f_at

  pub opened_tied : Tied more_faces more_hats more_names
  opened_tied = record {
    hats_sorted = λ r h e. each (λ x. IsStrictlySortedBy nat_cmp (keys_of x.faces)) r h e
        (λ b old. subst (λ (l : List (ℕ × FaceState)). IsStrictlySortedBy nat_cmp (keys_of l)) (sym joined_faces) (sorted_in nat_cmp_total home.0.faces n new (t.hats_sorted r home.0 old)))
        (λ b old. t.hats_sorted r h old);
    names_sorted = sorted_in nat_cmp_total names.faces n no_keys t.names_sorted;
    seats = λ r h q e. each (λ x. has_face q x ≡ is_open_in r q more_faces) r h e (λ b old. seated r q b old) (λ b old. unseated r h q b old);
    homes = λ q p e. has_home q p e;
    named = λ q. all_named q;
    held = λ q p h f q_at h_at f_at. all_hold q p h f q_at h_at f_at;
  }

-- ---- an open face is closed
module _ (faces : List (ℕ × OpenFace)) (hats : List (ℕ × HatState)) (names : NamingState) (t : Tied faces hats names) (sorted : IsStrictlySortedBy nat_cmp (keys_of faces)) (face : ℕ) (o : OpenFace) (seen : at face faces ≡ Some o) where
  pub own : (h : HatState) × (hat_at o.region hats ≡ Some h)
  own = some_of (hat_at o.region hats) (t.homes face o seen)

  abbrev test : ℕ → Bool
  test q = is_at (nat_cmp face) q

  abbrev less_faces : List (ℕ × OpenFace)
  less_faces = remove_entry (is_at (nat_cmp face)) faces

  abbrev less_hats : List (ℕ × HatState)
  less_hats = change_hat o.region (without_face face) hats

  abbrev less_names : NamingState
  less_names = closed_naming face names

  pub left_in_hat : (q : ℕ) → face_at q (without_face face own.0) ≡ cond (test q) None (face_at q own.0)
  left_in_hat q = found_after_removal nat_cmp_total exact_unsigned face q own.0.faces (t.hats_sorted o.region own.0 own.1)

  pub left_in_faces : (q : ℕ) → at q less_faces ≡ cond (test q) None (at q faces)
  left_in_faces q = found_after_removal nat_cmp_total exact_unsigned face q faces sorted

  pub left_in_names : (q : ℕ) → naming_at q less_names ≡ cond (test q) None (naming_at q names)
  left_in_names q = found_after_removal nat_cmp_total exact_unsigned face q names.faces t.names_sorted

  left_each : (P : HatState → Type 0) (r : Region) (h : HatState) → hat_at r less_hats ≡ Some h
      → (is_at (nat_cmp (region_index o.region)) (region_index r) ≡ true → hat_at r hats ≡ Some own.0 → P (without_face face own.0))
      → (is_at (nat_cmp (region_index o.region)) (region_index r) ≡ false → hat_at r hats ≡ Some h → P h)
      → P h
  left_each = each_hat o.region own.0 (without_face face) hats own.1

  left_seats : (r : Region) (q : ℕ) → hat_at r hats ≡ Some own.0 → has_face q (without_face face own.0) ≡ is_open_in r q less_faces
  left_seats r q old = ap is_some (left_in_hat q) ∙ by (test q) ∙ sym (ap (λ x. option_map_or (stands_in r) x false) (left_in_faces q))
    where
      by : (c : Bool) → is_some (cond c None (face_at q own.0)) ≡ option_map_or (stands_in r) (cond c None (at q faces)) false
      by true = refl
      by false = t.seats r own.0 q old

  other_seats : (r : Region) (h : HatState) (q : ℕ) → is_at (nat_cmp (region_index o.region)) (region_index r) ≡ false → hat_at r hats ≡ Some h → has_face q h ≡ is_open_in r q less_faces
  other_seats r h q b old = t.seats r h q old ∙ by (test q) refl ∙ sym (ap (λ x. option_map_or (stands_in r) x false) (left_in_faces q))
    where
      by : (c : Bool) → test q ≡ c → is_open_in r q faces ≡ option_map_or (stands_in r) (cond c None (at q faces)) false
      by true e = ap (λ x. option_map_or (stands_in r) x false) (ap (λ m. at m faces) (sym (one_number face q e)) ∙ seen) ∙ same_place o.region r false b
      by false e = refl

  left_home : (q : ℕ) (p : OpenFace) → at q less_faces ≡ Some p → is_some (hat_at p.region less_hats) ≡ true
  left_home q p e = by (test q) (sym (left_in_faces q) ∙ e)
    where
      by : (c : Bool) → cond c None (at q faces) ≡ Some p → is_some (hat_at p.region less_hats) ≡ true
      by true g = absurd (let gap : None ≡ Some p = g in cc)
      by false g = hat_stays o.region own.0 (without_face face) hats own.1 p.region (t.homes q p g)

  left_named : (q : ℕ) → is_some (naming_at q less_names) ≡ is_some (at q less_faces)
  left_named q = ap is_some (left_in_names q) ∙ by (test q) ∙ sym (ap is_some (left_in_faces q))
    where
      by : (c : Bool) → is_some (cond c None (naming_at q names)) ≡ is_some (cond c None (at q faces))
      by true = refl
      by false = t.named q

  left_hold : (q : ℕ) (p : OpenFace) (h : HatState) (f : FaceState) → at q less_faces ≡ Some p → hat_at p.region less_hats ≡ Some h → face_at q h ≡ Some f → Holds p f (face_queryables q less_names)
  left_hold q p h f q_at h_at f_at = by (test q) refl (sym (left_in_faces q) ∙ q_at)
    where
      as_before : (x : HatState) → test q ≡ false → at q faces ≡ Some p → hat_at p.region hats ≡ Some x → face_at q x ≡ Some f → Holds p f (face_queryables q less_names)
      as_before x e g x_at at_x = subst (Holds p f) (sym (ap keys_by (left_in_names q ∙ ap (λ c. cond c None (naming_at q names)) e))) (t.held q p x f g x_at at_x)

      by : (c : Bool) → test q ≡ c → cond c None (at q faces) ≡ Some p → Holds p f (face_queryables q less_names)
      by true e g = absurd (let gap : None ≡ Some p = g in cc)
      by false e g = left_each (λ x. face_at q x ≡ Some f → Holds p f (face_queryables q less_names)) p.region h h_at
          (λ b old at_x. as_before own.0 e g old (sym (left_in_hat q ∙ ap (λ c. cond c None (face_at q own.0)) e) ∙ at_x))
          (λ b old at_x. as_before h e g old at_x)
          f_at

  pub closed_tied : Tied less_faces less_hats less_names
  closed_tied = record {
    hats_sorted = λ r h e. left_each (λ x. IsStrictlySortedBy nat_cmp (keys_of x.faces)) r h e
        (λ b old. sorted_out nat_cmp (is_at (nat_cmp face)) own.0.faces (t.hats_sorted r own.0 old))
        (λ b old. t.hats_sorted r h old);
    names_sorted = sorted_out nat_cmp (is_at (nat_cmp face)) names.faces t.names_sorted;
    seats = λ r h q e. left_each (λ x. has_face q x ≡ is_open_in r q less_faces) r h e (λ b old. left_seats r q old) (λ b old. other_seats r h q b old);
    homes = λ q p e. left_home q p e;
    named = λ q. left_named q;
    held = λ q p h f q_at h_at f_at. left_hold q p h f q_at h_at f_at;
  }
