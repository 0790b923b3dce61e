-- What a gateway asks of a hat and changes in it moves with the hat's texts.
use Rattle.std.proofs.Common.{◌≡◌, ◌∙◌, refl, ap, ℕ, Bool, true, false, cond, not, List, [], ◌∷◌, map, Option, Some, None}
use Rattle.std.specs.Prelude.{◌&&◌}
use Rattle.std.specs.Option.{option_map, option_map_or, option_and_then, is_some}
use Rattle.std.specs.Ordering.{nat_cmp}
use Rattle.std.specs.Map.{set_value}
use Rattle.std.specs.BTreeMap.{is_at}
use Rattle.std.proofs.lemmas.Map.Made.{lookup-map_values}
use Rattle.zq_message.specs.declared.message.QueryableInfoType.{QueryableInfoType}
use Rattle.zq_message.specs.declared.message.Region.{Region}
use Rattle.zq_message.specs.Region.{region_index}
use Rattle.zq_message.specs.RegionMap.{value_at}
use Rattle.zq_strategy.specs.declared.types.Declaration.{Declaration}
use Rattle.zq_strategy.specs.declared.types.FaceRecord.{FaceRecord}
use Rattle.zq_strategy.specs.declared.types.FinalMark.{FinalMark}
use Rattle.zq_strategy.specs.declared.types.FinalMark.TheVariants as mark
use Rattle.zq_strategy.specs.Kept.{face_at, has_any, has_face, is_full, change_face, declare, withdraw, registered, unregistered, declaration, declaration_at, is_apart, new_face, with_face_opened, without_face}
use Rattle.zq_strategy.specs.Marks.{finalized, marked}
use Rattle.zq_strategy.specs.Moved.{Keeps, move_declared, move_face, move_hat, move_mark}
use Rattle.zq_strategy.specs.Regions.{is_upstream, strategy_at}
use Rattle.zq_strategy.proofs.OffersMoved.{key_moved, key_left}
use Rattle.zq_strategy.specs.State.{FaceState, HatState}
use Rattle.zq_machine.specs.declared.face.OpenFace.{OpenFace}
use Rattle.zq_machine.specs.State.{Core, at, is_region, hat_at, has_hat, hat_of, is_full_region, put_hat, change_hat, change_hat_of, joined, has_declared_in, clashes_in}
use Rattle.zq_machine.specs.Moved.{move_region, move_core}
use Rattle.zq_index.proofs.Mapped.{insert-map, remove-map, set-map, change-map}
use Rattle.zq_machine.proofs.EntriesMoved.{is_some-map}

module _ (φ : List ℕ → List ℕ) where
  -- a declaration and a face without their numbers
  abbrev pub moved_declaration : Declaration → Declaration
  moved_declaration d = (move_declared φ (0, d)).1

  abbrev pub moved_face : FaceState → FaceState
  moved_face f = (move_face φ (0, f)).1

  -- ---- questions
  pub face_found : (n : ℕ) (s : HatState) → face_at n (move_hat φ s) ≡ option_map moved_face (face_at n s)
  face_found n s = lookup-map_values moved_face (is_at (nat_cmp n)) s.faces

  declaration_by : (id : ℕ) (o : Option FaceState) → option_and_then (declaration id) (option_map moved_face o) ≡ option_map moved_declaration (option_and_then (declaration id) o)
  declaration_by id None = refl
  declaration_by id (Some f) = lookup-map_values moved_declaration (is_at (nat_cmp id)) f.declared

  pub declaration_found : (n id : ℕ) (s : HatState) → declaration_at n id (move_hat φ s) ≡ option_map moved_declaration (declaration_at n id s)
  declaration_found n id s = ap (option_and_then (declaration id)) (face_found n s) ∙ declaration_by id (face_at n s)

  pub declared_moved : (n id : ℕ) (h : Option HatState) → has_declared_in n id (option_map (move_hat φ) h) ≡ has_declared_in n id h
  declared_moved n id None = refl
  declared_moved n id (Some s) = ap is_some (declaration_found n id s) ∙ is_some-map moved_declaration (declaration_at n id s)

  module _ (keeps : Keeps φ) where
    apart_by : (key : List ℕ) (o : Option Declaration) → option_map_or (is_apart (φ key)) (option_map moved_declaration o) false ≡ option_map_or (is_apart key) o false
    apart_by key None = refl
    apart_by key (Some d) = ap not (keeps.same d.key key)

    pub clashes_moved : (n id : ℕ) (key : List ℕ) (h : Option HatState) → clashes_in n id (φ key) (option_map (move_hat φ) h) ≡ clashes_in n id key h
    clashes_moved n id key None = refl
    clashes_moved n id key (Some s) = ap (λ o. option_map_or (is_apart (φ key)) o false) (declaration_found n id s) ∙ apart_by key (declaration_at n id s)

  any_moved : (faces : List (ℕ × FaceState)) → has_any (map (move_face φ) faces) ≡ has_any faces
  any_moved [] = refl
  any_moved (f ∷ fs) = refl

  full_by : (h : Option HatState) → option_map_or is_full (option_map (move_hat φ) h) false ≡ option_map_or is_full h false
  full_by None = refl
  full_by (Some s) = ap (λ b. is_upstream (strategy_at s) && b) (any_moved s.faces)

  -- ---- changes
  pub face_changed : (n : ℕ) (g h : FaceState → FaceState) → ((f : FaceState) → g (moved_face f) ≡ moved_face (h f)) → (s : HatState) → change_face n g (move_hat φ s) ≡ move_hat φ (change_face n h s)
  face_changed n g h same s = ap (λ l. record (move_hat φ s) { faces = l }) (change-map moved_face (is_at (nat_cmp n)) g h same s.faces)

  declare_moved : (id : ℕ) (key : List ℕ) (i : QueryableInfoType) (f : FaceState) → declare id (φ key) i (moved_face f) ≡ moved_face (declare id key i f)
  declare_moved id key i f = ap (λ l. record (moved_face f) { declared = l }) (insert-map moved_declaration nat_cmp f.declared id (record { key = key; info = i }))

  withdraw_moved : (id : ℕ) (f : FaceState) → withdraw id (moved_face f) ≡ moved_face (withdraw id f)
  withdraw_moved id f = ap (λ l. record (moved_face f) { declared = l }) (remove-map moved_declaration (is_at (nat_cmp id)) f.declared)

  module _ (keeps : Keeps φ) where
    mark_moved : (m : FinalMark) (set : Bool) (f : FaceState) → marked (move_mark φ m) set (moved_face f) ≡ moved_face (marked m set f)
    mark_moved mark.Initial set f = refl
    mark_moved (mark.Key key) true f = ap (λ l. record (moved_face f) { finalized = l }) (key_moved φ keeps f.finalized key)
    mark_moved (mark.Key key) false f = ap (λ l. record (moved_face f) { finalized = l }) (key_left φ keeps f.finalized key)

    pub finalized_moved : (n : ℕ) (m : FinalMark) (set : Bool) (s : HatState) → finalized n (move_mark φ m) set (move_hat φ s) ≡ move_hat φ (finalized n m set s)
    finalized_moved n m set s = face_changed n (marked (move_mark φ m) set) (marked m set) (mark_moved m set) s

  pub registered_moved : (n id : ℕ) (key : List ℕ) (node : ℕ) (i : QueryableInfoType) (s : HatState) → registered n id (φ key) node i (move_hat φ s) ≡ move_hat φ (registered n id key node i s)
  registered_moved n id key node i s = face_changed n (declare id (φ key) i) (declare id key i) (declare_moved id key i) s

  pub unregistered_moved : (n id : ℕ) (s : HatState) → unregistered n id (move_hat φ s) ≡ move_hat φ (unregistered n id s)
  unregistered_moved n id s = face_changed n (withdraw id) (withdraw id) (withdraw_moved id) s

  pub left_moved : (n : ℕ) (s : HatState) → without_face n (move_hat φ s) ≡ move_hat φ (without_face n s)
  left_moved n s = ap (λ l. record (move_hat φ s) { faces = l }) (remove-map moved_face (is_at (nat_cmp n)) s.faces)

  joined_by : (r : FaceRecord) (s : HatState) (b : Bool) → cond b (move_hat φ s) (with_face_opened r (move_hat φ s)) ≡ move_hat φ (cond b s (with_face_opened r s))
  joined_by r s true = refl
  joined_by r s false = ap (λ l. record (move_hat φ s) { faces = l }) (insert-map moved_face nat_cmp s.faces r.face.0 (new_face r s.told_start))

  pub joined_moved : (r : FaceRecord) (s : HatState) → joined r (move_hat φ s) ≡ move_hat φ (joined r s)
  joined_moved r s =
      ap (λ o. cond (is_some o) (move_hat φ s) (with_face_opened r (move_hat φ s))) (face_found r.face.0 s)
      ∙ ap (λ b. cond b (move_hat φ s) (with_face_opened r (move_hat φ s))) (is_some-map moved_face (face_at r.face.0 s))
      ∙ joined_by r s (has_face r.face.0 s)

  -- ---- the hats of a gateway
  hat_by : (hats : List (ℕ × HatState)) (r : Region) (b : Bool) → cond b (value_at (map (move_region φ) hats) r) None ≡ option_map (move_hat φ) (cond b (value_at hats r) None)
  hat_by hats r true = lookup-map_values (move_hat φ) (is_at (nat_cmp (region_index r))) hats
  hat_by hats r false = refl

  pub hat_found : (hats : List (ℕ × HatState)) (r : Region) → hat_at r (map (move_region φ) hats) ≡ option_map (move_hat φ) (hat_at r hats)
  hat_found hats r = hat_by hats r (is_region r)

  put_moved : (hats : List (ℕ × HatState)) (r : Region) (g h : HatState → HatState) → ((s : HatState) → g (move_hat φ s) ≡ move_hat φ (h s)) → (o : Option HatState)
      → put_hat r g (map (move_region φ) hats) (option_map (move_hat φ) o) ≡ map (move_region φ) (put_hat r h hats o)
  put_moved hats r g h same None = refl
  put_moved hats r g h same (Some s) =
      ap (set_value (is_at (nat_cmp (region_index r))) (map (move_region φ) hats)) (same s) ∙ set-map (move_hat φ) (is_at (nat_cmp (region_index r))) hats (h s)

  pub hat_changed : (hats : List (ℕ × HatState)) (r : Region) (g h : HatState → HatState) → ((s : HatState) → g (move_hat φ s) ≡ move_hat φ (h s))
      → change_hat r g (map (move_region φ) hats) ≡ map (move_region φ) (change_hat r h hats)
  hat_changed hats r g h same = ap (put_hat r g (map (move_region φ) hats)) (hat_found hats r) ∙ put_moved hats r g h same (hat_at r hats)

  module _ (c : Core) where
    pub has_moved : (r : Region) → has_hat r (move_core φ c) ≡ has_hat r c
    has_moved r = ap is_some (hat_found c.hats r) ∙ is_some-map (move_hat φ) (hat_at r c.hats)

    pub full_moved : (r : Region) → is_full_region r (move_core φ c) ≡ is_full_region r c
    full_moved r = ap (λ o. option_map_or is_full o false) (hat_found c.hats r) ∙ full_by (hat_at r c.hats)

    own_by : (o : Option OpenFace) → option_and_then (λ (o : OpenFace). hat_at o.region (map (move_region φ) c.hats)) o ≡ option_map (move_hat φ) (option_and_then (λ (o : OpenFace). hat_at o.region c.hats) o)
    own_by None = refl
    own_by (Some o) = hat_found c.hats o.region

    pub own_found : (face : ℕ) → hat_of face (move_core φ c) ≡ option_map (move_hat φ) (hat_of face c)
    own_found face = own_by (at face c.faces)

    module _ (g h : HatState → HatState) (same : (s : HatState) → g (move_hat φ s) ≡ move_hat φ (h s)) where
      changed_by : (o : Option OpenFace) → option_map_or (λ (o : OpenFace). change_hat o.region g (map (move_region φ) c.hats)) o (map (move_region φ) c.hats)
          ≡ map (move_region φ) (option_map_or (λ (o : OpenFace). change_hat o.region h c.hats) o c.hats)
      changed_by None = refl
      changed_by (Some o) = hat_changed c.hats o.region g h same

      pub own_changed : (face : ℕ) → change_hat_of face g (move_core φ c) ≡ move_core φ (change_hat_of face h c)
      own_changed face = ap (λ l. record (move_core φ c) { hats = l }) (changed_by (at face c.faces))
