-- What the index says of a key is what the faces declared on it.
use Rattle.std.proofs.Common.{◌≡◌, ℕ, Bool, true, false, cond, List, [], ◌∷◌, ◌++◌, ap, ◌∙◌, refl, Some, None, Option, sym, eqb-true, fold, map}
use Rattle.std.specs.Prelude.{◌==◌, filter}
use Rattle.std.specs.Option.{option_map_or, option_map, option_to_list}
use Rattle.std.specs.declared.cmp.Ordering.TheVariants.{Less}
use Rattle.std.specs.Ordering.{nat_cmp}
use Rattle.std.specs.Cmp.{nat_eq_equiv, nat_cmp_total}
use Rattle.std.specs.List.{AllByRecursion, flat_map}
use Rattle.std.specs.List.Sorted.{IsStrictlySortedBy}
use Rattle.std.specs.Map.{keys_of}
use Rattle.std.proofs.lemmas.Map.Lookups.{exact_unsigned}
use Rattle.std.proofs.lemmas.Map.Keys.{sorted_head, sorted_tail}
use Rattle.std.proofs.lemmas.List.{map-append}
use Rattle.zq_message.specs.declared.message.QueryableInfoType.{QueryableInfoType}
use Rattle.zq_strategy.specs.declared.types.Declaration.{Declaration}
use Rattle.zq_index.specs.Infos.{joined, merge}
use Rattle.zq_strategy.specs.Kept.{is_on, with_declared, info, with_face, faces_info}
use Rattle.zq_strategy.specs.Offers.{offer_list, offers_on}
use Rattle.zq_message.specs.declared.message.Region.{Region}
use Rattle.zq_strategy.specs.State.{FaceState}
use Rattle.zq_index.specs.Holders.{Place, Holdings, Index, place_cmp, held_at, with_held}
use Rattle.zq_index.specs.Texts.{at_text}
use Rattle.zq_strategy.specs.OfferOrder.{group_offer, groups_from}
use Rattle.zq_hat.specs.Tied.{held_by, held, IsTied}
use Rattle.zq_index.proofs.Orders.{place_total, place_exact}
use Rattle.zq_hat.proofs.Held.{found_in_held, sorted_held, above_held}
use Rattle.zq_index.proofs.Merges.{held_from}
use Rattle.zq_key.proofs.Lookups.{same_entries, less_apart}

module _ (faces : List (ℕ × FaceState)) (index : Index) (t : IsTied faces index) (key : List ℕ) where
  sorted_none : IsStrictlySortedBy place_cmp []
  unfolding IsStrictlySortedBy
  sorted_none = tt

  sorted_by : (o : Option Holdings) → at_text key index ≡ o → IsStrictlySortedBy place_cmp (keys_of (option_map_or (λ hs. hs) o []))
  sorted_by None is = sorted_none
  sorted_by (Some hs) is = t.places key hs is

  pub sorted_at : IsStrictlySortedBy place_cmp (keys_of (held_at key index))
  sorted_at = sorted_by (at_text key index) refl

  -- the index has the faces' declarations on the key
  pub held_is : held_at key index ≡ held key faces
  held_is = same_entries place_total place_exact (held_at key index) (held key faces) sorted_at (sorted_held key faces t.numbers t.ids)
      (λ p. t.same key p ∙ sym (found_in_held key p.0 p.1 faces t.numbers t.ids))

-- ---- the merge over the declarations
same_group : (n : ℕ) (a b : List (ℕ × QueryableInfoType)) → cond (n == n) a b ≡ a
same_group n a b = ap (λ c. cond c a b) (nat_eq_equiv.refl n)

not_same : (n m : ℕ) (b : Bool) → (n == m) ≡ b → (n ≡ m → ⊥) → (n == m) ≡ false
not_same n m true e ne = absurd (ne (eqb-true _ _ e))
not_same n m false e ne = e

module _ (key : List ℕ) where
  part_by : (m : Option QueryableInfoType) (n : ℕ) (d : ℕ × Declaration) (ds : List (ℕ × Declaration)) (b : Bool) (more : (x : Option QueryableInfoType) → fold (with_held {P = Place}) x (map (λ e. ((n, e.0), e.1.info)) (filter (is_on key) ds)) ≡ fold (with_declared key) x ds)
      → fold (with_held {P = Place}) m (map (λ e. ((n, e.0), e.1.info)) (cond b (d ∷ filter (is_on key) ds) (filter (is_on key) ds))) ≡ fold (with_declared key) (cond b (joined m (Some d.1.info)) m) ds
  part_by m n d ds true more = more (joined m (Some d.1.info))
  part_by m n d ds false more = more m

  part_merged : (m : Option QueryableInfoType) (n : ℕ) (ds : List (ℕ × Declaration)) → fold (with_held {P = Place}) m (map (λ e. ((n, e.0), e.1.info)) (filter (is_on key) ds)) ≡ fold (with_declared key) m ds
  part_merged m n [] = refl
  part_merged m n (d ∷ ds) = part_by m n d ds (is_on key d) (λ x. part_merged x n ds)

  fold_joined : (m : Option QueryableInfoType) (xs ys : Holdings) → fold with_held m (xs ++ ys) ≡ fold with_held (fold with_held m xs) ys
  fold_joined m [] ys = refl
  fold_joined m (x ∷ xs) ys = fold_joined (with_held m x) xs ys

  region_from : (m : Option QueryableInfoType) (faces : List (ℕ × FaceState)) → fold with_held m (held key faces) ≡ fold (with_face key) m faces
  region_from m [] = refl
  region_from m (f ∷ fs) =
      fold_joined m (held_by key f) (held key fs)
      ∙ ap (λ x. fold with_held x (held key fs)) (held_from m (held_by key f) ∙ ap (joined m) (part_merged None f.0 f.1.declared))
      ∙ region_from (with_face key m f) fs

  pub region_is : (faces : List (ℕ × FaceState)) → fold with_held None (held key faces) ≡ faces_info key faces
  region_is faces = region_from None faces

  -- ---- the merge for each face
  first_part : (m : Option QueryableInfoType) (n i : ℕ) (j : QueryableInfoType) (hs : Holdings) → groups_from (option_map (λ i. (n, i)) m) (((n, i), j) ∷ hs) ≡ groups_from (option_map (λ i. (n, i)) (joined m (Some j))) hs
  first_part None n i j hs = refl
  first_part (Some k) n i j hs = same_group n _ _

  groups_by : (m : Option QueryableInfoType) (n : ℕ) (d : ℕ × Declaration) (ds : List (ℕ × Declaration)) (rest : Holdings) (b : Bool)
      (more : (x : Option QueryableInfoType) → groups_from (option_map (λ i. (n, i)) x) (map (λ e. ((n, e.0), e.1.info)) (filter (is_on key) ds) ++ rest) ≡ groups_from (option_map (λ i. (n, i)) (fold (with_declared key) x ds)) rest)
      → groups_from (option_map (λ i. (n, i)) m) (map (λ e. ((n, e.0), e.1.info)) (cond b (d ∷ filter (is_on key) ds) (filter (is_on key) ds)) ++ rest) ≡ groups_from (option_map (λ i. (n, i)) (fold (with_declared key) (cond b (joined m (Some d.1.info)) m) ds)) rest
  groups_by m n d ds rest true more = first_part m n d.0 d.1.info _ ∙ more (joined m (Some d.1.info))
  groups_by m n d ds rest false more = more m

  part_grouped : (m : Option QueryableInfoType) (n : ℕ) (ds : List (ℕ × Declaration)) (rest : Holdings)
      → groups_from (option_map (λ i. (n, i)) m) (map (λ e. ((n, e.0), e.1.info)) (filter (is_on key) ds) ++ rest) ≡ groups_from (option_map (λ i. (n, i)) (fold (with_declared key) m ds)) rest
  part_grouped m n [] rest = refl
  part_grouped m n (d ∷ ds) rest = groups_by m n d ds rest (is_on key d) (λ x. part_grouped x n ds rest)

  rest_grouped : (m : Option QueryableInfoType) (n : ℕ) (rest : Holdings) → AllByRecursion (λ q. nat_cmp n q.0 ≡ Less) (keys_of rest)
      → groups_from (option_map (λ i. (n, i)) m) rest ≡ option_to_list (option_map (λ i. (n, i)) m) ++ groups_from None rest
  rest_grouped None n rest all = refl
  rest_grouped (Some i) n [] all = refl
  rest_grouped (Some i) n (h ∷ hs) all =
      let apart : (n == h.0.0) ≡ false = not_same n h.0.0 _ refl (less_apart nat_cmp_total exact_unsigned n h.0.0 all.0) in
      ap (λ b. cond b (groups_from (Some (n, merge i h.1)) hs) ((n, i) ∷ groups_from (Some (h.0.0, h.1)) hs)) apart

module _ (key : List ℕ) (region : Region) (q : List ℕ) where
  face_offer : (n : ℕ) (m : Option QueryableInfoType) → map (group_offer region q key) (option_to_list (option_map (λ i. (n, i)) m)) ≡ offer_list region q key n m
  face_offer n None = refl
  face_offer n (Some i) = refl

  pub offers_is : (faces : List (ℕ × FaceState)) → IsStrictlySortedBy nat_cmp (keys_of faces) → map (group_offer region q key) (groups_from None (held key faces)) ≡ flat_map (offers_on region q key) faces
  offers_is [] s = refl
  offers_is (f ∷ fs) s =
      let own = option_map (λ i. (f.0, i)) (info key f.1) in
      let grouped : groups_from None (held key (f ∷ fs)) ≡ option_to_list own ++ groups_from None (held key fs) =
      part_grouped key None f.0 f.1.declared (held key fs) ∙ rest_grouped key (info key f.1) f.0 (held key fs) (above_held key f.0 fs (sorted_head nat_cmp f.0 (keys_of fs) s)) in
      ap (map (group_offer region q key)) grouped
      ∙ map-append (group_offer region q key) (option_to_list own) (groups_from None (held key fs))
      ∙ (λ i. face_offer f.0 (info key f.1) i ++ offers_is fs (sorted_tail nat_cmp f.0 (keys_of fs) s) i)

module _ (faces : List (ℕ × FaceState)) (index : Index) (t : IsTied faces index) (key : List ℕ) where
  merged_by : (o : Option Holdings) → option_map_or (fold with_held None) o None ≡ fold with_held None (option_map_or (λ hs. hs) o [])
  merged_by None = refl
  merged_by (Some hs) = refl

  -- the index gives the region's information
  pub merged_is : option_map_or (fold with_held None) (at_text key index) None ≡ faces_info key faces
  merged_is = merged_by (at_text key index) ∙ ap (fold with_held None) (held_is faces index t key) ∙ region_is key faces
