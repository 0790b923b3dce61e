-- A hat whose texts are moved offers for the moved key what it offered, moved.
use Rattle.std.proofs.Common.{◌≡◌, ◌∙◌, sym, ap, refl, ℕ, Bool, true, false, cond, List, [], ◌∷◌, ◌++◌, Some, None, Option, map, take, drop, length}
use Rattle.std.specs.Prelude.{◌-◌, ◌&&◌, ◌||◌, not, reverse}
use Rattle.std.specs.declared.cmp.Ordering.{Ordering}
use Rattle.std.specs.declared.cmp.Ordering.TheVariants.{Less, Equal, Greater}
use Rattle.std.specs.Ordering.{nat_cmp, is_lt, is_eq, match_ordering, ordering_then}
use Rattle.std.specs.List.{flat_map, list_any, suffix_len, prefix_len}
use Rattle.std.specs.BTreeMap.{is_at}
use Rattle.std.specs.Set.{remove_key}
use Rattle.std.specs.BTreeSet.{insert_key}
use Rattle.std.proofs.lemmas.List.{take-map, drop-map, length-map, reverse-append, map-append}
use Rattle.zq_key.proofs.Naturals.{fold-map, fold-moved, flat_map-map}
use Rattle.zq_key.specs.Key.{intersects}
use Rattle.zq_message.specs.declared.message.QueryableInfoType.{QueryableInfoType}
use Rattle.zq_message.specs.declared.message.Region.{Region}
use Rattle.zq_strategy.specs.declared.types.Declaration.{Declaration}
use Rattle.zq_strategy.specs.declared.offer.QueryTargetQabl.{QueryTargetQabl}
use Rattle.zq_strategy.specs.declared.types.Strategy.{Strategy}
use Rattle.zq_strategy.specs.declared.types.Strategy.TheVariants as strategy
use Rattle.zq_index.specs.Infos.{joined}
use Rattle.zq_index.specs.Texts.{text_cmp}
use Rattle.zq_strategy.specs.Kept.{with_declared, info, with_key, with_keys, declared_keys}
use Rattle.zq_strategy.specs.OfferOrder.{distance, is_local, offer_cmp, place, sorted}
use Rattle.zq_strategy.specs.Offers.{offer_list, offers_on, offers_for, declared_offers, bare_offer, bare_on, bare_offers, may_have, offers_by, offers_of}
use Rattle.zq_strategy.specs.Regions.{is_north, is_south, same_region, strategy_at}
use Rattle.zq_strategy.specs.State.{FaceState, HatState}
use Rattle.zq_strategy.specs.Moved.{Keeps, move_declared, move_face, move_hat, move_offer}
use Rattle.zq_strategy.proofs.RoutersMoved.{router_offers_moved}

-- ---- putting in order
module _ {X Y : Type 0} (g : X → Y) where
  prefix_moved : (p : Y → Bool) (q : X → Bool) → ((x : X) → p (g x) ≡ q x) → (xs : List X) → prefix_len p (map g xs) ≡ prefix_len q xs
  prefix_moved p q same [] = refl
  prefix_moved p q same (x ∷ xs) = rw (same x, prefix_moved p q same xs) refl

  reverse_moved : (xs : List X) → reverse (map g xs) ≡ map g (reverse xs)
  reverse_moved [] = refl
  reverse_moved (x ∷ xs) =
      reverse-append (g x ∷ []) (map g xs)
      ∙ ap (λ l. l ++ g x ∷ []) (reverse_moved xs)
      ∙ sym (map-append g (reverse xs) (x ∷ []))
      ∙ ap (map g) (sym (reverse-append (x ∷ []) xs))

  suffix_moved : (p : Y → Bool) (q : X → Bool) → ((x : X) → p (g x) ≡ q x) → (xs : List X) → suffix_len p (map g xs) ≡ suffix_len q xs
  suffix_moved p q same xs = ap (prefix_len p) (reverse_moved xs) ∙ prefix_moved p q same (reverse xs)

  inserted_moved : (xs : List X) (i : ℕ) (x : X) → take i (map g xs) ++ g x ∷ drop i (map g xs) ≡ map g (take i xs ++ x ∷ drop i xs)
  inserted_moved xs i x = (λ j. take-map g i xs j ++ g x ∷ drop-map g i xs j) ∙ sym (map-append g (take i xs) (x ∷ drop i xs))

  place_moved : (cmp : Y → Y → Ordering) (cmp' : X → X → Ordering) → ((a b : X) → cmp (g a) (g b) ≡ cmp' a b) → (xs : List X) (x : X) → place cmp (map g xs) (g x) ≡ map g (place cmp' xs x)
  place_moved cmp cmp' same xs x =
      let at : length (map g xs) - suffix_len (λ y. is_lt (cmp (g x) y)) (map g xs) ≡ length xs - suffix_len (λ y. is_lt (cmp' x y)) xs =
      λ j. length-map xs g j - suffix_moved (λ y. is_lt (cmp (g x) y)) (λ y. is_lt (cmp' x y)) (λ y. ap is_lt (same x y)) xs j in
      ap (λ i. take i (map g xs) ++ g x ∷ drop i (map g xs)) at ∙ inserted_moved xs (length xs - suffix_len (λ y. is_lt (cmp' x y)) xs) x

  sorted_moved : (cmp : Y → Y → Ordering) (cmp' : X → X → Ordering) → ((a b : X) → cmp (g a) (g b) ≡ cmp' a b) → (xs : List X) → sorted cmp (map g xs) ≡ map g (sorted cmp' xs)
  sorted_moved cmp cmp' same xs = fold-moved g (map g) (place cmp) (place cmp') (place_moved cmp cmp' same) [] xs

module _ (φ : List ℕ → List ℕ) (keeps : Keeps φ) where
  -- ---- the declared keys
  key_by : (k x : List ℕ) (xs : List (List ℕ)) (r : Ordering) → insert_key text_cmp (map φ xs) (φ k) ≡ map φ (insert_key text_cmp xs k)
      → match_ordering r (φ k ∷ φ x ∷ map φ xs) (φ x ∷ map φ xs) (φ x ∷ insert_key text_cmp (map φ xs) (φ k)) ≡ map φ (match_ordering r (k ∷ x ∷ xs) (x ∷ xs) (x ∷ insert_key text_cmp xs k))
  key_by k x xs Less ih = refl
  key_by k x xs Equal ih = refl
  key_by k x xs Greater ih = ap (λ l. φ x ∷ l) ih

  pub key_moved : (xs : List (List ℕ)) (k : List ℕ) → insert_key text_cmp (map φ xs) (φ k) ≡ map φ (insert_key text_cmp xs k)
  key_moved [] k = refl
  key_moved (x ∷ xs) k =
      ap (λ r. match_ordering r (φ k ∷ φ x ∷ map φ xs) (φ x ∷ map φ xs) (φ x ∷ insert_key text_cmp (map φ xs) (φ k))) (keeps.order k x)
      ∙ key_by k x xs (text_cmp k x) (key_moved xs k)

  left_by : (k : List ℕ) (xs : List (List ℕ)) (b : Bool) → remove_key (is_at (text_cmp (φ k))) (map φ xs) ≡ map φ (remove_key (is_at (text_cmp k)) xs)
      → (x : List ℕ) → cond b (map φ xs) (φ x ∷ remove_key (is_at (text_cmp (φ k))) (map φ xs)) ≡ map φ (cond b xs (x ∷ remove_key (is_at (text_cmp k)) xs))
  left_by k xs true ih x = refl
  left_by k xs false ih x = ap (λ l. φ x ∷ l) ih

  pub key_left : (xs : List (List ℕ)) (k : List ℕ) → remove_key (is_at (text_cmp (φ k))) (map φ xs) ≡ map φ (remove_key (is_at (text_cmp k)) xs)
  key_left [] k = refl
  key_left (x ∷ xs) k =
      ap (λ r. cond (is_eq r) (map φ xs) (φ x ∷ remove_key (is_at (text_cmp (φ k))) (map φ xs))) (keeps.order k x)
      ∙ left_by k xs (is_at (text_cmp k) x) (key_left xs k) x

  face_keys_moved : (ks : List (List ℕ)) (f : ℕ × FaceState) → with_keys (map φ ks) (move_face φ f) ≡ map φ (with_keys ks f)
  face_keys_moved ks f = fold-moved (move_declared φ) (map φ) with_key with_key (λ l d. key_moved l d.1.key) ks f.1.declared

  keys_moved : (faces : List (ℕ × FaceState)) → declared_keys (map (move_face φ) faces) ≡ map φ (declared_keys faces)
  keys_moved faces = fold-moved (move_face φ) (map φ) with_keys with_keys face_keys_moved [] faces

  -- ---- the offers
  declared_moved : (key : List ℕ) (m : Option QueryableInfoType) (d : ℕ × Declaration) → with_declared (φ key) m (move_declared φ d) ≡ with_declared key m d
  declared_moved key m d = ap (λ b. cond b (joined m (Some d.1.info)) m) (keeps.same d.1.key key)

  info_moved : (key : List ℕ) (f : ℕ × FaceState) → info (φ key) (move_face φ f).1 ≡ info key f.1
  info_moved key f = fold-map (move_declared φ) (with_declared (φ key)) (with_declared key) (declared_moved key) None f.1.declared

  offer_moved : (region : Region) (q key : List ℕ) (n : ℕ) (m : Option QueryableInfoType) → offer_list region (φ q) (φ key) n m ≡ map (move_offer φ) (offer_list region q key n m)
  offer_moved region q key n None = refl
  offer_moved region q key n (Some i) =
      ap (λ b. record { face = record { 0 = n }; info = Some (record { complete = i.complete && b; distance = cond (is_local region) 0 1 }); key = φ key; region = region; node = 0 } ∷ []) (keeps.cover key q)

  face_moved : (region : Region) (q key : List ℕ) (f : ℕ × FaceState) → offers_on region (φ q) (φ key) (move_face φ f) ≡ map (move_offer φ) (offers_on region q key f)
  face_moved region q key f = ap (offer_list region (φ q) (φ key) f.0) (info_moved key f) ∙ offer_moved region q key f.0 (info key f.1)

  for_by : (region : Region) (faces : List (ℕ × FaceState)) (q key : List ℕ) (b : Bool) → cond b (flat_map (offers_on region (φ q) (φ key)) (map (move_face φ) faces)) [] ≡ map (move_offer φ) (cond b (flat_map (offers_on region q key) faces) [])
  for_by region faces q key true = flat_map-map (move_face φ) (move_offer φ) (offers_on region (φ q) (φ key)) (offers_on region q key) (face_moved region q key) faces
  for_by region faces q key false = refl

  for_moved : (region : Region) (faces : List (ℕ × FaceState)) (q key : List ℕ) → offers_for region (map (move_face φ) faces) (φ q) (φ key) ≡ map (move_offer φ) (offers_for region faces q key)
  for_moved region faces q key =
      ap (λ b. cond b (flat_map (offers_on region (φ q) (φ key)) (map (move_face φ) faces)) []) (keeps.meet key q) ∙ for_by region faces q key (intersects key q)

  all_moved : (region : Region) (faces : List (ℕ × FaceState)) (q : List ℕ) → declared_offers region (map (move_face φ) faces) (φ q) ≡ map (move_offer φ) (declared_offers region faces q)
  all_moved region faces q =
      ap (flat_map (offers_for region (map (move_face φ) faces) (φ q))) (keys_moved faces)
      ∙ flat_map-map φ (move_offer φ) (offers_for region (map (move_face φ) faces) (φ q)) (offers_for region faces q) (for_moved region faces q) (declared_keys faces)

  finalized_moved : (q : List ℕ) (keys : List (List ℕ)) → list_any (is_at (text_cmp (φ q))) (map φ keys) ≡ list_any (is_at (text_cmp q)) keys
  finalized_moved q [] = refl
  finalized_moved q (k ∷ ks) = λ i. is_eq (keeps.order q k i) || finalized_moved q ks i

  may_moved : (s : Strategy) (q : List ℕ) (f : ℕ × FaceState) → may_have s (φ q) (move_face φ f).1 ≡ may_have s q f.1
  may_moved strategy.Broker q f = refl
  may_moved strategy.Client q f = ap not (finalized_moved q f.1.finalized)
  may_moved strategy.Peer q f = ap (λ b. cond (is_south f.1.remote_bound) (not b) (not f.1.initial)) (finalized_moved q f.1.finalized)
  may_moved strategy.Router q f = refl

  bare_by : (region : Region) (q : List ℕ) (n : ℕ) (b : Bool) → cond b (bare_offer region (φ q) n ∷ []) [] ≡ map (move_offer φ) (cond b (bare_offer region q n ∷ []) [])
  bare_by region q n true = refl
  bare_by region q n false = refl

  bare_moved : (s : Strategy) (region : Region) (q : List ℕ) (f : ℕ × FaceState) → bare_on s region (φ q) (move_face φ f) ≡ map (move_offer φ) (bare_on s region q f)
  bare_moved s region q f = ap (λ b. cond b (bare_offer region (φ q) f.0 ∷ []) []) (may_moved s q f) ∙ bare_by region q f.0 (may_have s q f.1)

  bares_by : (s : Strategy) (region : Region) (faces : List (ℕ × FaceState)) (q : List ℕ) (b : Bool) → cond b (flat_map (bare_on s region (φ q)) (map (move_face φ) faces)) [] ≡ map (move_offer φ) (cond b (flat_map (bare_on s region q) faces) [])
  bares_by s region faces q true = flat_map-map (move_face φ) (move_offer φ) (bare_on s region (φ q)) (bare_on s region q) (bare_moved s region q) faces
  bares_by s region faces q false = refl

  beside_moved : (s : Strategy) (region src : Region) (faces : List (ℕ × FaceState)) (q : List ℕ) (b : Bool)
      → cond b [] (declared_offers region (map (move_face φ) faces) (φ q) ++ bare_offers s region src (map (move_face φ) faces) (φ q)) ≡ map (move_offer φ) (cond b [] (declared_offers region faces q ++ bare_offers s region src faces q))
  beside_moved s region src faces q true = refl
  beside_moved s region src faces q false =
      (λ i. all_moved region faces q i ++ bares_by s region faces q (is_north region && not (is_north src)) i)
      ∙ sym (map-append (move_offer φ) (declared_offers region faces q) (bare_offers s region src faces q))

  by_moved : (k : Strategy) (s : HatState) (src : Region) (q : List ℕ) (node : Option ℕ) → offers_by k (move_hat φ s) src (φ q) node ≡ map (move_offer φ) (offers_by k s src q node)
  by_moved strategy.Broker s src q _ = all_moved s.region s.faces q
  by_moved strategy.Client s src q _ = beside_moved strategy.Client s.region src s.faces q (same_region src s.region)
  by_moved strategy.Peer s src q _ = beside_moved strategy.Peer s.region src s.faces q (same_region src s.region)
  by_moved strategy.Router s src q node = router_offers_moved φ keeps s src q node

  order_moved : (a b : QueryTargetQabl) → offer_cmp (move_offer φ a) (move_offer φ b) ≡ offer_cmp a b
  order_moved a b = ap (λ r. ordering_then (nat_cmp (distance a) (distance b)) (ordering_then r (nat_cmp a.face.0 b.face.0))) (keeps.order a.key b.key)

  pub offers_moved : (s : HatState) (src : Region) (q : List ℕ) (node : Option ℕ) → offers_of (move_hat φ s) src (φ q) node ≡ map (move_offer φ) (offers_of s src q node)
  offers_moved s src q node =
      ap (sorted offer_cmp) (by_moved (strategy_at s) s src q node)
      ∙ sorted_moved (move_offer φ) offer_cmp offer_cmp order_moved (offers_by (strategy_at s) s src q node)
